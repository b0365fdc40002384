-- `list_input::accepted::list_accepted` meets its contract. The invariant: the parts before i are put. Assumes nothing.
use mathlib.Core.Path.{refl}
use native.Mathlib.Omega.{arith}
use Rattle.layout.specs.Limits.{most_elements}
use Rattle.layout.proofs.AnswerLaws.{exit_some}
use Rattle.mesh.proofs.AcceptedLaws.{cells_few}
use Rattle.split.proofs.PassedLaws.{passed_facts}
use Rattle.list_ranges.proofs.PartLaws.{part_told, texts_start, lines_turn, lines_end, lines_last}
use Rattle.list_input.proofs.PieceLaws.{refused_sizes, passed_all, split_told}
use Rattle.list_text.specs.Printing.{Put}
use Rattle.list_ranges.specs.Lines.{part_of}
use Rattle.list_input.proofs.accepted.list_accepted.Goals as goal
use Rattle.list_input.proofs.accepted.list_accepted.Goals.{After-put_dimensions}

pub prepare-prepared-requires : goal.prepare-prepared-requires
prepare-prepared-requires c =
    let f = passed_facts _ _ _ _ _ _ c.requires in
    (f.mesh, f.map, f.stencil, refl {a = most_elements}, refl {a = most_elements})

pub returns-in-Err : goal.returns-in-Err
returns-in-Err c = refused_sizes _ _ _ _ _ _ c.requires _ c.in-Err.ensures.0 (exit_some _ _ refl) c.put_refusal.ensures

pub loop-i-init : goal.loop-i-init
loop-i-init c = (omega arith, search texts_start)

pub put_imports-requires : goal.put_imports-requires
put_imports-requires c = (passed_facts _ _ _ _ _ _ c.requires).few

pub put_exports-requires : goal.put_exports-requires
put_exports-requires c =
    let f = passed_facts _ _ _ _ _ _ c.requires in
    (f.mesh, omega (arith, c.loop-i-test.true, f.few), f.few)

-- the lines of part i
part : (c : After-put_dimensions)
    → Put c.loop-i.text c.put_dimensions.new.text (part_of c.args.m.now c.args.parts c.args.owners.now c.args.stencil.now c.loop-i.i)
part c =
    let f = passed_facts _ _ _ _ _ _ c.requires in
    let few = cells_few _ _ f.mesh c.cell_count-cells.ensures.0 in
    part_told _ _ _ _ _ _ _ c.in_default.ensures.1 _ c.loop-i.auto.i (omega (arith, c.loop-i-test.true)) f.few _ c.cell_count-cells.ensures.0 few
    _ c.classify.ensures _ c.first_cell-first.ensures refl _ _ _ _ _ c.put_own.ensures c.put_imports.ensures c.put_exports.ensures c.put_dimensions.ensures

pub loop-i-preserved : goal.loop-i-preserved
loop-i-preserved c = (omega (arith, c.loop-i-test.true), lines_turn _ _ _ _ c.loop-i.invariant.1 _ c.loop-i.auto.i (part (goal.at.loop-i-preserved c).After-put_dimensions))

pub returns-in_default : goal.returns-in_default
returns-in_default c =
    passed_all _ _ _ _ _ _ c.requires _ c.in_default.ensures.0 refl
    (split_told _ _ _ _ _ _ _ c.put_line.ensures (lines_end _ _ _ _ c.loop-i.invariant.1 _ c.loop-i-test.false c.loop-i.invariant.0))

pub returns-in_default-2 : goal.returns-in_default-2
returns-in_default-2 c =
    passed_all _ _ _ _ _ _ c.requires _ c.in_default.ensures.0 refl
    (split_told _ _ _ _ _ _ _ c.put_line.ensures
    (lines_last _ _ _ _ c.loop-i.invariant.1 _ _ c.loop-i.auto.i (omega (arith, c.loop-i-test.true)) (part (goal.at.returns-in_default-2 c).After-put_dimensions)))

-- `list_parts::lists::put_exports` meets its contract. The invariant: the lines before part `other` are put. Assumes nothing.
use native.Mathlib.Omega.{arith}
use mathlib.Core.Path.{refl}
use Rattle.mesh.proofs.AcceptedLaws.{cells_few}
use Rattle.list_ranges.proofs.PartLaws.{export_told, exports_told, texts_start, lines_turn, lines_end, lines_last}
use Rattle.list_parts.proofs.lists.put_exports.Goals as goal

pub loop-other-init : goal.loop-other-init
loop-other-init c = (omega arith, search texts_start)

pub loop-other-preserved : goal.loop-other-preserved
loop-other-preserved c = (
  omega (arith, c.loop-other-test.true),
  lines_turn _ _ _ _ c.loop-other.invariant.1 _ c.loop-other.auto.other
      (export_told _ _ _ _ _ _ _ _ _ _ (cells_few _ _ c.requires.0 c.cell_count-cells.ensures.0) c.classify.ensures refl c.put_passing.ensures),
)

pub returns : goal.returns
returns c = exports_told _ _ _ _ _ _ _ _ _ _ c.first_cell-first.ensures c.cell_count-cells.ensures.0 (lines_end _ _ _ _ c.loop-other.invariant.1 _ c.loop-other-test.false c.loop-other.invariant.0)

pub returns-2 : goal.returns-2
returns-2 c =
    exports_told _ _ _ _ _ _ _ _ _ _ c.first_cell-first.ensures c.cell_count-cells.ensures.0
    (lines_last _ _ _ _ c.loop-other.invariant.1 _ _ c.loop-other.auto.other (omega (arith, c.loop-other-test.true))
    (export_told _ _ _ _ _ _ _ _ _ _ (cells_few _ _ c.requires.0 c.cell_count-cells.ensures.0) c.classify.ensures refl c.put_passing.ensures))

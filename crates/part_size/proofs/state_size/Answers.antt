-- `part_size::state_size` meets its contract. Assumes nothing.
use mathlib.Core.Path.{refl, sym, ◌∙◌}
use Prim.Native.Nat.{ℕ}
use native.Mathlib.Omega.{arith}
use lib.ListN.{length-replicate}
use Rattle.vocabulary.proofs.ListLaws.{zeros}
use Rattle.layout.specs.Limits.{element_places, record_places}
use Rattle.layout.proofs.AnswerLaws.{exit_answer, exit_some}
use Rattle.split.proofs.PassedLaws.{passed_facts}
use Rattle.part_start_plan.proofs.PlanLaws.{size_split, size_sizes, size_done}
use Rattle.part_size.proofs.state_size.Goals as goal

pub test_split-requires : goal.test_split-requires
test_split-requires c =
    (omega (arith, length-replicate {A = ℕ} record_places 0), zeros element_places)

pub returns-in_err-test_split : goal.returns-in_err-test_split
returns-in_err-test_split c =
    exit_answer _ _ _ c.from_residual.ensures.1 refl ∙ size_split _ _ _ _ _ _ c.in_err-test_split.ensures (exit_some _ _ refl)

pub prepare-requires : goal.prepare-requires
prepare-requires c =
    let f = passed_facts _ _ _ _ _ _ (sym c.in_ok-test_split.ensures) in
    (f.mesh, f.map, f.stencil, refl, refl)

pub returns-in_err-prepare : goal.returns-in_err-prepare
returns-in_err-prepare c =
    exit_answer _ _ _ c.from_residual-in_err-prepare.ensures.1 refl ∙ size_sizes _ _ _ _ _ (sym c.in_ok-test_split.ensures) _ c.in_err-prepare.ensures.0 (exit_some _ _ refl)

pub draw_plan-p-requires : goal.draw_plan-p-requires
draw_plan-p-requires c =
    let sn = sym c.in_ok-test_split.ensures in
    let prepared = c.in_ok-prepare.ensures in
    (sn, sym prepared.0, prepared.1, prepared.2.inverted, omega arith, omega (arith, prepared.2.roomed.prev_room), refl)

pub returns : goal.returns
returns c =
    let sn = sym c.in_ok-test_split.ensures in
    let prepared = c.in_ok-prepare.ensures in
    size_done _ _ _ _ _ sn (sym prepared.0) _ _ _ (prepared.1) _ _ _ c.draw_plan-p.ensures

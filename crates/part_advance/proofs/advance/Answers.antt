-- `part_advance::advance` meets its contract. Assumes nothing.
use mathlib.Core.Path.{refl, ◌∙◌}
use native.Mathlib.Omega.{arith}
use Rattle.layout.proofs.AnswerLaws.{exit_answer, exit_some}
use Rattle.part_calls.specs.Calls.{advance_tests_in, advance_number, advance_answer, advance_state}
use Rattle.part_calls.proofs.OpenedLaws.{told_20}
use Rattle.part_advance.proofs.AdvanceLaws.{told_refused, told_done, opened_whole, counts_whole, owned_few}
use Rattle.part_advance.proofs.advance.Goals as goal

pub returns-in_err-s : goal.returns-in_err-s
unfolding advance_tests_in advance_number advance_answer advance_state
returns-in_err-s c = told_20 _ _ _ _ _ _ _ c.from_residual.ensures.1 c.in_err-s.ensures.refused

pub returns-in_err-test_state : goal.returns-in_err-test_state
returns-in_err-test_state c =
    let told = told_refused _ _ c.in_ok-s.s.opened c.in_ok-s.ensures.opened _ c.in_err-test_state.ensures (exit_some _ _ refl) in
    (exit_answer _ _ _ c.from_residual-in_err-test_state.ensures.1 refl ∙ told.0, told.1)

pub next_round-requires : goal.next_round-requires
next_round-requires c =
    let at = c.in_ok-s.ensures.opened in
    (opened_whole _ _ c.in_ok-s.s.opened at, counts_whole _ _ c.in_ok-s.s.opened at _ c.sizes_of-sizes.ensures, omega (arith, c.if-sizes-le-FEW.true), omega arith)

pub next_round-requires-else-sizes-le-FEW : goal.next_round-requires-else-sizes-le-FEW
next_round-requires-else-sizes-le-FEW c =
    let at = c.in_ok-s.ensures.opened in (
      opened_whole _ _ c.in_ok-s.s.opened at,
      counts_whole _ _ c.in_ok-s.s.opened at _ c.sizes_of-sizes.ensures,
      omega (arith, owned_few _ _ c.in_ok-s.s.opened at _ c.sizes_of-sizes.ensures),
      omega arith,
    )

pub returns-then-sizes-le-FEW : goal.returns-then-sizes-le-FEW
returns-then-sizes-le-FEW c = told_done _ _ c.in_ok-s.s.opened c.in_ok-s.ensures.opened _ c.in_ok-test_state.ensures refl _ c.next_round.ensures

pub returns-else-sizes-le-FEW : goal.returns-else-sizes-le-FEW
returns-else-sizes-le-FEW c = told_done _ _ c.in_ok-s.s.opened c.in_ok-s.ensures.opened _ c.in_ok-test_state.ensures refl _ c.next_round-else-sizes-le-FEW.ensures

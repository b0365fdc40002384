-- `round::undivided_round` meets its contract. Assumes nothing.
use mathlib.Core.Path.{refl, sym, ap, ◌∙◌}
use Prim.Native.Nat.{ℕ}
use native.Mathlib.Omega.{arith}
use lib.ListN.{length-replicate}
use Rattle.vocabulary.proofs.ListLaws.{zeros}
use Rattle.layout.specs.Answers.{refusal_number}
use Rattle.layout.specs.Limits.{element_places, record_places}
use Rattle.layout.proofs.AnswerLaws.{exit_answer, exit_some}
use Rattle.walk_stencil.proofs.StencilLaws.{accepted_stencil, stencil_some}
use Rattle.round_rule.proofs.KindLaws.{unknown_rule}
use Rattle.round.proofs.UndividedLaws.{rule_good, told_mesh, told_10, told_unknown, told_11, told_kind}
use Rattle.round.proofs.undivided.undivided_round.Goals as goal

pub test_mesh_in-requires : goal.test_mesh_in-requires
test_mesh_in-requires c = (omega (arith, length-replicate {A = ℕ} record_places 0), zeros element_places)

pub returns-in_err-test_mesh_in : goal.returns-in_err-test_mesh_in
returns-in_err-test_mesh_in c =
    let told = told_mesh _ _ _ _ _ _ _ c.in_err-test_mesh_in.ensures (exit_some _ _ refl) in (exit_answer _ _ _ c.from_residual.ensures.1 refl ∙ told.0, told.1)

pub returns-then-bad_stencil : goal.returns-then-bad_stencil
returns-then-bad_stencil c = told_10 _ _ _ _ _ _ (sym c.in_ok-test_mesh_in.ensures) _ _ c.top_of.ensures.0 c.bad_stencil.ensures c.if-bad_stencil.true

pub overflow_sub-stencil : goal.overflow_sub-stencil
overflow_sub-stencil c = stencil_some _ _ c.bad_stencil.ensures c.if-bad_stencil.false

pub returns-in_err-kind : goal.returns-in_err-kind
returns-in_err-kind c =
    let told =
    told_unknown _ _ _ _ _ _ (sym c.in_ok-test_mesh_in.ensures) (accepted_stencil _ _ c.top_of.ensures.0 c.bad_stencil.ensures c.if-bad_stencil.false)
    _ c.try_from.ensures c.in_err-kind.was in
    let rule = unknown_rule _ (sym c.try_from.ensures ∙ c.in_err-kind.was) in
    (exit_answer _ _ _ c.from_residual-in_err-kind.ensures.1 (ap refusal_number rule) ∙ told.0, told.1)

pub returns-then-bad_weights : goal.returns-then-bad_weights
returns-then-bad_weights c =
    told_11 _ _ _ _ _ _ (sym c.in_ok-test_mesh_in.ensures)
    (accepted_stencil _ _ c.top_of.ensures.0 c.bad_stencil.ensures c.if-bad_stencil.false) _ _ c.try_from.ensures c.in_ok-kind.was _
    c.bad_weights.ensures c.if-bad_weights.true

pub round_on-requires : goal.round_on-requires
round_on-requires c = (
  sym c.in_ok-test_mesh_in.ensures,
  accepted_stencil _ _ c.top_of.ensures.0 c.bad_stencil.ensures c.if-bad_stencil.false,
  rule_good _ _ _ _ c.bad_weights.ensures c.if-bad_weights.false,
  omega arith,
  omega arith,
)

pub returns : goal.returns
returns c = told_kind _ _ _ _ _ _ _ _ c.try_from.ensures c.in_ok-kind.was _ _ c.round_on.ensures

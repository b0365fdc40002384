-- `part_calls::state::State::open` meets its contract. Assumes nothing.
use mathlib.Core.Path.{refl, ap}
use mathlib.Core.Bool.{not}
use Rattle.part_calls.proofs.OpenedLaws.{not_state, opened_here}
use Rattle.part_calls.proofs.state.State.open.Goals as goal

pub returns-then-not-is_state-clause-refused : goal.returns-then-not-is_state-clause-refused
returns-then-not-is_state-clause-refused c = (refl, not_state _ _ c.is_state.ensures (ap not c.if-not-is_state.true))

pub known-requires : goal.known-requires
known-requires c = opened_here _ _ _ c.is_state.ensures (ap not c.if-not-is_state.false) c.word_at-changes.ensures.0 c.word_at-changes.ensures.1

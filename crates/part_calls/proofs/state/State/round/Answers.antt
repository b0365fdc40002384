-- `part_calls::state::State::round` meets its contract. Assumes nothing.
use native.Mathlib.Omega.{arith}
use Rattle.part_calls.proofs.OpenedLaws.{long}
use Rattle.part_calls.proofs.state.State.round.Goals as goal

pub word_in-requires : goal.word_in-requires
word_in-requires c = omega (arith, long _ _ _ c.args.self.opened)

-- `part_calls::state::State::all_taken` meets its contract. Assumes nothing.
use native.Mathlib.Omega.{arith}
use Rattle.part_calls.proofs.state.State.all_taken.Goals as goal

pub all_taken-requires : goal.all_taken-requires
all_taken-requires c = omega (arith, c.args.self.opened.place_small)

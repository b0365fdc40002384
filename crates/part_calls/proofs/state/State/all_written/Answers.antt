-- `part_calls::state::State::all_written` meets its contract. Assumes nothing.
use native.Mathlib.Omega.{arith}
use Rattle.part_calls.proofs.state.State.all_written.Goals as goal

pub all_written-requires : goal.all_written-requires
all_written-requires c = omega (arith, c.args.self.opened.place_small)

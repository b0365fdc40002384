-- `part_calls::state::State::known` meets its contract. Assumes nothing.
use mathlib.Core.Path.{sym}
use Rattle.part_calls.proofs.OpenedLaws.{opened_cut, cut_length}
use Rattle.part_calls.proofs.state.State.known.Goals as goal

pub slice_bounds-result-end : goal.slice_bounds-result-end
slice_bounds-result-end c = sym (cut_length _ _ c.requires)

pub invariant_of-result : goal.invariant_of-result
invariant_of-result c = record { opened = opened_cut _ _ c.requires }

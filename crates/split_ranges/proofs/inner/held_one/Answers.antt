-- `split_ranges::inner::held_one` meets its contract. Assumes nothing.
use Rattle.split_ranges.proofs.SideLaws.{one_none, one_held}
use Rattle.split_ranges.proofs.inner.held_one.Goals as goal

pub returns-then-byte_at-eq0 : goal.returns-then-byte_at-eq0
returns-then-byte_at-eq0 c = search one_none

pub returns-else-byte_at-eq0 : goal.returns-else-byte_at-eq0
returns-else-byte_at-eq0 c = search one_held

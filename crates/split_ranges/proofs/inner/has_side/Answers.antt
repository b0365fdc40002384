-- `split_ranges::inner::has_side` meets its contract. Assumes nothing.
use Rattle.split_ranges.proofs.SideLaws.{side_mine, side_anothers, side_held, side_elsewhere}
use Rattle.split_ranges.proofs.inner.has_side.Goals as goal

pub returns-in-Mine : goal.returns-in-Mine
returns-in-Mine c = search side_mine

pub returns-in-Anothers : goal.returns-in-Anothers
returns-in-Anothers c = search side_anothers

pub returns-in-Held : goal.returns-in-Held
returns-in-Held c = search side_held

pub returns-in-HeldByAnother : goal.returns-in-HeldByAnother
returns-in-HeldByAnother c = search side_elsewhere

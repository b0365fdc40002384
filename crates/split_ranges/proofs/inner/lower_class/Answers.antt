-- `split_ranges::inner::lower_class` meets its contract. Assumes nothing.
use mathlib.Core.Bool.{true, false}
use Rattle.split_ranges.proofs.SideLaws.{is_shared, is_alone, is_theirs}
use Rattle.split_ranges.proofs.inner.lower_class.Goals as goal

pub returns-then-some_cell-2 : goal.returns-then-some_cell-2
returns-then-some_cell-2 c = search (is_shared true)

pub returns-then-some_cell-3 : goal.returns-then-some_cell-3
returns-then-some_cell-3 c = search (is_alone true)

pub returns-then-some_cell : goal.returns-then-some_cell
returns-then-some_cell c = search (is_alone false)

pub returns-then-some_cell-4 : goal.returns-then-some_cell-4
returns-then-some_cell-4 c = search (is_theirs true)

pub returns : goal.returns
returns c = search (is_theirs false)

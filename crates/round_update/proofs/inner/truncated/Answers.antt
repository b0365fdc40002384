-- `round_update::inner::truncated` meets its contract. Assumes nothing.
use Rattle.round_update.proofs.Registers.{wide_gives, short_sum, short_fits, short_gives}
use borrow.Author.Rules.{rules}
use Rattle.round_update.proofs.inner.truncated.Goals as goal

pub returns-then-sum-ltminus2000000000 : goal.returns-then-sum-ltminus2000000000
returns-then-sum-ltminus2000000000 c = search wide_gives

pub returns-then-sum-gt2000000000 : goal.returns-then-sum-gt2000000000
returns-then-sum-gt2000000000 c = search wide_gives

pub overflow_cast-result : goal.overflow_cast-result
overflow_cast-result c = short_sum _ _ c.ranges.sum c.requires c.if-sum-ltminus2000000000.false c.if-sum-gt2000000000.false

pub nonzero_div-result : goal.nonzero_div-result
nonzero_div-result c = (search rules, search short_fits)

pub returns : goal.returns
returns c = search short_gives

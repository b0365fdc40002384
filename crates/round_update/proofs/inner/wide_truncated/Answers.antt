-- `round_update::inner::wide_truncated` meets its contract. Assumes nothing.
use Rattle.round_update.proofs.Registers.{truncated_fits, truncated_narrow, truncated_gives}
use borrow.Author.Rules.{rules}
use Rattle.round_update.proofs.inner.wide_truncated.Goals as goal

pub nonzero_div-result : goal.nonzero_div-result
nonzero_div-result c = (search rules, search truncated_fits)

pub overflow_cast-result-2 : goal.overflow_cast-result-2
overflow_cast-result-2 c = search truncated_narrow

pub returns : goal.returns
returns c = search truncated_gives

-- `round_update::inner::add_weighed` meets its contract. Assumes nothing.
use Rattle.round_update.proofs.Registers.{term_fits, wide_fits, sum_fits, sum_gives}
use Rattle.round_update.proofs.inner.add_weighed.Goals as goal

pub overflow_mul-result : goal.overflow_mul-result
overflow_mul-result c = search term_fits

pub overflow_cast-result-2 : goal.overflow_cast-result-2
overflow_cast-result-2 c = search wide_fits

pub overflow_add-result : goal.overflow_add-result
overflow_add-result c = search sum_fits

pub returns : goal.returns
returns c = search sum_gives

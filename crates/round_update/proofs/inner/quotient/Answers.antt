-- `round_update::inner::quotient` meets its contract. Assumes nothing.
use Rattle.round_update.proofs.Registers.{number_fits, times_fits, less_fits}
use Rattle.round_update.proofs.inner.quotient.Goals as goal

pub overflow_cast-back-2 : goal.overflow_cast-back-2
overflow_cast-back-2 c = search number_fits

pub overflow_mul-back : goal.overflow_mul-back
overflow_mul-back c = search times_fits

pub overflow_sub-result : goal.overflow_sub-result
overflow_sub-result c = search less_fits

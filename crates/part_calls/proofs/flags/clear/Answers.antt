-- `part_calls::flags::clear` meets its contract. Assumes nothing.
use Rattle.std.proofs.Common.{rules, arith, ℕ}
use lib.ListN.{length-replicate}
use Rattle.vocabulary.proofs.ByteLaws.{over_mid}
use Rattle.part_calls.proofs.flags.clear.Goals as goal

pub returns : goal.returns
returns c = over_mid _ _ _ _ _ (search rules) (omega (arith, length-replicate {A = ℕ} c.args.n 0))

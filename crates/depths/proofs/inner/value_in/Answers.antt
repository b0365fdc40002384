-- `depths::inner::value_in` meets its contract. Assumes nothing.
use Rattle.depths.proofs.SignedLaws.{gap_read, depth_read}
use Rattle.depths.proofs.inner.value_in.Goals as goal

pub returns-then-z : goal.returns-then-z
returns-then-z c = gap_read _ _ c.type_inv.b _ c.from_be_bytes-z.ensures c.if-z.true

pub returns : goal.returns
returns c = depth_read _ _ c.type_inv.b _ c.from_be_bytes-z.ensures c.if-z.false

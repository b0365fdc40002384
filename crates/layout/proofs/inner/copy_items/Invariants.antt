-- `layout::inner::copy_items` meets its contract. The invariant: the first k items are copied. Assumes nothing.
use Rattle.std.proofs.Common.{◌≡◌, length, take}
use Rattle.layout.proofs.inner.copy_items.Given as goal

abbrev pub invariant-loop-k : goal.invariant-loop-k
invariant-loop-k g l = (length l.dst ≡ length l.initial.dst) × (take l.k l.dst ≡ take l.k l.src)

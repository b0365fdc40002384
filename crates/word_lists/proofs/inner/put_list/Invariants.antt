-- `word_lists::inner::put_list` meets its contract. The invariant: the numbers so far are written. Assumes nothing.
use mathlib.Core.Path.{◌≡◌}
use Prim.Native.Nat.{◌+◌}
use lib.ListN.{length, take}
use Rattle.word_lists.specs.Putting.{Put}
use Rattle.word_lists.proofs.inner.put_list.Given as goal

abbrev pub invariant-loop-w : goal.invariant-loop-w
invariant-loop-w l = (l.t ≡ l.s + l.w-index) × (length l.b ≡ length l.initial.b) × Put l.initial.b l.b l.s l.t (take l.w-index l.list)

-- `word_lists::inner::put_words` meets its contract. The invariant: the first k words are written. Assumes nothing.
use mathlib.Core.Path.{◌≡◌}
use Prim.Native.Nat.{◌+◌, ◌-◌, ◌≤◌}
use lib.ListN.{length}
use Rattle.vocabulary.specs.Intervals.{listed}
use Rattle.layout.specs.Words.{word_at}
use Rattle.word_lists.specs.Putting.{Put}
use Rattle.word_lists.proofs.inner.put_words.Given as goal

abbrev pub invariant-loop-k : goal.invariant-loop-k
invariant-loop-k l = (l.k ≤ l.n) × (l.t ≡ l.s + l.k) × (length l.b ≡ length l.initial.b) × Put l.initial.b l.b l.s l.t (listed 0 l.k (word_at l.v))

abbrev pub decreases-loop-k : goal.decreases-loop-k
decreases-loop-k l = l.n - l.k

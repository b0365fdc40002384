-- `place_search::find` meets its contract. The invariant: the first k numbers are below the one sought. Assumes nothing.
use mathlib.Core.Path.{◌≡◌}
use Prim.Native.Nat.{◌-◌, ◌/◌, ◌≤◌}
use lib.ListN.{length}
use Rattle.place_search.specs.Places.{lower_bound, words_in}
use Rattle.place_search.proofs.find.Given as goal

abbrev pub invariant-loop-k : goal.invariant-loop-k
invariant-loop-k l = (l.k ≤ l.n) × (l.n ≡ length l.list / 2) × (l.k ≤ lower_bound l.sought (words_in l.list))

abbrev pub decreases-loop-k : goal.decreases-loop-k
decreases-loop-k l = l.n - l.k

-- `part_start_lists::inner::put_row` meets its contract. The invariant: the entries before t are written. Assumes nothing.
use mathlib.Core.Path.{◌≡◌}
use Prim.Native.Nat.{◌+◌, ◌-◌, ◌*◌, ◌≤◌}
use lib.ListN.{length, get_or}
use Rattle.vocabulary.specs.Intervals.{blocks}
use Rattle.word_lists.specs.Putting.{Put}
use Rattle.part_start_lists.specs.Starting.{entry_words}
use Rattle.part_start_lists.proofs.inner.put_row.Given as goal

abbrev pub invariant-loop-t : goal.invariant-loop-t
invariant-loop-t l =
    let from = get_or l.ends l.q 0 in
    (from ≤ l.t) × (l.t ≤ from + (get_or l.ends (l.q + 1) 0 - from)) × (l.u ≡ l.s + 2 * (l.t - from)) × (length l.b ≡ length l.initial.b)
    × Put l.initial.b l.b l.s l.u (blocks from (l.t - from) (entry_words l.table l.first l.local))

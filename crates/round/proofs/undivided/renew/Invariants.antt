-- `round::undivided::renew` meets its contract. The invariant: the first j new depths are written. Assumes nothing.
use mathlib.Core.Path.{◌≡◌}
use Prim.Native.Nat.{◌-◌, ◌≤◌}
use lib.ListN.{length}
use Rattle.vocabulary.specs.Bytes.{over}
use Rattle.vocabulary.specs.Intervals.{blocks}
use Rattle.round_rule.specs.Kinds.{kind_number}
use Rattle.round.specs.Rows.{row_new}
use Rattle.round.proofs.undivided.renew.Given as goal

abbrev pub invariant-loop-j : goal.invariant-loop-j
invariant-loop-j l =
    (l.j ≤ l.cells) × (length l.out ≡ length l.initial.out)
    × (l.out ≡ over l.initial.out 0 (blocks 0 l.j (row_new (kind_number l.kind) l.weights l.reaches.entries l.reaches.ends l.f)))

abbrev pub decreases-loop-j : goal.decreases-loop-j
decreases-loop-j l = l.cells - l.j

-- `part_write::put_depths` meets its contract. The invariant: the first t depths are copied. Assumes nothing.
use mathlib.Core.Path.{◌≡◌}
use Prim.Native.Nat.{◌-◌, ◌≤◌}
use lib.ListN.{length}
use Rattle.messages.specs.Messages.{header_size}
use Rattle.vocabulary.specs.Bytes.{over}
use Rattle.vocabulary.specs.Intervals.{blocks}
use Rattle.part_calls.specs.Opened.{sent_at}
use Rattle.part_calls.specs.States.{changes_at}
use Rattle.part_write.proofs.put_depths.Given as goal

abbrev pub invariant-loop-t : goal.invariant-loop-t
invariant-loop-t l = (l.t ≤ l.count) × (length l.out ≡ length l.initial.out) × (l.out ≡ over l.initial.out header_size (blocks l.from l.t (sent_at l.s.lists.now (changes_at l.s) l.s.bytes.now)))

abbrev pub decreases-loop-t : goal.decreases-loop-t
decreases-loop-t l = l.count - l.t

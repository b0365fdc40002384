-- `list_ranges::inner::put_class` meets its contract. The invariant: the numbers so far are put. Assumes nothing.
use Rattle.list_ranges.proofs.PartLaws.{class_start, class_put, class_left, class_told}
use Rattle.list_ranges.proofs.inner.put_class.Goals.{then-c-k, else-c-k}
use Rattle.list_ranges.proofs.inner.put_class.Goals as goal

pub loop-q-init : goal.loop-q-init
loop-q-init c = search class_start

pub loop-q-preserved : goal.loop-q-preserved
loop-q-preserved c = elim c.if-c-k.branch [
  | then-c-k w ↦ rw w.text-is (class_put _ _ _ _ _ _ c.loop-q.invariant _ w.if-c-k.true w.put_spaced.ensures)
  | else-c-k w ↦ rw w.text-is (class_left _ _ _ _ _ _ c.loop-q.invariant w.if-c-k.false)
]

pub returns : goal.returns
returns c = search class_told

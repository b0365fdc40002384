-- `split_ranges::inner::classify_lowers` meets its contract. The invariant: the elements before q have their classes. Assumes nothing.
use mathlib.Core.Path.{refl}
use native.Mathlib.Omega.{arith}
use Rattle.split_ranges.proofs.LowerLaws.{lowered, lowered_none, range_fits, trailed_start, trailed_turn, trailed_end}
use borrow.Author.Rules.{rules}
use Rattle.split_ranges.proofs.inner.classify_lowers.Goals as goal

pub returns-then-top_of-k : goal.returns-then-top_of-k
returns-then-top_of-k c = search lowered_none

pub loop-q-init : goal.loop-q-init
loop-q-init c =
    let f = range_fits _ _ _ _ _ c.requires.0.mesh c.top_of.ensures.0 c.if-top_of-k.false c.below_of-below.ensures.0
    c.count_of-n.ensures.0 in
    (f.0, f.1, omega arith, search trailed_start)

pub loop-q-preserved : goal.loop-q-preserved
loop-q-preserved c = (
  search rules,
  search rules,
  search rules,
  trailed_turn _ _ _ _ _ _ _ _ _ _ c.loop-q-test.true c.loop-q.invariant.1 c.loop-q.invariant.3 c.lower_class.ensures refl,
)

pub returns : goal.returns
returns c =
    lowered _ _ c.requires.0 _ c.first_cell-first.ensures _ _ _ _ _ _ _ c.top_of.ensures.0 c.if-top_of-k.false
    c.below_of-below.ensures.0 c.count_of-n.ensures.0
    (trailed_end _ _ _ _ _ _ _ _ c.loop-q.invariant.2 c.loop-q-test.false c.loop-q.invariant.3)

-- `round_update::inner::least_of` meets its contract. The invariant: x is the least of the entries so far. Assumes nothing.
use mathlib.Core.Path.{◌∙◌}
use Rattle.round_update.proofs.Places.{place_listed, place_fits, place_there}
use Rattle.round_update.proofs.Reaches.{least_start, least_depth, least_gap, least_end}
use borrow.Author.Rules.{rules}
use Rattle.round_update.proofs.inner.least_of.Goals as goal
use Rattle.round_update.proofs.inner.least_of.Goals.{in-Depth, in-Gap}

pub loop-t-init : goal.loop-t-init
loop-t-init c = (search rules, search least_start)

pub place_of-requires : goal.place_of-requires
place_of-requires c = (search (place_listed, rules), search place_fits)

pub value_in-requires : goal.value_in-requires
value_in-requires c = search place_there

pub loop-t-preserved : goal.loop-t-preserved
loop-t-preserved c = (
  search rules,
  elim c.match-value_in.branch [
    | in-Depth w ↦
        least_depth _ _ _ _ _ _ c.place_of.ensures _ c.value_in.ensures _ _ c.loop-t.invariant.1 _ w.in-Depth.is (search rules)
        (w.x-is ∙ w.lesser_of-x.ensures)
    | in-Gap w ↦ least_gap _ _ _ _ _ _ c.place_of.ensures _ c.value_in.ensures _ _ c.loop-t.invariant.1 (search rules) w.x-is
  ],
)

pub returns : goal.returns
returns c = search least_end

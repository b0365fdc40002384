-- `round_update::inner::mean_of` meets its contract. The invariant: the two sums over the entries so far. Assumes nothing.
use Prim.Native.Nat.{◌<◌}
use Rattle.round_update.proofs.Sums.{weights_fit}
use Rattle.round_update.proofs.Places.{place_listed, place_fits, place_there, place_small}
use Rattle.round_update.proofs.Reaches.{sum_start, layer_low, weight_there, weight_known, is_light, sum_depth, sum_gap, sum_few, sum_large, sum_end}
use borrow.Author.Rules.{rules}
use Rattle.round_update.proofs.inner.mean_of.Goals as goal
use Rattle.round_update.proofs.inner.mean_of.Goals.{in-Depth, in-Gap}

pub loop-t-init : goal.loop-t-init
loop-t-init c = (search rules, search sum_start)

pub weight_of-w-requires : goal.weight_of-w-requires
weight_of-w-requires c = (search rules, search layer_low, search weight_there, search weight_known)

pub place_of-requires : goal.place_of-requires
place_of-requires c = (search (place_listed, rules), search place_fits)

pub value_in-requires : goal.value_in-requires
value_in-requires c = search place_there

pub add_weighed-sum-requires : goal.add_weighed-sum-requires
add_weighed-sum-requires c = (search rules, search is_light, search place_small)

pub overflow_add-weight_sum : goal.overflow_add-weight_sum
overflow_add-weight_sum c =
    let weight = c.weight_of-w.ensures.1 in
    let share : c.match-value_in.weight_sum < 65536 =
    elim c.match-value_in.branch [
      | in-Depth w ↦ rw w.weight_sum-is (search (rules, weight))
      | in-Gap w ↦ rw w.weight_sum-is (search (rules, weight))
    ] in
    weights_fit _ _ _ _ _ _ _ c.loop-t.invariant.1 c.loop-t-test.true c.requires.0.few share

pub loop-t-preserved : goal.loop-t-preserved
loop-t-preserved c = (
  search rules,
  elim c.match-value_in.branch [
    | in-Depth w ↦
        sum_depth _ _ _ _ _ _ _ c.loop-t-test.true c.requires.0 _ c.place_of.ensures _ c.value_in.ensures
        _ _ _ _ c.loop-t.invariant.1 _ _ _ w.in-Depth.is (search rules) c.requires.1
        c.weight_of-w.ensures.0 w.add_weighed-sum.ensures w.sum-is w.weight_sum-is
    | in-Gap w ↦
        sum_gap _ _ _ _ _ _ _ c.loop-t-test.true c.requires.0 _ c.place_of.ensures _ c.value_in.ensures
        _ _ _ _ c.loop-t.invariant.1 (search rules) w.sum-is w.weight_sum-is
  ],
)

pub mean_by-requires : goal.mean_by-requires
mean_by-requires c = (search sum_few, search sum_large)

pub returns : goal.returns
returns c = search sum_end

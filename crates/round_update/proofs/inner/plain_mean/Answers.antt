-- `round_update::inner::plain_mean` meets its contract. The invariant: the sum and the count of the depths so far. Assumes nothing.
use Prim.Native.Nat.{◌<◌}
use Rattle.round_update.proofs.Sums.{weights_fit}
use Rattle.round_update.proofs.Places.{place_listed, place_fits, place_there, place_small}
use Rattle.round_update.proofs.Plain.{plain_start, plain_depth, plain_gap, plain_few, plain_large, plain_end, plain_within}
use borrow.Author.Rules.{rules}
use Rattle.round_update.proofs.inner.plain_mean.Goals as goal
use Rattle.round_update.proofs.inner.plain_mean.Goals.{in-Depth, in-Gap}

pub loop-t-init : goal.loop-t-init
loop-t-init c = (search rules, search plain_start)

pub place_of-requires : goal.place_of-requires
place_of-requires c = (search (place_listed, rules), search place_fits)

pub value_in-requires : goal.value_in-requires
value_in-requires c = search place_there

pub add_weighed-sum-requires : goal.add_weighed-sum-requires
add_weighed-sum-requires c = (search rules, search rules, search place_small)

pub overflow_add-count : goal.overflow_add-count
overflow_add-count c =
    let share : c.match-value_in.count < 65536 =
    elim c.match-value_in.branch [ in-Depth w ↦ rw w.count-is (search rules) | in-Gap w ↦ rw w.count-is (search rules) ] in
    weights_fit _ _ _ _ _ _ _ c.loop-t.invariant.1 c.loop-t-test.true c.requires.few share

pub loop-t-preserved : goal.loop-t-preserved
loop-t-preserved c = (search rules, elim c.match-value_in.branch [ in-Depth w ↦ search plain_depth | in-Gap w ↦ search plain_gap ])

pub mean_by-requires : goal.mean_by-requires
mean_by-requires c = (search plain_few, search plain_large)

pub returns : goal.returns
returns c = (search plain_end, search plain_within)

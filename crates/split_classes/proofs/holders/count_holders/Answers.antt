-- `split_classes::holders::count_holders` meets its contract. The invariant: the first k parts are counted. Assumes nothing.
use native.Mathlib.Omega.{arith}
use Rattle.split_classes.proofs.HolderLaws.{few_start, count_start, count_room, raised_stamps, raised_owned, count_turn, holders_told}
use borrow.Author.Rules.{rules}
use Rattle.split_classes.proofs.holders.count_holders.Goals as goal

pub loop-k-init : goal.loop-k-init
loop-k-init c = (search rules, search few_start, search count_start, search rules)

pub count_part-requires : goal.count_part-requires
count_part-requires c =
    let inv = c.loop-k.invariant in
    count_room _ _ _ _ _ _ _ _ c.loop-k-test.true c.requires.1 inv.1 inv.2

pub loop-k-preserved : goal.loop-k-preserved
loop-k-preserved c =
    let inv = c.loop-k.invariant in
    let told = raised_owned _ _ _ _ _ _ _ _ _ _ _ inv.3 (omega (arith, c.loop-k-test.true, c.requires.1)) c.count_part.ensures in
    (search rules, raised_stamps _ _ _ _ _ _ inv.1 told, count_turn _ _ _ _ _ c.requires.0 _ _ _ _ inv.1 inv.2 told, inv.3)

pub returns : goal.returns
returns c = search holders_told

-- `part_start_lists::exports::find_sent` meets its contract. The invariant: the exports to the first j parts are listed and counted. Assumes nothing.
use mathlib.Core.Path.{refl, ◌∙◌}
use native.Mathlib.Omega.{arith}
use Rattle.split_classes.proofs.HolderLaws.{few_start, few_more}
use Rattle.part_start_lists.proofs.FollowLaws.{group_below}
use Rattle.part_start_lists.proofs.CountLaws.{sent_begin, sent_start, sent_pass, sent_passed, stamps_few, sent_more, sent_counted, sent_full, sent_filled, sent_all, sent_end}
use borrow.Author.Rules.{rules}
use Rattle.part_start_lists.proofs.exports.find_sent.Goals as goal

pub group_cells-requires : goal.group_cells-requires
group_cells-requires c = (c.requires.3, refl, c.requires.7)

pub loop-j-init : goal.loop-j-init
loop-j-init c = (search rules, search few_start, search rules, search rules, search rules, search sent_begin, search sent_start)

pub returns-then-n-plan : goal.returns-then-n-plan
returns-then-n-plan c =
    let pre = c.requires in
    let inv = c.loop-j.invariant in
    let taken = c.loop-j-test.true in
    let all = c.if-n-plan.true ∙ pre.9 in
    (sent_full _ _ _ _ _ _ _ _ _ _ _ taken pre.4 all inv.5, sent_filled _ _ _ _ _ _ _ _ _ _ _ taken pre.4 all inv.5 _ inv.6)

pub loop-j-preserved-then-j-plan : goal.loop-j-preserved-then-j-plan
loop-j-preserved-then-j-plan c =
    let pre = c.requires in
    let inv = c.loop-j.invariant in
    let own = c.if-j-plan.true in (
      search rules,
      few_more _ _ _ (omega arith) inv.1,
      omega (arith, inv.2),
      search rules,
      search rules,
      sent_pass _ _ _ _ _ _ pre.0 pre.1 _ own _ _ _ inv.5,
      sent_passed _ _ _ _ 0 _ pre.0 pre.1 _ own _ inv.6,
    )

pub stamp_group-requires : goal.stamp_group-requires
stamp_group-requires c = c.loop-j.invariant.1.room

pub add_stamped-t-requires : goal.add_stamped-t-requires
add_stamped-t-requires c =
    let pre = c.requires in
    let links = c.group_cells.ensures in (
      pre.2,
      pre.3,
      omega (arith, c.loop-j.invariant.2, c.loop-j-test.true, pre.4),
      group_below _ _ _ _ links _ _ (omega (arith, pre.1)) c.get_or-own.ensures,
    )

pub overflow_sub-t : goal.overflow_sub-t
overflow_sub-t c = omega (arith, c.add_stamped-t.ensures.0.count)

pub overflow_cast-t : goal.overflow_cast-t
overflow_cast-t c = omega (arith, c.add_stamped-t.ensures.1, c.requires.3)

pub loop-j-preserved : goal.loop-j-preserved
loop-j-preserved c =
    let pre = c.requires in
    let inv = c.loop-j.invariant in
    let taken = c.loop-j-test.true in
    let other = c.if-j-plan.false in
    let links = c.group_cells.ensures in
    let here = c.get_or-own.ensures in
    let there = c.get_or-other.ensures in
    let stamped = c.stamp_group.ensures in
    let told = c.add_stamped-t.ensures in (
      search rules,
      stamps_few _ _ _ _ 0 _ pre.0 pre.1 pre.3 _ (omega (arith, taken, pre.4)) other _ _ links _ _ here there _ _ inv.1 stamped,
      omega (arith, told.1, inv.2, pre.3),
      search rules,
      search rules,
      sent_more _ _ _ _ _ _ pre.0 pre.1 pre.3 _ (omega (arith, taken, pre.4)) other _ _ links _ _ here there _ _ inv.1 stamped _ _ _ _ told.0 _ inv.5,
      sent_counted _ _ _ _ _ _ pre.0 pre.1 pre.3 _ (omega (arith, taken, pre.4)) other _ _ links _ _ here there _ _ inv.1 stamped _ _ _ _ told.0
          _ _ _ taken pre.4 inv.6 c.put_at.ensures,
    )

pub returns : goal.returns
returns c =
    let pre = c.requires in
    let inv = c.loop-j.invariant in
    let left = c.loop-j-test.false in
    (sent_all _ _ _ _ _ _ _ _ _ _ _ inv.0 left pre.0 pre.4 pre.5 inv.5, sent_end _ _ _ _ _ _ _ _ inv.0 left pre.0 pre.4 pre.5 inv.6)

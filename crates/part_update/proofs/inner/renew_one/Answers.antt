-- `part_update::inner::renew_one` meets its contract. Assumes nothing.
use Rattle.part_update.proofs.RenewLaws.{first_end_there, last_end_there, ends_rise, renew_ready, renew_told}
use Rattle.part_update.proofs.inner.renew_one.Goals as goal

pub word_in-from-requires : goal.word_in-from-requires
word_in-from-requires c = search (first_end_there _ _ _ c.args.s.opened)

pub word_in-to-requires : goal.word_in-to-requires
word_in-to-requires c = search (last_end_there _ _ _ c.args.s.opened)

pub overflow_sub-to : goal.overflow_sub-to
overflow_sub-to c =
    let pre = c.requires in
    ends_rise _ _ _ c.args.s.opened _ pre.2 _ _ _ _ _ c.reach_word.ensures c.entry_word.ensures pre.3 pre.4 c.word_in-from.ensures.0 c.word_in-to.ensures.0

pub new_depth-requires : goal.new_depth-requires
new_depth-requires c =
    let pre = c.requires in
    renew_ready _ _ _ c.args.s.opened _ pre.2 _ _ _ _ _ c.reach_word.ensures c.entry_word.ensures pre.3 pre.4 c.word_in-from.ensures.0 c.word_in-to.ensures.0
    _ _ pre.0 pre.1

pub returns : goal.returns
returns c = (search (renew_told _ _ _ c.args.s.opened), c.new_depth.ensures.1)

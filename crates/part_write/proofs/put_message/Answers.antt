-- `part_write::put_message` meets its contract. Assumes nothing.
use native.Mathlib.Omega.{arith}
use Rattle.part_write.proofs.WriteLaws.{part_there, sent_fits, message_put}
use borrow.Author.Rules.{rules}
use Rattle.part_write.proofs.put_message.Goals as goal

pub overflow_add-j : goal.overflow_add-j
overflow_add-j c =
    let pre = c.requires in
    omega (arith, (part_there _ _ _ pre.0 pre.1).1)

pub write_header-requires : goal.write_header-requires
write_header-requires c =
    let pre = c.requires in (
      omega (arith, pre.3),
      c.word_at.ensures.1,
      omega (arith, (part_there _ _ _ pre.0 pre.1).1),
      c.round.ensures.1,
      pre.2,
    )

pub put_depths-requires : goal.put_depths-requires
put_depths-requires c =
    let pre = c.requires in (
      sent_fits _ _ _ pre.0 pre.1 _ _ c.args.s.opened _ c.word_at-from.ensures.0,
      c.word_at-from.ensures.1,
      pre.2,
      search rules,
    )

pub returns : goal.returns
returns c =
    let pre = c.requires in
    message_put _ _ _ _ _ _ _ _ _ _ _ c.args.s.opened pre.0 pre.1 pre.3 c.word_at-from.ensures.0 c.word_at.ensures.0
    c.round.ensures.0 c.write_header.ensures c.put_depths.ensures

-- `part_write::write` meets its contract. Assumes nothing.
use Rattle.std.specs.Prelude.{[]}
use Rattle.part_calls.specs.Calls.{write_tests_in, write_number, write_answer, write_state, write_out}
use Rattle.part_calls.proofs.OpenedLaws.{told_20}
use Rattle.part_write.proofs.WriteLaws.{flag_room, told_27, told_16, told_done}
use Rattle.part_write.proofs.write.Goals as goal

pub returns-in_err-s : goal.returns-in_err-s
unfolding write_tests_in write_number write_answer write_state write_out
returns-in_err-s c = (
  (told_20 _ _ _ [] [] _ _ c.from_residual.ensures.1 c.in_err-s.ensures.refused).0,
  (told_20 _ _ 0 _ _ _ _ c.from_residual.ensures.1 c.in_err-s.ensures.refused).1,
  (told_20 _ _ 0 _ _ _ _ c.from_residual.ensures.1 c.in_err-s.ensures.refused).1,
)

pub returns-then-count-lt1 : goal.returns-then-count-lt1
returns-then-count-lt1 c = told_27 _ _ _ _ c.in_ok-s.s.opened c.in_ok-s.ensures.opened _ c.sent_to-count.ensures.0 c.if-count-lt1.true

pub returns-then-out-count : goal.returns-then-out-count
returns-then-out-count c = told_16 _ _ _ _ c.in_ok-s.s.opened c.in_ok-s.ensures.opened _ c.sent_to-count.ensures.0 c.if-count-lt1.false c.if-out-count.true

pub put_message-requires : goal.put_message-requires
put_message-requires c = (c.sent_to-count.ensures.0, c.if-count-lt1.false, c.sent_to-count.ensures.1, c.if-out-count.false)

pub set_flag-requires : goal.set_flag-requires
set_flag-requires c = (flag_room _ _ c.args.out.now _ c.in_ok-s.s.opened c.in_ok-s.ensures.opened _ c.sent_to-count.ensures.0 c.if-count-lt1.false).1

pub returns : goal.returns
returns c =
    told_done _ _ _ _ c.in_ok-s.s.opened c.in_ok-s.ensures.opened _ c.sent_to-count.ensures.0 c.if-count-lt1.false c.if-out-count.false _ _ c.put_message.ensures c.set_flag.ensures

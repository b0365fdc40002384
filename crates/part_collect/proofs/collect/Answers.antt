-- `part_collect::collect` meets its contract. Assumes nothing.
use Rattle.part_calls.specs.Calls.{collect_tests_in, collect_number, collect_answer, collect_out}
use Rattle.part_calls.proofs.OpenedLaws.{told_20}
use Rattle.part_collect.proofs.CollectLaws.{told_28, told_16, told_done}
use Rattle.part_collect.proofs.collect.Goals as goal

pub returns-in_err-s : goal.returns-in_err-s
unfolding collect_tests_in collect_number collect_answer collect_out
returns-in_err-s c = told_20 _ _ _ _ _ _ _ c.from_residual.ensures.1 c.in_err-s.ensures.refused

pub returns-then-round-k : goal.returns-then-round-k
returns-then-round-k c =
    let s = c.in_ok-s.s in
    told_28 _ _ _ _ s.opened c.in_ok-s.ensures.opened _ c.round.ensures.0 c.if-round-k.true

pub returns-then-f-word_at : goal.returns-then-f-word_at
returns-then-f-word_at c =
    let s = c.in_ok-s.s in
    told_16 _ _ _ _ s.opened c.in_ok-s.ensures.opened _ c.round.ensures.0 c.if-round-k.false _ c.word_at.ensures.0 c.if-f-word_at.true

pub returns : goal.returns
returns c =
    let s = c.in_ok-s.s in
    told_done _ _ _ _ s.opened c.in_ok-s.ensures.opened _ c.round.ensures.0 c.if-round-k.false _ c.word_at.ensures.0 c.if-f-word_at.false _ c.gather.ensures _ c.word_at-2.ensures.0

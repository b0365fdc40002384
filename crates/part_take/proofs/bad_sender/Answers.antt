-- `part_take::bad_sender` meets its contract. Assumes nothing.
use mathlib.Core.Path.{ap}
use mathlib.Core.Bool.{not}
use native.Mathlib.Omega.{arith}
use Rattle.part_calls.proofs.OpenedLaws.{part_few}
use Rattle.part_take.proofs.TakeLaws.{sender_1, sender_2, sender_3, sender_4}
use Rattle.part_take.proofs.bad_sender.Goals as goal

pub returns-then-header-word_at : goal.returns-then-header-word_at
returns-then-header-word_at c = search sender_1

pub returns-then-not-up_to : goal.returns-then-not-up_to
returns-then-not-up_to c = search sender_2

pub overflow_add-header : goal.overflow_add-header
overflow_add-header c = omega (arith, (part_few _ _ c.up_to.ensures (ap not c.if-not-up_to.false)).1)

pub count_between-n-requires : goal.count_between-n-requires
count_between-n-requires c = omega (arith, (part_few _ _ c.up_to.ensures (ap not c.if-not-up_to.false)).1)

pub returns-then-n-lt1 : goal.returns-then-n-lt1
returns-then-n-lt1 c = search sender_3

pub returns : goal.returns
returns c = search sender_4

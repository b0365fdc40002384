-- `part_write::sent_to` meets its contract. Assumes nothing.
use mathlib.Core.Path.{ap}
use mathlib.Core.Bool.{not}
use native.Mathlib.Omega.{arith}
use Rattle.part_calls.proofs.OpenedLaws.{part_few}
use Rattle.part_write.proofs.WriteLaws.{sent_none, sent_some}
use borrow.Author.Rules.{rules}
use Rattle.part_write.proofs.sent_to.Goals as goal

pub returns-then-not-up_to : goal.returns-then-not-up_to
returns-then-not-up_to c = (search sent_none, search rules)

pub overflow_add-j : goal.overflow_add-j
overflow_add-j c = omega (arith, (part_few _ _ c.up_to.ensures (ap not c.if-not-up_to.false)).1)

pub count_between-requires : goal.count_between-requires
count_between-requires c = omega (arith, (part_few _ _ c.up_to.ensures (ap not c.if-not-up_to.false)).1)

pub returns : goal.returns
returns c = (search sent_some, search rules)

-- `part_take::test_header` meets its contract. Assumes nothing.
use Prim.Native.Nat.{◌≤◌}
use native.Mathlib.Omega.{arith}
use Rattle.layout.specs.Limits.{most_parts}
use Rattle.part_take.proofs.TakeLaws.{rest_1, rest_2, rest_3, rest_4, sender_few}
use Rattle.part_take.proofs.test_header.Goals as goal

pub returns-then-bad_sender : goal.returns-then-bad_sender
returns-then-bad_sender c = search rest_1

pub returns-then-header-round : goal.returns-then-header-round
returns-then-header-round c = search rest_2

pub overflow_add-s-2 : goal.overflow_add-s-2
overflow_add-s-2 c =
    let e : c.args.header.from ≤ most_parts = sender_few _ _ _ _ _ c.bad_sender.ensures
    c.if-bad_sender.false in omega (arith, c.args.s.opened.place_small)

pub returns-then-byte_at-eq1 : goal.returns-then-byte_at-eq1
returns-then-byte_at-eq1 c = search rest_3

pub returns : goal.returns
returns c = search rest_4

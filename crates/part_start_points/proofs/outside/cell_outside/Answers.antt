-- `part_start_points::outside::cell_outside` meets its contract. Assumes nothing.
use mathlib.Core.Path.{refl}
use native.Mathlib.Omega.{arith}
use Rattle.part_start_points.proofs.StampLaws.{cell_outside_lem, cell_anothers, stamps_cleared}
use borrow.Author.Rules.{rules}
use Rattle.part_start_points.proofs.outside.cell_outside.Goals as goal

pub returns-then-owner_of-sought : goal.returns-then-owner_of-sought
returns-then-owner_of-sought c = (
  cell_anothers _ _ _ _ _ _ _ _ _ _ _ refl c.owner_of.ensures c.if-owner_of-sought.true,
  c.requires.4,
)

pub stamp_reach-requires : goal.stamp_reach-requires
stamp_reach-requires c =
    let pre = c.requires in (
      omega (arith, pre.3),
      pre.4.room,
    )

pub chain_unstamped-outside-requires : goal.chain_unstamped-outside-requires
chain_unstamped-outside-requires c =
    let pre = c.requires in (
      pre.0,
      pre.1,
      search rules,
    )

pub stamp_reach-requires-2 : goal.stamp_reach-requires-2
stamp_reach-requires-2 c = (
  omega (
    arith,
    c.requires.3,
  ),
  c.stamp_reach.ensures.room,
)

pub returns : goal.returns
returns c =
    let stamped = c.stamp_reach.ensures in
    let pre = c.requires in (
      cell_outside_lem _ _ _ _ _ pre.4 stamped _ _ _ _ _ _ _ _ refl
          c.owner_of.ensures _ _ _
          c.if-owner_of-sought.false pre.1.records_is
          c.head_of-h.ensures.0 c.chain_unstamped-outside.ensures,
      stamps_cleared _ _ _ _ _ pre.4 stamped _ c.stamp_reach-2.ensures,
    )

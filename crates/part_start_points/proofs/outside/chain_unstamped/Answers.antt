-- `part_start_points::outside::chain_unstamped` meets its contract. The invariant: the rest of the chain tells what the whole does. Assumes nothing.
use mathlib.Core.Path.{refl}
use native.Mathlib.Omega.{arith}
use Rattle.part_start_points.proofs.StampLaws.{chain_begin, chain_over, chain_run, chain_here, chain_turn}
use borrow.Author.Rules.{rules}
use Rattle.part_start_points.proofs.outside.chain_unstamped.Goals as goal

pub overflow_add-k-end : goal.overflow_add-k-end
overflow_add-k-end c = let pre = c.requires in omega (arith, pre.1.records_is, pre.0.sizes.r_high)

pub loop-k-init : goal.loop-k-init
loop-k-init c = (refl, search rules, search chain_begin)

pub returns-then-i-lt1 : goal.returns-then-i-lt1
returns-then-i-lt1 c = search chain_over

pub read_record-here-requires : goal.read_record-here-requires
read_record-here-requires c =
    let pre = c.requires in (
      pre.1.elements_is,
      omega (arith, pre.1.elements_is, pre.0.sizes.n_high),
      c.loop-k.invariant.1,
    )

pub returns-then-unstamped_at : goal.returns-then-unstamped_at
returns-then-unstamped_at c =
    let inv = c.loop-k.invariant in
    chain_here _ _ _ _ _ _ _ _ _ inv.2 _ inv.0 c.loop-k-test.true c.if-i-lt1.false _
    c.read_record-here.ensures.0 _ c.unstamped_at.ensures c.if-unstamped_at.true

pub loop-k-preserved : goal.loop-k-preserved
loop-k-preserved c =
    let inv = c.loop-k.invariant in (
      search rules,
      search rules,
      chain_turn _ _ _ _ _ _ _ _ _ inv.2 _ inv.0 c.loop-k-test.true c.if-i-lt1.false _
          c.read_record-here.ensures.0 _ c.unstamped_at.ensures _ c.if-unstamped_at.false c.read_record-here.ensures.2,
    )

pub returns : goal.returns
returns c = search chain_run

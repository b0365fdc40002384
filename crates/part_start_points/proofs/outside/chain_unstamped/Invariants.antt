-- `part_start_points::outside::chain_unstamped` meets its contract. The invariant: the rest of the chain tells what the whole does. Assumes nothing.
use mathlib.Core.Path.{◌≡◌}
use Prim.Native.Nat.{◌+◌, ◌-◌, ◌<◌}
use Rattle.walk_incidence.specs.Links.{seen}
use Rattle.part_start_points.proofs.StampLaws.{ChainLeft}
use Rattle.part_start_points.proofs.outside.chain_unstamped.Given as goal

abbrev pub invariant-loop-k : goal.invariant-loop-k
invariant-loop-k l =
    (l._k-end ≡ l.sizes.records + 1) × (l.i < 65536) × ChainLeft l.m (seen l.incidence) l.stamps l.sought.first l.sought.points l.sizes.records l.h l._k l.i

abbrev pub decreases-loop-k : goal.decreases-loop-k
decreases-loop-k l = l._k-end - l._k

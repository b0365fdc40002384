-- `part_start_lists::exports::add_stamped` meets its contract. The invariant: what is left of the group leads to the whole. Assumes nothing.
use mathlib.Core.Path.{refl}
use native.Mathlib.Omega.{arith}
use Rattle.part_start_lists.proofs.FollowLaws.{appending_start, appending_stop, appending_turn, appending_end, below_start, below_here, below_turn}
use borrow.Author.Rules.{rules}
use Rattle.part_start_lists.proofs.exports.add_stamped.Goals as goal

pub loop-j-init : goal.loop-j-init
loop-j-init c = (search rules, search rules, search rules, search rules, search below_start, search appending_start)

pub returns-then-link-eq0 : goal.returns-then-link-eq0
returns-then-link-eq0 c = (search appending_stop, search rules)

pub add_place-t-requires : goal.add_place-t-requires
add_place-t-requires c =
    let below = below_here _ _ _ _ _ c.loop-j-test.true c.if-link-eq0.false refl c.loop-j.invariant.4 in
    (omega (arith, c.requires.0, below), search rules)

pub loop-j-preserved : goal.loop-j-preserved
loop-j-preserved c = (search rules, search rules, search rules, search rules, search below_turn, search appending_turn)

pub returns : goal.returns
returns c = (search appending_end, search rules)

-- `walk_incidence::inner::link_chain` meets its contract. The invariant: linking what is left gives what linking the whole chain gives. Assumes nothing.
use mathlib.Core.Path.{refl}
use native.Mathlib.Nat.{sub-zero}
use Rattle.mesh.proofs.FollowLaws.{chain_ended, chain_spent}
use Rattle.walk_incidence.proofs.LinkLaws.{link_done, link_turn, room_one, room_turn}
use borrow.Author.Rules.{rules}
use Rattle.walk_incidence.proofs.inner.link_chain.Goals as goal

pub loop-k-init : goal.loop-k-init
loop-k-init c = (refl, search rules, refl, refl, refl, simp sub-zero (search rules), simp sub-zero)

pub returns-then-i-lt1 : goal.returns-then-i-lt1
returns-then-i-lt1 c = search (link_done, chain_ended)

pub link-s-requires : goal.link-s-requires
link-s-requires c = search room_one

pub loop-k-preserved : goal.loop-k-preserved
loop-k-preserved c = (search rules, search rules, search rules, search rules, search rules, search room_turn, search link_turn)

pub returns : goal.returns
returns c = search (link_done, chain_spent)

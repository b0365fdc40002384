-- `walk_frontier::inner::visit_chain` meets its contract. The invariant: what was gathered with what is left of the chain is what is wanted. Assumes nothing.
use mathlib.Core.Path.{refl}
use native.Mathlib.Nat.{sub-zero}
use Rattle.walk_frontier.proofs.VisitLaws.{grown_none, grown_both, toward_start, toward_done, toward_turn, between_ended, between_spent, between_more}
use borrow.Author.Rules.{rules}
use Rattle.walk_frontier.proofs.inner.visit_chain.Goals as goal

pub loop-k-init : goal.loop-k-init
loop-k-init c = (refl, search rules, search rules, search grown_none, search rules, simp sub-zero (toward_start _ _ _))

pub returns-then-i-lt1 : goal.returns-then-i-lt1
returns-then-i-lt1 c = record { gathered = search rules; all = search (toward_done, between_ended); few = search rules; grown = search rules }

pub loop-k-preserved : goal.loop-k-preserved
loop-k-preserved c = (search rules, search rules, search rules, search grown_both, search rules, search (toward_turn, between_more))

pub returns : goal.returns
returns c = record { gathered = search rules; all = search (toward_done, between_spent); few = search rules; grown = search rules }

-- `mesh_chains::inner::write_chain` meets its contract. The invariant: noting what is left gives what noting the whole chain gives. Assumes nothing.
use mathlib.Core.Path.{refl}
use Rattle.mesh_chains.proofs.NoteLaws.{note_begin, note_done, note_spent, note_above, note_again, note_turn}
use borrow.Author.Rules.{rules}
use Rattle.mesh_chains.proofs.inner.write_chain.Goals as goal

pub loop-t-init : goal.loop-t-init
loop-t-init c = (search rules, search rules, search rules, refl, refl, search note_begin)

pub returns-then-i-lt1 : goal.returns-then-i-lt1
returns-then-i-lt1 c = search note_done

pub returns-then-r-i : goal.returns-then-r-i
returns-then-r-i c = (c.loop-t.t, search note_above)

pub returns-then-seen-i-eq1 : goal.returns-then-seen-i-eq1
returns-then-seen-i-eq1 c = (c.loop-t.t, search note_again)

pub loop-t-preserved : goal.loop-t-preserved
loop-t-preserved c = (search rules, search rules, search rules, search rules, search rules, search note_turn)

pub returns : goal.returns
returns c = search note_spent

-- `walk_steps::steps::note_all` meets its contract. The invariant: the numbers so far have the layer. Assumes nothing.
use Rattle.walk_steps.proofs.NoteLaws.{notes_start, notes_turn, note_fits}
use borrow.Author.Rules.{rules}
use Rattle.walk_steps.proofs.steps.note_all.Goals as goal

pub loop-y-init : goal.loop-y-init
loop-y-init c = notes_start _ c.args.list.now _

pub note-requires : goal.note-requires
note-requires c = (search rules, note_fits _ _ _ _ _ _ c.requires.1 (search rules) c.loop-y.invariant)

pub loop-y-preserved : goal.loop-y-preserved
loop-y-preserved c = notes_turn _ _ _ _ _ _ (search rules) c.loop-y.invariant c.note.ensures

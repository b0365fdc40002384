-- `split_classes::classes::mark_entry` meets its contract. Assumes nothing.
use Rattle.split_classes.proofs.ClassLaws.{entry_own, entry_other}
use Rattle.split_classes.proofs.classes.mark_entry.Goals as goal

pub returns-then-owner-i : goal.returns-then-owner-i
returns-then-owner-i c = entry_own _ _ _ _ _ _ c.word_at-x.ensures.0 c.owner_of-owner.ensures c.args.inside _ c.if-owner-i.true

pub returns : goal.returns
returns c =
    entry_other _ _ _ _ _ _ c.word_at-x.ensures.0
    c.owner_of-owner.ensures
    c.args.inside _ _ c.if-owner-i.false
    c.put_at.ensures

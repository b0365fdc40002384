-- `part_advance::put_round` meets its contract. Assumes nothing.
use Rattle.part_advance.proofs.AdvanceLaws.{round_put}
use Rattle.part_advance.proofs.put_round.Goals as goal

pub returns : goal.returns
returns c =
    round_put _ _ _ _ _ _ _ _ c.requires.3
    c.requires.4
    c.put_word.ensures c.clear.ensures
    c.copy.ensures

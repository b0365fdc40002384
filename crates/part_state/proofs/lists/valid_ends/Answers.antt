-- `part_state::lists::valid_ends` meets its contract. Assumes nothing.
use Rattle.std.proofs.Common.{arith}
use Rattle.std.proofs.lemmas.Grind.{common_steps}
use Rattle.part_state.proofs.ListChecks.{rises_told, reach_first, reach_rises}
use Rattle.part_state.proofs.lists.valid_ends.Goals as goal

pub returns-then-word_there-eq0-2 : goal.returns-then-word_there-eq0-2
returns-then-word_there-eq0-2 c =
    let b = c.args.lists.now in
    let ends = c.reach_word-ends.ensures in
    grind (arith, common_steps, rises_told b 11 16, rises_told b 28 16, reach_first _ _ c.requires.counts _ ends, reach_rises _ _ c.requires.counts _ ends)

pub returns-else-word_there-eq0-2 : goal.returns-else-word_there-eq0-2
returns-else-word_there-eq0-2 c =
    let b = c.args.lists.now in
    let ends = c.reach_word-ends.ensures in
    grind (arith, common_steps, rises_told b 11 16, rises_told b 28 16, reach_first _ _ c.requires.counts _ ends, reach_rises _ _ c.requires.counts _ ends)

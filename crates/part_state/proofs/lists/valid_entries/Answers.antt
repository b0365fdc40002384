-- `part_state::lists::valid_entries` meets its contract. Assumes nothing.
use Rattle.std.proofs.Common.{arith}
use Rattle.std.proofs.lemmas.Grind.{common_steps}
use Rattle.part_state.proofs.ListChecks.{rows_told}
use Rattle.part_state.proofs.lists.valid_entries.Goals as goal

pub returns-then-valid_exports : goal.returns-then-valid_exports
returns-then-valid_exports c =
    grind (arith, common_steps, c.requires.0.counts.held_is, rows_told _ c.requires.1 _ c.requires.0.counts.owned_is)

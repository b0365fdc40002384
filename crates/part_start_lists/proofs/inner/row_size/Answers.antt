-- `part_start_lists::inner::row_size` meets its contract. Assumes nothing.
use mathlib.Core.Path.{◌∙◌}
use Rattle.part_start_lists.proofs.StartCounts.{size_some}
use borrow.Author.Rules.{rules}
use Rattle.part_start_lists.proofs.inner.row_size.Goals as goal

pub returns : goal.returns
returns c = (c.saturating_sub.ensures ∙ size_some _ _ _ _ _ _ _ _ c.place_at-q.ensures.0 c.get_or-from.ensures c.get_or-to.ensures, search rules)

-- `list_parts::lists::put_passing` meets its contract. Assumes nothing.
use mathlib.Core.Path.{sym, ◌∙◌}
use Rattle.list_ranges.proofs.PartLaws.{passing_none, passing_some}
use Rattle.list_parts.proofs.lists.put_passing.Goals as goal

pub returns-then-contains : goal.returns-then-contains
returns-then-contains c = passing_some _ _ _ _ _ _ _ _ (sym c.contains.ensures.value ∙ c.if-contains.true) c.put_text.ensures c.put_spaced.ensures c.put_class.ensures

pub returns-else-contains : goal.returns-else-contains
returns-else-contains c = passing_none _ _ _ _ _ (sym c.contains.ensures.value ∙ c.if-contains.false)

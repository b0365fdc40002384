-- `layout::inner::copy` meets its contract. Assumes nothing.
use Rattle.layout.proofs.Laws.{copied}
use Rattle.layout.proofs.inner.copy.Goals as goal

pub returns : goal.returns
returns c = copied _ _ _ _ _ _ c.requires.1 c.copy_items.ensures

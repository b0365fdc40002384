-- `layout::inner::put_word` meets its contract. Assumes nothing.
use mathlib.Core.Path.{◌∙◌}
use Rattle.layout.proofs.Laws.{word_stored}
use Rattle.layout.proofs.inner.put_word.Goals as goal

pub returns : goal.returns
returns c = word_stored _ _ _ _ c.requires.1 (c.copy_from_slice.ensures.after ∙ c.to_be_bytes.ensures)

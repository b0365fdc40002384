-- `part_start_lists::inner::put_header` meets its contract. Assumes nothing.
use mathlib.Core.Path.{refl}
use Rattle.part_start_lists.proofs.HeaderLaws.{header_put}
use Rattle.part_start_lists.proofs.inner.put_header.Goals as goal

pub returns : goal.returns
returns c =
    header_put _ _ _ _ _ _ _ _ _ _ _ _ _ _ _ _ _ _ _ _ _ _ _ _ _ _ _ _ c.requires.0 refl refl refl refl refl refl c.put_one.ensures
    c.put_one-2.ensures
    c.put_one-3.ensures c.put_one-4.ensures c.put_words.ensures c.put_one-5.ensures c.put_one-6.ensures

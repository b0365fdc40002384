-- `split_tables::preparing::overflow` meets its contract. Assumes nothing.
use mathlib.Core.List.{[]}
use Rattle.split.proofs.SplitLaws.{map_facts}
use Rattle.split_tables.proofs.preparing.overflow.Goals as goal

pub count_all-held-requires : goal.count_all-held-requires
count_all-held-requires c = (c.requires.0, (map_facts _ _ _ [] c.requires.1).few)

-- `mesh_valid::sizes::bad2` meets its contract. Assumes nothing.
use Rattle.mesh_valid.proofs.SizeLaws.{wrongly_counted, too_many, too_rich}
use Rattle.mesh_valid.proofs.sizes.bad2.Goals as goal

pub returns-then-bad_counts : goal.returns-then-bad_counts
returns-then-bad_counts c = search wrongly_counted

pub returns-then-n-gt-MOST_ELEMENTS : goal.returns-then-n-gt-MOST_ELEMENTS
returns-then-n-gt-MOST_ELEMENTS c = search too_many

pub returns : goal.returns
returns c = search too_rich

-- `mesh_valid::sizes::sized` meets its contract. Assumes nothing.
use mathlib.Core.Path.{refl, sym}
use Rattle.mesh_valid.proofs.SizeLaws.{head_sizes}
use Rattle.mesh_valid.proofs.sizes.sized.Goals as goal

pub invariant_of-result : goal.invariant_of-result
invariant_of-result c = record { sized = head_sizes _ _ (sym c.requires) refl _ _ _ c.top_of.ensures.0 c.elements_of.ensures.0 c.record_count.ensures.0 }

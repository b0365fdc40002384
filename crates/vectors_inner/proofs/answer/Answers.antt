-- `answer` meets what `show` asks: the mesh and the stencil are accepted. Assumes nothing.
use mathlib.Core.Path.{sym}
use Rattle.mesh.proofs.AcceptedLaws.{accepted_mesh}
use Rattle.walk_stencil.proofs.StencilLaws.{accepted_stencil}
use Rattle.vectors_inner.proofs.answer.Goals as goal

pub show-requires : goal.show-requires
show-requires c = (
  accepted_mesh _ (sym c.in_default.ensures),
  accepted_stencil _ _ c.top_of.ensures.0 c.bad_stencil.ensures c.if-bad_stencil.false,
)

-- `answer` meets what `print_reaches` asks: the mesh and the stencil are accepted. Assumes nothing.
use mathlib.Core.Path.{sym}
use Rattle.walk_stencil.proofs.StencilLaws.{accepted_stencil}
use Rattle.mesh.proofs.AcceptedLaws.{accepted_mesh}
use Rattle.reach_check.proofs.answer.Goals as goal

pub print_reaches-requires : goal.print_reaches-requires
print_reaches-requires c = (
  accepted_mesh _ (sym c.in_default.ensures),
  accepted_stencil _ _
      c.top_of.ensures.0 c.bad_stencil.ensures c.if-bad_stencil.false,
)

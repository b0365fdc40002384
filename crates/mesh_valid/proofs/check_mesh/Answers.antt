-- `mesh_valid::check_mesh` meets its contract. Assumes nothing.
use mathlib.Core.Path.{refl, ◌∙◌}
use Rattle.layout.proofs.AnswerLaws.{exit_answer, exit_some}
use Rattle.mesh.proofs.NumberLaws.{answered, refused}
use Rattle.mesh_valid.proofs.check_mesh.Goals as goal

pub returns-in_err-test_mesh : goal.returns-in_err-test_mesh
returns-in_err-test_mesh c = exit_answer _ _ _ c.from_residual.ensures.1 refl ∙ refused _ _ c.in_err-test_mesh.ensures (exit_some _ _ refl)

pub returns : goal.returns
returns c = answered _ _ _ c.in_ok-test_mesh.ensures refl c.cell_count.ensures.0

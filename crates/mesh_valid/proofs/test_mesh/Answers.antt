-- `mesh_valid::test_mesh` meets its contract. Assumes nothing.
use mathlib.Core.Path.{refl, sym, ap, ◌∙◌}
use Rattle.layout.proofs.AnswerLaws.{exit_number, exit_some}
use Rattle.mesh.proofs.MeshLaws.{sizes_refuse, sizes_pass}
use Rattle.vocabulary.specs.Tests.{first_of}
use Rattle.mesh.specs.Mesh.{chain_tests}
use Rattle.mesh_valid.proofs.test_mesh.Goals as goal

pub returns-in_err-test_sizes : goal.returns-in_err-test_sizes
returns-in_err-test_sizes c = exit_number _ _ _ c.from_residual.ensures.1 (sizes_refuse _ _ c.in_err-test_sizes.ensures (exit_some _ _ refl))

pub sized-requires : goal.sized-requires
sized-requires c = sym c.in_ok-test_sizes.ensures

pub returns : goal.returns
returns c = sizes_pass _ _ c.in_ok-test_sizes.ensures refl _ (c.test_own.ensures ∙ ap (λ b. first_of (chain_tests b.now)) c.sized.ensures)

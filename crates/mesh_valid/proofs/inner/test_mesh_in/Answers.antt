-- `mesh_valid::inner::test_mesh_in` meets its contract. Assumes nothing.
use mathlib.Core.Path.{refl, sym, ap, ◌∙◌}
use Rattle.layout.proofs.AnswerLaws.{exit_number, exit_some}
use Rattle.mesh.proofs.MeshLaws.{sizes_refuse, sizes_pass}
use Rattle.vocabulary.specs.Tests.{first_of}
use Rattle.mesh.specs.Mesh.{chain_tests}
use Rattle.mesh_valid.proofs.ChainLaws.{lent_places}
use Rattle.mesh_valid.proofs.inner.test_mesh_in.Goals as goal

pub returns-in_err-test_sizes : goal.returns-in_err-test_sizes
returns-in_err-test_sizes c = exit_number _ _ _ c.from_residual.ensures.1 (sizes_refuse _ _ c.in_err-test_sizes.ensures (exit_some _ _ refl))

pub sized-requires : goal.sized-requires
sized-requires c = sym c.in_ok-test_sizes.ensures

pub test_chains-requires : goal.test_chains-requires
test_chains-requires c = lent_places _ _ _ _ _ _ c.sized.result.sized c.requires.0 c.requires.1

pub returns : goal.returns
returns c = sizes_pass _ _ c.in_ok-test_sizes.ensures refl _ (c.test_chains.ensures ∙ ap (λ b. first_of (chain_tests b.now)) c.sized.ensures)

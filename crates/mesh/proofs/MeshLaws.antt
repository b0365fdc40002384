-- Laws of the tests of a mesh, so that no other crate opens their list. Assumes nothing.
use Rattle.std.specs.Prelude.{◌≡◌, ◌≢◌, true, false, List, [], ◌∷◌, ◌++◌, ℕ, T}
use Rattle.std.proofs.Math.Path.{refl, sym}
use Rattle.std.proofs.Common.{◌∙◌}
use Rattle.vocabulary.specs.Bytes.{Bytes}
use Rattle.vocabulary.specs.Tests.{Test, refuse, first_of}
use Rattle.vocabulary.proofs.TestLaws.{numbered, small, passed_by, passed_append, first_of_after, first_of_left}
use Rattle.mesh.specs.Mesh.{bad1, bad2, bad3, chain_tests, mesh_tests, mesh_number}

module _ (m : Bytes) where
  pub mesh_numbered : T (numbered (mesh_tests m))
  unfolding mesh_tests
  mesh_numbered = tt

  pub mesh_small : small (mesh_tests m) ≡ true
  unfolding mesh_tests
  mesh_small = refl

  -- the sizes of an accepted mesh are right
  pub mesh_sized : mesh_number m ≡ 0 → (bad1 m ≡ false) × (bad2 m ≡ false)
  unfolding mesh_number mesh_tests
  mesh_sized e = (passed_by 1 (mesh_tests m) tt e, passed_by 2 (mesh_tests m) tt e)

  -- tests that come after those of the mesh
  module _ (us : List Test) where
    pub mesh_parted : first_of (mesh_tests m ++ us) ≡ 0 → (mesh_number m ≡ 0) × (first_of us ≡ 0)
    unfolding mesh_number
    mesh_parted e = passed_append (mesh_tests m) us mesh_numbered e

    pub mesh_then : mesh_number m ≡ 0 → first_of (mesh_tests m ++ us) ≡ first_of us
    unfolding mesh_number
    mesh_then e = first_of_after (mesh_tests m) us mesh_numbered e

    pub mesh_refuses : mesh_number m ≢ 0 → first_of (mesh_tests m ++ us) ≡ mesh_number m
    unfolding mesh_number
    mesh_refuses n = first_of_left (mesh_tests m) us n

  -- the tests of the sizes, which come before those of the chains
  abbrev pub sizes_tests : List Test
  sizes_tests = refuse 1 (bad1 m) ∷ refuse 2 (bad2 m) ∷ refuse 3 (bad3 m) ∷ []

  module _ (k : ℕ) (e : k ≡ first_of sizes_tests) where
    pub sizes_refuse : (k ≡ 0 → ⊥) → k ≡ mesh_number m
    unfolding mesh_number mesh_tests
    sizes_refuse n = e ∙ sym (first_of_left sizes_tests (chain_tests m) (λ q. n (e ∙ q)))

    pub sizes_pass : k ≡ 0 → (x : ℕ) → x ≡ first_of (chain_tests m) → x ≡ mesh_number m
    unfolding mesh_number mesh_tests
    sizes_pass z x f = f ∙ sym (first_of_after sizes_tests (chain_tests m) tt (sym e ∙ z))

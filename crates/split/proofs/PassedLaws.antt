-- What the tests up to 10 give where none refuses. Assumes nothing.
use mathlib.Core.Path.{◌≡◌, refl, ap}
use mathlib.Core.Bool.{Bool, true, false, not, ◌&&◌, ◌||◌}
use mathlib.Core.List.{[], ◌∷◌, ◌++◌}
use Prim.Native.Nat.{ℕ, ◌≤◌}
use native.Mathlib.Omega.{arith}
use lib.Dec.{eqb}
use lib.ListN.{length}
use Rattle.vocabulary.specs.Bytes.{Bytes}
use Rattle.vocabulary.specs.Intervals.{is_up_to}
use Rattle.vocabulary.proofs.IntervalLaws.{up_to_intro, up_to_true}
use Rattle.vocabulary.specs.Lists.{every_of}
use Rattle.vocabulary.specs.Tests.{refuse}
use Rattle.layout.specs.Limits.{most_parts}
use Rattle.mesh.specs.Mesh.{top, cell_count, mesh_tests}
use Rattle.mesh.specs.Walks.{bad10}
use Rattle.mesh.specs.Accepted.{Accepted}
use Rattle.mesh.proofs.AcceptedLaws.{accepted_mesh}
use Rattle.split.specs.Split.{split_of}
use Rattle.split.proofs.SplitLaws.{split_fine, map_facts}
use Rattle.split.specs.Lists.{bad8, bad9, split_tests, split_number, split_input}

-- to name a part twice is to name it once
pub twice : (m : Bytes) (parts : ℕ) (owners : Bytes) (i : ℕ) (st : Bytes) → split_tests (split_input m parts owners st) (i ∷ i ∷ []) ≡ split_tests (split_input m parts owners st) (i ∷ [])
unfolding split_tests bad8 every_of
twice m parts owners i st =
    ap (λ b. mesh_tests m ++ (refuse 8 (not (is_up_to most_parts parts) || not b || not (eqb (length owners) (cell_count m)) || not (every_of owners (is_up_to parts)))
    ∷ refuse 9 (bad9 (split_of m parts owners st)) ∷ refuse 10 (bad10 (top m) st) ∷ [])) (same (is_up_to parts i))
  where
    same : (b : Bool) → b && (b && true) ≡ b && true
    same true = refl
    same false = refl

-- to name part 1 is to name none, since any map has it
module _ (m : Bytes) (parts : ℕ) (owners st : Bytes) where
  first_part : bad8 m parts owners (1 ∷ 1 ∷ []) ≡ bad8 m parts owners []
  unfolding bad8 every_of
  first_part = ap (λ b. b || not (eqb (length owners) (cell_count m)) || not (every_of owners (is_up_to parts))) (go (is_up_to most_parts parts) refl)
    where
      go : (x : Bool) → is_up_to most_parts parts ≡ x → not x || not (is_up_to parts 1 && (is_up_to parts 1 && true)) ≡ not x || false
      go true e = ap (λ y. not (y && (y && true))) (up_to_intro parts 1 (omega arith) (up_to_true most_parts parts e).0)
      go false e = refl

  pub tests_are : split_tests (split_input m parts owners st) (1 ∷ 1 ∷ []) ≡ split_tests (split_input m parts owners st) []
  unfolding split_tests
  tests_are = ap (λ b. mesh_tests m ++ (refuse 8 b ∷ refuse 9 (bad9 (split_of m parts owners st)) ∷ refuse 10 (bad10 (top m) st) ∷ [])) first_part

pub record Passed (m : Bytes) (parts : ℕ) (owners : Bytes) (i j : ℕ) (st : Bytes) : Type 0 where
  pub mesh : Accepted m
  pub map : bad8 m parts owners [] ≡ false
  pub stencil : bad10 (top m) st ≡ false
  pub few : parts ≤ most_parts
  pub i_in : (1 ≤ i) × (i ≤ most_parts)
  pub j_in : (1 ≤ j) × (j ≤ most_parts)
  pub i_high : i ≤ parts
  pub j_high : j ≤ parts

module _ (m : Bytes) (parts : ℕ) (owners : Bytes) (i j : ℕ) (st : Bytes) where
  pub passed_facts : split_number m parts owners (i ∷ j ∷ []) st ≡ 0 → Passed m parts owners i j st
  passed_facts e =
      let f = split_fine m parts owners (i ∷ j ∷ []) st e in
      let n = map_facts m parts owners (i ∷ j ∷ []) f.map in
      record {
        mesh = accepted_mesh m f.mesh;
        map = n.unnamed;
        stencil = f.stencil;
        few = n.few;
        i_in = (n.named_in.0.0, omega (arith, n.few, n.named_in.0.1));
        j_in = (n.named_in.1.0.0, omega (arith, n.few, n.named_in.1.0.1));
        i_high = n.named_in.0.1;
        j_high = n.named_in.1.0.1;
      }

-- What the test 10 answers, by the tests that the code makes one after the other. Assumes nothing.
use mathlib.Core.Path.{◌≡◌, sym, ap, ◌∙◌}
use mathlib.Core.Bool.{Bool, true, false, not}
use Prim.Native.Nat.{ℕ, ◌%◌, ◌≤◌, ◌<◌}
use native.Mathlib.Omega.{arith}
use lib.Dec.{eqb, ltb}
use lib.ListN.{length}
use borrow.Author.Tests.{eq-eqb, ne_eqb, lt-ltb, le-ltb}
use Rattle.vocabulary.specs.Bytes.{Bytes, byte_at}
use Rattle.vocabulary.specs.Intervals.{every}
use Rattle.layout.specs.Limits.{stencil_bytes}
use Rattle.mesh.specs.Mesh.{top}
use Rattle.mesh.specs.Walks.{valid_at, bad10}
use Rattle.mesh.proofs.WalkLaws.{stencil_parts}

pub right_even : (d a k : ℕ) (st : Bytes) → a ≡ byte_at st k → k % 2 ≡ 0 → eqb a d ≡ valid_at d st k
unfolding valid_at
right_even d a k st e h = simp (eq-eqb _ _ h, sym e)

pub right_odd : (d a k : ℕ) (st : Bytes) → a ≡ byte_at st k → (k % 2 ≡ 0 → ⊥) → ltb a d ≡ valid_at d st k
unfolding valid_at
right_odd d a k st e h = simp (ne_eqb _ _ h, sym e)

module _ (d : ℕ) (st : Bytes) where
  pub stencil_odd_length : (length st % 2 ≡ 1 → ⊥) → true ≡ bad10 d st
  unfolding bad10
  stencil_odd_length h = simp (ne_eqb _ _ h)

  pub stencil_long : length st % 2 ≡ 1 → stencil_bytes < length st → true ≡ bad10 d st
  unfolding bad10
  stencil_long h k = simp (eq-eqb _ _ h, lt-ltb _ _ k)

  pub stencil_places : (b : Bool) → length st % 2 ≡ 1 → length st ≤ stencil_bytes → b ≡ every 0 (length st) (valid_at d st) → not b ≡ bad10 d st
  unfolding bad10
  stencil_places b h k e = simp (eq-eqb _ _ h, le-ltb _ _ k, sym e)

-- what the test leaves where it does not refuse
pub accepted_stencil : (m st : Bytes) {d : ℕ} {b : Bool} → d ≡ top m → b ≡ bad10 d st → b ≡ false → bad10 (top m) st ≡ false
accepted_stencil m st dt bd bf = ap (λ k. bad10 k st) (sym dt) ∙ sym bd ∙ bf

pub stencil_some : (d : ℕ) (st : Bytes) {b : Bool} → b ≡ bad10 d st → b ≡ false → 1 ≤ length st
stencil_some d st bd bf = omega (arith, (stencil_parts d st (sym bd ∙ bf)).0)

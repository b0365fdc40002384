-- What is left of a trail, entry by entry. Assumes nothing.
use mathlib.Core.Path.{◌≡◌, refl, ap, ◌∙◌}
use mathlib.Core.List.{List, [], ◌∷◌}
use Prim.Native.Nat.{ℕ, suc, ◌-◌}
use native.Mathlib.Omega.{arith}
use lib.ListN.{get_or}
use Rattle.walk_incidence.specs.Links.{trail}
use Rattle.walk_incidence.proofs.TrailLaws.{trail_end, trail_more}

module _ (cell prev : List ℕ) where
  pub trail_spent : (n s : ℕ) → n ≡ 0 → trail cell prev n s ≡ []
  unfolding trail
  trail_spent n s z = rw z refl

  pub trail_over : (n s : ℕ) → s ≡ 0 → trail cell prev n s ≡ []
  trail_over n s z = rw z (trail_end cell prev n)

  pub trail_next : (n s x t : ℕ) → (n ≡ 0 → ⊥) → (s ≡ 0 → ⊥) → x ≡ get_or cell s 0 → t ≡ get_or prev s 0 → trail cell prev n s ≡ x ∷ trail cell prev (n - 1) t
  trail_next n s x t l e xe te =
      let q : n ≡ suc (n - 1) = omega arith in
      ap (λ k. trail cell prev k s) q ∙ trail_more cell prev (n - 1) s e ∙ rw (xe, te) refl

-- Following a chain one record at a time. Assumes nothing.
use mathlib.Core.Path.{◌≡◌, refl, sym, ap, ◌∙◌}
use mathlib.Core.Bool.{Bool, true, false, not}
use mathlib.Core.List.{List, [], ◌∷◌}
use Prim.Native.Nat.{ℕ, zero, suc, ◌+◌, ◌-◌, ◌≤◌, ◌<◌}
use native.Mathlib.Omega.{arith}
use lib.Dec.{eqb, ltb}
use borrow.Author.Tests.{lt-ltb, eq-eqb, ne_eqb, eqb-false}
use Rattle.vocabulary.specs.Bytes.{Bytes}
use Rattle.vocabulary.specs.Intervals.{some}
use Rattle.vocabulary.specs.Lists.{All}
use Rattle.vocabulary.proofs.ScanLaws.{some_stop_from, some_turn_from}
use Rattle.mesh.specs.Mesh.{next_of, head_of, follow, headed}

-- ---- points with heads

module _ (m : Bytes) (e : ℕ) (b : Bool) (q : b ≡ eqb (head_of m e) 0) (low : 1 ≤ e) where
  told : not b ≡ headed m e
  unfolding headed
  told = ap not q ∙ go (head_of m e)
    where
      go : (h : ℕ) → not (eqb h 0) ≡ ltb 0 h
      go zero = refl
      go (suc h) = ap not (ne_eqb (suc h) 0 (λ z. let n : ⊥ = omega arith in n)) ∙ sym (lt-ltb 0 (suc h) (omega arith))

  pub head_found : (points : ℕ) → e < 1 + points → not b ≡ true → true ≡ some 1 points (headed m)
  head_found points g z = some_stop_from 1 (headed m) points e (not b) told z low g

  pub head_turn : some 1 (e - 1) (headed m) ≡ false → not b ≡ false → some 1 (e + 1 - 1) (headed m) ≡ false
  head_turn i z = some_turn_from 1 (headed m) e (not b) low i told z

-- ---- the chain that is left after k of its turns

follow_ended : (m : Bytes) (n i : ℕ) → i < 1 → follow m n i ≡ []
unfolding follow
follow_ended m zero i e = refl
follow_ended m (suc n) i e = simp (eq-eqb i 0 (omega arith), follow)

follow_more : (m : Bytes) (n i : ℕ) → 1 ≤ i → follow m (suc n) i ≡ i ∷ follow m n (next_of m i)
unfolding follow
follow_more m n i z = simp (ne_eqb i 0 (omega arith), follow)

module _ (m : Bytes) (n k i : ℕ) where
  pub chain_ended : i < 1 → follow m (n - k) i ≡ []
  chain_ended e = follow_ended m (n - k) i e

  pub chain_spent : n ≤ k → follow m (n - k) i ≡ []
  unfolding follow
  chain_spent h = let z : n - k ≡ 0 = omega arith in rw z

  pub chain_more : k < n → 1 ≤ i → follow m (n - k) i ≡ i ∷ follow m (n - (k + 1)) (next_of m i)
  chain_more h z = let q : n - k ≡ suc (n - (k + 1)) = omega arith in rw q (follow_more m (n - (k + 1)) i z)

-- a record that is followed is not 0
pub follow_positive : (m : Bytes) (n i : ℕ) → All (λ x. 1 ≤ x) (follow m n i)
unfolding follow
follow_positive m zero i = tt
follow_positive m (suc n) i = go (eqb i 0) refl (follow_positive m n (next_of m i))
  where
    go : (b : Bool) → eqb i 0 ≡ b → All (λ x. 1 ≤ x) (follow m n (next_of m i))
        → All (λ x. 1 ≤ x) (elim b as (λ _. List ℕ) [ true ↦ [] | false ↦ i ∷ follow m n (next_of m i) ])
    go true e ih = tt
    go false e ih = let z : i ≡ 0 → ⊥ = eqb-false i 0 e in (omega arith, ih)

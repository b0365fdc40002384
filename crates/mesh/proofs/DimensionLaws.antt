-- The dimension of an element by the counts of those below it. Assumes nothing.
use mathlib.Core.Path.{◌≡◌, refl, ap, ◌∙◌}
use mathlib.Core.Bool.{Bool, true, false, not, ◌||◌, ◌&&◌, cond}
use mathlib.Core.List.{[], ◌∷◌}
use Prim.Native.Nat.{ℕ, zero, suc, ◌+◌, ◌≤◌, ◌<◌}
use native.Mathlib.Numerals.{add-one}
use native.Mathlib.Omega.{arith}
use lib.Dec.{eqb, ltb, leb}
use lib.ListN.{length, length-append}
use borrow.Author.Tests.{ltb-true, ltb-false, lt-ltb, le-ltb, le-leb, lt-leb, eqb-true, eqb-false}
use Rattle.vocabulary.specs.Bytes.{Bytes}
use Rattle.vocabulary.specs.Intervals.{is_up_to, picked}
use Rattle.vocabulary.proofs.IntervalLaws.{picked_length_le}
use Rattle.mesh.proofs.WalkLaws.{below_grows}
use Rattle.mesh.specs.Mesh.{top, counted, below, elements, dimension, bad_item}
use Rattle.mesh.proofs.MeetLaws.{outside}

-- ---- thresholds that never fall: those below e are the first ones

module _ (f : ℕ → ℕ) (rising : (j k : ℕ) → j ≤ k → f j ≤ f k) (e : ℕ) where
  -- how many of f 1, .., f n are below e
  passed : ℕ → ℕ
  passed n = length (picked 1 n (λ k. ltb (f k) e))

  passed_yes : (n : ℕ) → f (1 + n) < e → passed (suc n) ≡ passed n + 1
  unfolding passed picked
  passed_yes n h = length-append (picked 1 n (λ k. ltb (f k) e)) _ ∙ ap (λ b. passed n + length (cond b ((1 + n) ∷ []) [])) (lt-ltb _ _ h)

  passed_no : (n : ℕ) → e ≤ f (1 + n) → passed (suc n) ≡ passed n
  unfolding passed picked
  passed_no n h =
      length-append (picked 1 n (λ k. ltb (f k) e)) _
      ∙ (let q : passed n + length (cond (ltb (f (1 + n)) e) ((1 + n) ∷ []) []) ≡ passed n + 0 = ap (λ b. passed n + length (cond b ((1 + n) ∷ []) [])) (le-ltb _ _ h) in
      q ∙ (let z : passed n + 0 ≡ passed n = omega arith in z))

  passed_le : (n : ℕ) → passed n ≤ n
  unfolding passed
  passed_le n = picked_length_le 1 (λ k. ltb (f k) e) n

  threshold : (n k : ℕ) → 1 ≤ k → k ≤ n → (f k < e → k ≤ passed n) × (k ≤ passed n → f k < e)
  threshold zero k l h = let z : ⊥ = omega arith in absurd z
  threshold (suc n) k l h = go (ltb (f (1 + n)) e) refl (λ q. threshold n k l q) (λ q. threshold n n q (omega arith))
    where
      go : (b : Bool) → ltb (f (1 + n)) e ≡ b → (k ≤ n → (f k < e → k ≤ passed n) × (k ≤ passed n → f k < e))
          → (1 ≤ n → (f n < e → n ≤ passed n) × (n ≤ passed n → f n < e))
          → (f k < e → k ≤ passed (suc n)) × (k ≤ passed (suc n) → f k < e)
      go true t ih full =
          let b : f (1 + n) < e = ltb-true _ _ t in
          let all : n ≤ passed n = filled b (eqb n 0) refl full in
          (λ q. omega (arith, passed_yes n b), λ q. omega (arith, rising k (1 + n) (omega arith)))
        where
          filled : f (1 + n) < e → (c : Bool) → eqb n 0 ≡ c → (1 ≤ n → (f n < e → n ≤ passed n) × (n ≤ passed n → f n < e)) → n ≤ passed n
          filled b true z full = omega (arith, eqb-true n 0 z)
          filled b false z full =
              let p : n ≡ 0 → ⊥ = eqb-false n 0 z in
              (full (omega arith)).0 (omega (arith, rising n (1 + n) (omega arith)))
      go false t ih full =
          let b : e ≤ f (1 + n) = ltb-false _ _ t in
          (λ q. last q b (eqb k (1 + n)) refl ih, λ q. let c : k ≤ n = omega (arith, passed_no n b, passed_le n) in (ih c).1 (omega (arith, passed_no n b)))
        where
          last : f k < e → e ≤ f (1 + n) → (c : Bool) → eqb k (1 + n) ≡ c → (k ≤ n → (f k < e → k ≤ passed n) × (k ≤ passed n → f k < e)) → k ≤ passed (suc n)
          last q b true z ih = let y : f k ≡ f (1 + n) = ap f (eqb-true k (1 + n) z) in let x : ⊥ = omega arith in absurd x
          last q b false z ih =
              let p : k ≡ 1 + n → ⊥ = eqb-false k (1 + n) z in
              let r : k ≤ passed n = (ih (omega arith)).0 q in
              omega (arith, passed_no n b)

-- ---- counts

pub below_more : (m : Bytes) (k : ℕ) → below m (suc k) ≡ below m k + counted m k
unfolding below
below_more m k = refl

pub below_next : (m : Bytes) (k : ℕ) → below m (k + 1) ≡ below m k + counted m k
below_next m k = ap (below m) (add-one k) ∙ below_more m k

module _ (m : Bytes) (e : ℕ) where
  pub dimension_le : dimension m e ≤ top m
  unfolding dimension
  dimension_le = picked_length_le 1 (λ k. ltb (below m k) e) (top m)

  -- from 1 to d: e comes after all elements below dimension k exactly where its dimension is k or more
  pub after_below : (k : ℕ) → 1 ≤ k → k ≤ top m → below m k < e → k ≤ dimension m e
  unfolding dimension passed
  after_below k l h = (threshold (below m) (below_grows m) e (top m) k l h).0

  pub below_after : (k : ℕ) → 1 ≤ k → k ≤ top m → k ≤ dimension m e → below m k < e
  unfolding dimension passed
  below_after k l h = (threshold (below m) (below_grows m) e (top m) k l h).1

pub lower_small : (m : Bytes) (d low k : ℕ) → low ≡ below m k → k ≤ d → d ≤ 3 → low ≤ elements m
lower_small m d low k le g h = omega (arith, below_grows m k 4 (omega arith))

-- ---- what may stand in the chain of e: the elements below its dimension

pub lower_right : (m : Bytes) (e g : ℕ) → top m ≤ 3 → outside (below m (dimension m e)) g ≡ bad_item m e g
unfolding outside is_up_to bad_item
lower_right m e g high = go (eqb g 0) refl (ltb (below m (dimension m e)) g) refl
  where
    within : below m (dimension m e) ≤ elements m
    within = below_grows m (dimension m e) 4 (omega (arith, dimension_le m e))

    go : (z : Bool) → eqb g 0 ≡ z → (b : Bool) → ltb (below m (dimension m e)) g ≡ b
        → not (leb 1 g && leb g (below m (dimension m e))) ≡ z || ltb (elements m) g || leb (dimension m e) (dimension m g)
    go true z b t = ap (λ x. not (x && leb g (below m (dimension m e)))) (lt-leb 1 g (omega (arith, eqb-true g 0 z)))
    go false z true t =
        let q : g ≡ 0 → ⊥ = eqb-false g 0 z in
        let k : below m (dimension m e) < g = ltb-true _ _ t in
        simp (le-leb 1 g (omega arith), lt-leb g (below m (dimension m e)) k, le-leb (dimension m e) (dimension m g) (up k (eqb (dimension m e) 0) refl)) (or_end (ltb (elements m) g))
      where
        or_end : (b : Bool) → true ≡ b || true
        or_end true = refl
        or_end false = refl

        up : below m (dimension m e) < g → (b : Bool) → eqb (dimension m e) 0 ≡ b → dimension m e ≤ dimension m g
        up k true z = omega (arith, eqb-true (dimension m e) 0 z)
        up k false z =
            let q : dimension m e ≡ 0 → ⊥ = eqb-false (dimension m e) 0 z in
            after_below m g (dimension m e) (omega arith) (dimension_le m e) k
    go false z false t =
        let q : g ≡ 0 → ⊥ = eqb-false g 0 z in
        let l : 1 ≤ g = omega arith in
        let k : g ≤ below m (dimension m e) = ltb-false _ _ t in
        simp (
          le-leb 1 g l,
          le-leb g (below m (dimension m e)) k,
          le-ltb (elements m) g (omega (arith, within)),
          lt-leb (dimension m e) (dimension m g)
              (down l k (ltb (dimension m g) (dimension m e)) refl),
        )
      where
        zero_below : below m 0 ≡ 0
        zero_below = unfold below in refl

        low : 1 ≤ g → g ≤ below m (dimension m e) → dimension m e ≤ dimension m g → (b : Bool) → eqb (dimension m e) 0 ≡ b → dimension m g < dimension m e
        low l k h true z =
            let x : below m (dimension m e) ≡ 0 = ap (below m) (eqb-true (dimension m e) 0 z) ∙ zero_below in
            let y : ⊥ = omega arith in absurd y
        low l k h false z =
            let q : dimension m e ≡ 0 → ⊥ = eqb-false (dimension m e) 0 z in
            let x : ⊥ = omega (arith, below_after m g (dimension m e) (omega arith) (dimension_le m e) h) in absurd x

        down : 1 ≤ g → g ≤ below m (dimension m e) → (b : Bool) → ltb (dimension m g) (dimension m e) ≡ b → dimension m g < dimension m e
        down l k true t = ltb-true _ _ t
        down l k false t = low l k (ltb-false _ _ t) (eqb (dimension m e) 0) refl

-- The table of the reaches as the code writes it. Assumes nothing.
use mathlib.Core.Path.{◌≡◌, refl, sym, ap, ap₂, ◌∙◌, subst}
use mathlib.Core.Bool.{Bool, true, false, cond}
use mathlib.Core.List.{List, [], ◌∷◌, ◌++◌}
use Prim.Native.Nat.{ℕ, ◌+◌, ◌-◌, ◌*◌, ◌/◌, ◌≤◌, ◌<◌}
use native.Mathlib.Omega.{arith}
use lib.Dec.{eqb, ltb}
use lib.ListN.{length, get_or, set, length-append, length-set}
use lib.Seq.{get_or-set_same, get_or-set_other}
use borrow.Author.Tests.{eqb-true, eqb-false, eq-eqb, ne_eqb, ltb-true, ltb-false}
use Rattle.vocabulary.specs.Bytes.{Bytes, over}
use Rattle.vocabulary.proofs.ByteLaws.{over_none, over_more, over_length}
use Rattle.vocabulary.specs.Intervals.{blocks}
use Rattle.vocabulary.proofs.IntervalLaws.{blocks_turn, blocks_inner, at_last}
use Rattle.layout.specs.Words.{word_bytes, bytes_of}
use Rattle.layout.proofs.WordLaws.{length_bytes_of, bytes_of_append}
use Rattle.layout.specs.Limits.{element_places, most_reached, table_bytes}
use Rattle.walk_reach_table.specs.Tables.{row, Cleared, Emitted}

pub entry_stored : (b x y : Bytes) (o p l : ℕ) → o + 4 ≤ length b → x ≡ over b o (word_bytes p) → y ≡ over x (o + 2) (word_bytes l) → y ≡ over b o (bytes_of (p ∷ l ∷ []))
unfolding word_bytes bytes_of
entry_stored b x y o p l h e f = f ∙ ap (λ (c : Bytes). over c (o + 2) (word_bytes l)) e ∙ over_more b o (word_bytes p) (omega arith) (word_bytes l)

-- ---- nothing, and one after another

pub emit_none : (b : Bytes) (t : ℕ) → t ≤ most_reached → Emitted b b t [] t
unfolding bytes_of
emit_none b t h = record { size = refl; even = refl; count = omega arith; few = h; text = sym (over_none b (4 * t)) }

pub emit_both : (a b c : Bytes) (s t u : ℕ) (xs ys : List ℕ) → length a ≡ table_bytes → Emitted a b s xs t → Emitted b c t ys u → Emitted a c s (xs ++ ys) u
emit_both a b c s t u xs ys room X Y = record {
  size = Y.size ∙ X.size;
  even = omega (arith, length-append xs ys, X.even, Y.even);
  count = omega (arith, length-append xs ys, X.even, X.count, Y.count);
  few = Y.few;
  text =
      let lx : length (bytes_of xs) ≡ 2 * length xs = length_bytes_of xs in
      let at : 4 * t ≡ 4 * s + length (bytes_of xs) = omega (arith, X.even, X.count) in
      Y.text ∙ ap₂ (λ (x : Bytes) o. over x o (bytes_of ys)) X.text at ∙ over_more a (4 * s) (bytes_of xs) (omega (arith, X.count, X.few, X.even)) (bytes_of ys)
      ∙ ap (over a (4 * s)) (sym (bytes_of_append xs ys));
}

-- there is no room for what follows what was written
pub over_both : (a b : Bytes) (s t : ℕ) (xs ys : List ℕ) → Emitted a b s xs t → most_reached < t + length ys / 2 → most_reached < s + length (xs ++ ys) / 2
over_both a b s t xs ys X h = omega (arith, length-append xs ys, X.even, X.count)

-- ---- one place

module _ (layers : List ℕ) (first q x t : ℕ) (b : Bytes) (e : x ≡ get_or layers (first + q) 0) where
  pub emit_skip : x ≡ 0 → t ≤ most_reached → Emitted b b t (row layers first q) t
  emit_skip h k = subst (λ ws. Emitted b b t ws t) (sym empty) (emit_none b t k)
    where
      empty : row layers first q ≡ []
      empty = unfold row in ap (λ c. cond c [] (q ∷ (get_or layers (first + q) 0 - 1) ∷ [])) (eq-eqb (get_or layers (first + q) 0) 0 (omega arith))

  module _ (h : x ≡ 0 → ⊥) where
    full : row layers first q ≡ q ∷ (x - 1) ∷ []
    unfolding row
    full =
        ap (λ c. cond c [] (q ∷ (get_or layers (first + q) 0 - 1) ∷ [])) (ne_eqb (get_or layers (first + q) 0) 0 (omega arith))
        ∙ ap (λ y. q ∷ (y - 1) ∷ []) (sym e)

    pub emit_full : most_reached ≤ t → most_reached < t + length (row layers first q) / 2
    emit_full k = let l : length (row layers first q) ≡ 2 = ap length full in omega arith

    pub emit_put : (c : Bytes) → t < most_reached → length b ≡ table_bytes → c ≡ over b (4 * t) (bytes_of (q ∷ (x - 1) ∷ [])) → Emitted b c t (row layers first q) (t + 1)
    emit_put c k room f = subst (λ ws. Emitted b c t ws (t + 1)) (sym full) (record {
      size = ap length f ∙ over_length b (4 * t) (bytes_of (q ∷ (x - 1) ∷ [])) (omega (arith, length_bytes_of (q ∷ (x - 1) ∷ [])));
      even = refl;
      count = omega arith;
      few = omega arith;
      text = f;
    })

-- ---- the layers that were read are cleared

pub cleared_start : (low : ℕ) (layers : List ℕ) → Cleared low low layers layers
cleared_start low layers = record { size = refl; inside = λ z h l. let n : ⊥ = omega arith in absurd n; lower = λ z h. refl; upper = λ z h. refl }

pub cleared_turn : (first low high x : ℕ) (l₀ l₁ l₂ : List ℕ) → first ≤ low → low ≤ x → x < high → high ≤ element_places → length l₀ ≡ element_places → Cleared low x l₀ l₁
    → l₂ ≡ set l₁ (first + (x - first)) 0
    → Cleared low (x + 1) l₀ l₂
cleared_turn first low high x l₀ l₁ l₂ h l k w r C e = record {
  size = ap length f ∙ length-set l₁ x 0 ∙ C.size;
  inside = λ z a b. at z ∙ in_here z a b (eqb z x) refl;
  lower = λ z a. at z ∙ get_or-set_other l₁ x z 0 0 (omega arith) ∙ C.lower z a;
  upper = λ z a. at z ∙ get_or-set_other l₁ x z 0 0 (omega arith) ∙ C.upper z (omega arith);
}
  where
    f : l₂ ≡ set l₁ x 0
    f = let q : first + (x - first) ≡ x = omega arith in e ∙ ap (λ i. set l₁ i 0) q

    at : (z : ℕ) → get_or l₂ z 0 ≡ get_or (set l₁ x 0) z 0
    at z = ap (λ (l : List ℕ). get_or l z 0) f

    in_here : (z : ℕ) → low ≤ z → z < x + 1 → (b : Bool) → eqb z x ≡ b → get_or (set l₁ x 0) z 0 ≡ 0
    in_here z a b true q = ap (λ i. get_or (set l₁ x 0) i 0) (eqb-true z x q) ∙ get_or-set_same l₁ x 0 0 (omega (arith, C.size))
    in_here z a b false q = let n : z ≡ x → ⊥ = eqb-false z x q in get_or-set_other l₁ x z 0 0 n ∙ C.inside z a (omega arith)

pub cleared_end : (low high x : ℕ) (l₀ l₁ : List ℕ) → low ≤ x → x - low ≤ high - low → high ≤ x → Cleared low x l₀ l₁ → Cleared low high l₀ l₁
cleared_end low high x l₀ l₁ l g h C = record {
  size = C.size;
  inside = λ z a b. C.inside z a (omega arith);
  lower = C.lower;
  upper = λ z a. past z a (ltb z x) refl;
}
  where
    past : (z : ℕ) → high ≤ z → (b : Bool) → ltb z x ≡ b → get_or l₁ z 0 ≡ get_or l₀ z 0
    past z a true q = let k : z < x = ltb-true z x q in C.lower z (omega arith)
    past z a false q = C.upper z (ltb-false z x q)

-- a layer that is not cleared yet is the one before
row_kept : (first low x : ℕ) (l₀ l₁ : List ℕ) → first ≤ low → low ≤ x → Cleared low x l₀ l₁ → row l₁ first (x - first) ≡ row l₀ first (x - first)
unfolding row
row_kept first low x l₀ l₁ h l C = ap (λ y. cond (eqb y 0) [] ((x - first) ∷ (y - 1) ∷ [])) (C.upper (first + (x - first)) (omega arith))

-- ---- the loop over the places

module _ (first low : ℕ) (layers : List ℕ) where
  pub emit_start : (b : Bytes) (t : ℕ) → t ≤ most_reached → Emitted b b t (blocks (low - first) (low - low) (row layers first)) t
  emit_start b t h = let z : low - low ≡ 0 = omega arith in subst (λ k. Emitted b b t (blocks (low - first) k (row layers first)) t) (sym z) (unfold blocks in emit_none b t h)

  module _ (x : ℕ) (now : List ℕ) (h : first ≤ low) (l : low ≤ x) (C : Cleared low x layers now) where
    next : blocks (low - first) (x + 1 - low) (row layers first) ≡ blocks (low - first) (x - low) (row layers first) ++ row now first (x - first)
    next =
        let p : x + 1 - low ≡ x - low + 1 = omega arith in
        let q : low - first + (x - low) ≡ x - first = omega arith in
        ap (λ k. blocks (low - first) k (row layers first)) p ∙ blocks_turn (low - first) (row layers first) (x - low)
        ∙ ap (λ r. blocks (low - first) (x - low) (row layers first) ++ r) (ap (row layers first) q ∙ sym (row_kept first low x layers now h l C))

    pub emit_turn : (a b c : Bytes) (s t u : ℕ) → length a ≡ table_bytes → Emitted a b s (blocks (low - first) (x - low) (row layers first)) t
        → Emitted b c t (row now first (x - first)) u → Emitted a c s (blocks (low - first) (x + 1 - low) (row layers first)) u
    emit_turn a b c s t u room X Y = subst (λ ws. Emitted a c s ws u) (sym next) (emit_both a b c s t u _ _ room X Y)

    pub emit_over : (a b : Bytes) (s t high : ℕ) → x < high → Emitted a b s (blocks (low - first) (x - low) (row layers first)) t
        → most_reached < t + length (row now first (x - first)) / 2 → most_reached < s + length (blocks (low - first) (high - low) (row layers first)) / 2
    emit_over a b s t high k X o =
        let more : length (blocks (low - first + 0) (x + 1 - low) (row layers first)) ≤ length (blocks (low - first) (high - low) (row layers first)) =
        blocks_inner (low - first) (row layers first) 0 (x + 1 - low) (high - low) (omega arith) in
        let z : low - first + 0 ≡ low - first = omega arith in
        omega (arith, over_both a b s t _ _ X o, ap length next, ap (λ i. length (blocks i (x + 1 - low) (row layers first))) z)

  pub emit_end : (a b : Bytes) (s t x high : ℕ) → x - low ≤ high - low → high ≤ x → Emitted a b s (blocks (low - first) (x - low) (row layers first)) t
      → Emitted a b s (blocks (low - first) (high - low) (row layers first)) t
  emit_end a b s t x high g h X = at_last (λ k. Emitted a b s (blocks (low - first) k (row layers first)) t) (x - low) (high - low) g (omega arith) X

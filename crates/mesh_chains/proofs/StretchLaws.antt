-- The chains as they were written down, and a loop over a stretch of them. Assumes nothing.
use mathlib.Core.Path.{◌≡◌, sym, ap, ap₂, ◌∙◌}
use mathlib.Core.Bool.{true, false}
use mathlib.Core.List.{List, ◌∷◌, ◌++◌, append_assoc}
use Prim.Native.Nat.{ℕ, suc, ◌+◌, ◌-◌, ◌≤◌, ◌<◌}
use native.Mathlib.Omega.{arith}
use lib.Dec.{eqb, leb}
use lib.ListN.{drop_of_length-le, length, get_or, set, take, drop, length-append, take-append-drop}
use lib.Seq.{drop-cons, drop-append_seam, take-append_seam}
use borrow.Author.Tests.{le-leb, lt-leb, eq-eqb, ne_eqb}
use Rattle.vocabulary.specs.Intervals.{is_up_to, blocks}
use Rattle.vocabulary.proofs.IntervalLaws.{blocks_split, blocks_inner}
use Rattle.vocabulary.proofs.ListLaws.{and_right}
use Rattle.mesh.specs.Mesh.{elements, chain}
use Rattle.mesh.specs.Meet.{Met, met, meet}
use Rattle.mesh_chains.specs.Written.{stretch, chains, Written}

-- ---- a loop that meets each element of a row: w is what meeting the whole row gives

module _ (v r t : ℕ) (row s : List ℕ) (w : Met) (inv : meet v r s (drop t row) ≡ w) where
  pub items_done : length row ≤ t → met false s ≡ w
  unfolding meet
  items_done h = rw (drop_of_length-le row h) at inv

  module _ (h : t < length row) (g : ℕ) (e : g ≡ get_or row t 0) where
    opened : meet v r s (g ∷ drop (t + 1) row) ≡ w
    opened = let q : suc t ≡ t + 1 = omega arith in rw e (rw q at (rw (drop-cons row t 0 h) at inv))

    pub items_zero : g < 1 → met true s ≡ w
    unfolding meet is_up_to
    items_zero a = simp (lt-leb 1 g a, meet) at opened

    pub items_above : r < g → met true s ≡ w
    unfolding meet is_up_to
    items_above a = simp (and_right (leb 1 g) (leb g r) (lt-leb g r a), meet) at opened

    module _ (a : 1 ≤ g) (b : g ≤ r) where
      inside : elim (eqb (get_or s g 0) v) as (λ _. Met) [ true ↦ met true s | false ↦ meet v r (set s g v) (drop (t + 1) row) ] ≡ w
      unfolding meet is_up_to
      inside = simp (le-leb _ _ a, le-leb _ _ b, meet) at opened

      pub items_again : get_or s g 0 ≡ v → met true s ≡ w
      items_again q = rw (eq-eqb (get_or s g 0) v q) at inside

      pub items_turn : (get_or s g 0 ≡ v → ⊥) → meet v r (set s g v) (drop (t + 1) row) ≡ w
      items_turn q = rw (ne_eqb (get_or s g 0) v q) at inside

-- ---- where the chains stand

middle : (xs ys zs : List ℕ) → stretch (xs ++ (ys ++ zs)) (length xs) (length xs + length ys) ≡ ys
unfolding stretch
middle xs ys zs =
    let q : length xs + length ys - length xs ≡ length ys = omega arith in
    ap₂ (λ (n : ℕ) (l : List ℕ). take n l) q (drop-append_seam xs (ys ++ zs)) ∙ take-append_seam ys zs

module _ (m items ends : List ℕ) (W : Written m items ends) where
  -- the place after the chain of e is there
  pub end_in : (e : ℕ) → e ≤ elements m → get_or ends e 0 ≤ length items
  unfolding chains
  end_in e h =
      let a : length (blocks (1 + 0) e (chain m)) ≤ length (blocks 1 (elements m) (chain m)) = blocks_inner 1 (chain m) 0 e (elements m) (omega arith) in
      let q : 1 + 0 ≡ 1 = omega arith in
      omega (arith, rw q at a, W.wrote.ends_are e h, W.wrote.room, W.wrote.items_long)

  -- and not before the chain's first place
  pub ends_rise : (k n : ℕ) → k + n ≤ elements m → get_or ends k 0 ≤ get_or ends (k + n) 0
  unfolding chains
  ends_rise k n h = omega (arith, W.wrote.ends_are k (omega arith), W.wrote.ends_are (k + n) h, ap length (blocks_split 1 (chain m) k n), length-append (chains m k) (blocks (1 + k) n (chain m)))

  -- the chains of n elements after the first k
  pub rows_are : (k n : ℕ) → k + n ≤ elements m → stretch items (get_or ends k 0) (get_or ends (k + n) 0) ≡ blocks (1 + k) n (chain m)
  unfolding chains
  rows_are k n h =
      ap₂ (stretch items) (W.wrote.ends_are k (omega arith)) (W.wrote.ends_are (k + n) h ∙ ap length (blocks_split 1 (chain m) k n) ∙ length-append (chains m k) rows)
      ∙ ap (λ (l : List ℕ). stretch l (length (chains m k)) (length (chains m k) + length rows)) whole
      ∙ middle (chains m k) rows (blocks (1 + (k + n)) (elements m - (k + n)) (chain m) ++ drop (length (chains m (elements m))) items)
    where
      rows : List ℕ
      rows = blocks (1 + k) n (chain m)

      all : chains m (elements m) ≡ (chains m k ++ rows) ++ blocks (1 + (k + n)) (elements m - (k + n)) (chain m)
      all =
          let q : elements m ≡ k + n + (elements m - (k + n)) = omega arith in
          ap (λ x. blocks 1 x (chain m)) q ∙ blocks_split 1 (chain m) (k + n) (elements m - (k + n))
          ∙ ap (λ (l : List ℕ). l ++ blocks (1 + (k + n)) (elements m - (k + n)) (chain m)) (blocks_split 1 (chain m) k n)

      whole : items ≡ chains m k ++ (rows ++ (blocks (1 + (k + n)) (elements m - (k + n)) (chain m) ++ drop (length (chains m (elements m))) items))
      whole =
          sym (take-append-drop (length (chains m (elements m))) items)
          ∙ ap (λ (l : List ℕ). l ++ drop (length (chains m (elements m))) items) (W.wrote.items_are ∙ all)
          ∙ append_assoc (chains m k ++ rows) (blocks (1 + (k + n)) (elements m - (k + n)) (chain m)) (drop (length (chains m (elements m))) items)
          ∙ append_assoc (chains m k) rows (blocks (1 + (k + n)) (elements m - (k + n)) (chain m) ++ drop (length (chains m (elements m))) items)

  -- the chain of e
  pub row_is : (e : ℕ) → 1 ≤ e → e ≤ elements m → stretch items (get_or ends (e - 1) 0) (get_or ends e 0) ≡ chain m e
  unfolding blocks
  row_is e l h =
      let q : e - 1 + 1 ≡ e = omega arith in
      let p : 1 + (e - 1) + 0 ≡ e = omega arith in
      ap (λ x. stretch items (get_or ends (e - 1) 0) (get_or ends x 0)) (sym q) ∙ rows_are (e - 1) 1 (omega arith) ∙ ap (chain m) p

  -- ---- the same as the code has it

  pub row_ends : (e a b : ℕ) → 1 ≤ e → e ≤ elements m → a ≡ get_or ends (e - 1) 0 → b ≡ get_or ends e 0 → (a ≤ b) × (b ≤ length items)
  row_ends e a b l h p q =
      let r : e - 1 + 1 ≡ e = omega arith in
      (omega (arith, ends_rise (e - 1) 1 (omega arith), ap (λ x. get_or ends x 0) r), omega (arith, end_in e h))

  pub row_read : (e a b : ℕ) → 1 ≤ e → e ≤ elements m → a ≡ get_or ends (e - 1) 0 → b ≡ get_or ends e 0 → stretch items a b ≡ chain m e
  row_read e a b l h p q = ap₂ (stretch items) p q ∙ row_is e l h

  pub rest_ends : (e n a b : ℕ) → e ≤ n → n ≡ elements m → a ≡ get_or ends e 0 → b ≡ get_or ends n 0 → (a ≤ b) × (b ≤ length items)
  rest_ends e n a b l h p q =
      let r : e + (n - e) ≡ n = omega arith in
      (omega (arith, ends_rise e (n - e) (omega arith), ap (λ x. get_or ends x 0) r), omega (arith, end_in n (omega arith)))

  pub rest_read : (e n a b : ℕ) → e ≤ n → n ≡ elements m → a ≡ get_or ends e 0 → b ≡ get_or ends n 0 → stretch items a b ≡ blocks (1 + e) (n - e) (chain m)
  rest_read e n a b l h p q =
      let r : e + (n - e) ≡ n = omega arith in
      ap₂ (stretch items) p (q ∙ ap (λ x. get_or ends x 0) (sym r)) ∙ rows_are e (n - e) (omega arith)

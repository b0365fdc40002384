-- Regions: lists one after another, each read back at its place, and lists by a table of their ends. Assumes nothing.
use mathlib.Core.Path.{◌≡◌, refl, sym, ap, ap₂, ◌∙◌}
use mathlib.Core.List.{List, [], ◌∷◌, ◌++◌, append_assoc, append-nil}
use Prim.Native.Nat.{ℕ, zero, suc, ◌+◌, ◌-◌, ◌*◌, ◌≤◌, ◌<◌}
use native.Mathlib.Nat.{zero-add}
use native.Mathlib.Omega.{arith}
use lib.ListN.{length, get_or, take, length-append, get_or-append}
use lib.Seq.{get_or-append-add}
use Rattle.vocabulary.specs.Bytes.{Bytes}
use Rattle.vocabulary.specs.Lists.{joined}
use Rattle.vocabulary.specs.Intervals.{listed, blocks, total}
use Rattle.vocabulary.proofs.IntervalLaws.{listed_length, listed_at, listed_back, blocks_at, blocks_fit, blocks_sized, total_last}
use Rattle.layout.specs.Words.{word_at, bytes_of}
use Rattle.layout.proofs.WordLaws.{word_any}

-- how long lists are together: those before region k are its place
abbrev pub lengths : {A : Type 0} → List (List A) → ℕ
lengths [] = 0
lengths (r ∷ rs) = length r + lengths rs

pub joined_length : {A : Type 0} (rs : List (List A)) → length (joined rs) ≡ lengths rs
unfolding joined
joined_length [] = refl
joined_length (r ∷ rs) = length-append r (joined rs) ∙ ap (λ k. length r + k) (joined_length rs)

pub joined_append : {A : Type 0} (rs qs : List (List A)) → joined (rs ++ qs) ≡ joined rs ++ joined qs
unfolding joined
joined_append [] qs = refl
joined_append (r ∷ rs) qs = ap (λ x. r ++ x) (joined_append rs qs) ∙ sym (append_assoc r (joined rs) (joined qs))

-- a few lists one after another are regions
module _ {A : Type 0} (x y : List A) where
  pub regions_two : x ++ y ≡ joined (x ∷ y ∷ [])
  unfolding joined
  regions_two = ap (λ r. x ++ r) (sym (append-nil y))

  module _ (z : List A) where
    pub regions_three : x ++ (y ++ z) ≡ joined (x ∷ y ∷ z ∷ [])
    unfolding joined
    regions_three = ap (λ r. x ++ (y ++ r)) (sym (append-nil z))

    pub regions_four : (w : List A) → x ++ (y ++ (z ++ w)) ≡ joined (x ∷ y ∷ z ∷ w ∷ [])
    unfolding joined
    regions_four w = ap (λ r. x ++ (y ++ (z ++ r))) (sym (append-nil w))

pub joined_at : {A : Type 0} (rs : List (List A)) (k t : ℕ) (d : A) → t < length (get_or rs k []) → get_or (joined rs) (lengths (take k rs) + t) d ≡ get_or (get_or rs k []) t d
unfolding joined
joined_at [] k t d h = let no : ⊥ = omega arith in absurd no
joined_at (r ∷ rs) zero t d h = ap (λ x. get_or (r ++ joined rs) x d) (zero-add t) ∙ get_or-append r (joined rs) d t h
joined_at (r ∷ rs) (suc k) t d h =
    let e : length r + lengths (take k rs) + t ≡ length r + (lengths (take k rs) + t) = omega arith in
    ap (λ x. get_or (r ++ joined rs) x d) e ∙ get_or-append-add r (joined rs) (lengths (take k rs) + t) d ∙ joined_at rs k t d h

-- the words of region k, by its place
pub region_at : (rs : List (List ℕ)) (k t p : ℕ) → t < length (get_or rs k []) → p ≡ lengths (take k rs) + t → word_at (bytes_of (joined rs)) p ≡ get_or (get_or rs k []) t 0
region_at rs k t p h e = word_any (joined rs) p ∙ ap (λ x. get_or (joined rs) x 0) e ∙ joined_at rs k t 0 h

-- a table from 0 on
pub table_at : (rs : List (List ℕ)) (k n : ℕ) (g : ℕ → ℕ) → get_or rs k [] ≡ listed 0 n g → (j p : ℕ) → j < n → p ≡ lengths (take k rs) + j → word_at (bytes_of (joined rs)) p ≡ g j
table_at rs k n g r j p h e =
    region_at rs k j p (omega (arith, ap length r, listed_length 0 g n)) e ∙ ap (λ (xs : List ℕ). get_or xs j 0) r ∙ listed_at 0 g n j 0 h ∙ ap g (zero-add j)

-- ---- lists by their ends: the ends stand from word p on, the entries of the lists 1 to n, w words each, from word q on

-- lists of `many` entries, w words each
module _ (w : ℕ) (rows : ℕ → List ℕ) (many : ℕ → ℕ) (sized : (l : ℕ) → length (rows l) ≡ w * many l) where
  total_times : (n : ℕ) → total 1 n (λ l. w * many l) ≡ w * total 1 n many
  unfolding total
  total_times zero = omega arith
  total_times (suc n) = omega (arith, total_times n)

  pub rows_words : (n : ℕ) → length (blocks 1 n rows) ≡ w * total 1 n many
  rows_words n = blocks_sized 1 rows (λ l. w * many l) n sized ∙ total_times n

  module _ (b : Bytes) (p q n : ℕ) (ends : (l : ℕ) → l ≤ n → word_at b (p + l) ≡ total 1 l many)
      (words : (k : ℕ) → k < length (blocks 1 n rows) → word_at b (q + k) ≡ get_or (blocks 1 n rows) k 0) (j : ℕ) (low : 1 ≤ j) (high : j ≤ n) where
    -- word r of entry t of list j
    pub entry_word_lem : (t r : ℕ) → t < many j → r < w → word_at b (q + (w * (total 1 (j - 1) many + t) + r)) ≡ get_or (rows j) (w * t + r) 0
    entry_word_lem t r h l =
        let i : 1 + (j - 1) ≡ j = omega arith in
        let m : many j ≡ t + 1 + (many j - (t + 1)) = omega arith in
        let f : w * many j ≡ w * (t + 1 + (many j - (t + 1))) = ap (λ x. w * x) m in
        let g : length (rows (1 + (j - 1))) ≡ w * many j = ap (λ x. length (rows x)) i ∙ sized j in
        let k : w * t + r < length (rows (1 + (j - 1))) = omega arith in
        let e : w * (total 1 (j - 1) many + t) + r ≡ length (blocks 1 (j - 1) rows) + (w * t + r) = omega (arith, rows_words (j - 1)) in
        words (w * (total 1 (j - 1) many + t) + r) (omega (arith, blocks_fit 1 rows n (j - 1) (omega arith)))
        ∙ ap (λ x. get_or (blocks 1 n rows) x 0) e
        ∙ blocks_at 1 rows n (j - 1) (w * t + r) 0 (omega arith) k
        ∙ ap (λ x. get_or (rows x) (w * t + r) 0) i

    -- list j, where its entries are those of xs
    pub row_back : {A : Type 0} (entry : ℕ → A) (xs : List A) (d : A) → length xs ≡ many j → ((t : ℕ) → t < many j → entry (total 1 (j - 1) many + t) ≡ get_or xs t d)
        → listed (word_at b (p + (j - 1))) (word_at b (p + j) - word_at b (p + (j - 1))) entry ≡ xs
    row_back entry xs d m each =
        let a : word_at b (p + (j - 1)) ≡ total 1 (j - 1) many = ends (j - 1) (omega arith) in
        let c : word_at b (p + j) - word_at b (p + (j - 1)) ≡ length xs = omega (arith, ends j high, total_last many j low) in
        ap₂ (λ x y. listed x y entry) a c ∙ listed_back (total 1 (j - 1) many) entry xs d (λ t h. each t (omega arith))

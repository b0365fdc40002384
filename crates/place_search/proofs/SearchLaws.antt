-- What the search of the code leaves at each of its ends is the defined answer. Assumes nothing.
use mathlib.Core.Path.{◌≡◌, refl, sym, ap, ◌∙◌}
use Prim.Native.Nat.{ℕ, ◌+◌, ◌*◌, ◌/◌, ◌<◌, ◌≤◌}
use native.Mathlib.Nat.{zero-add}
use native.Mathlib.Omega.{arith}
use mathlib.Core.Bool.{Bool, true, false}
use lib.Dec.{eqb}
use lib.ListN.{length, get_or}
use Rattle.std.specs.Bool.{then_some}
use borrow.Author.Tests.{ne_eqb, eqb-true, eqb-false}
use Rattle.vocabulary.specs.Bytes.{Bytes}
use Rattle.layout.specs.Words.{word, word_at}
use Rattle.layout.proofs.WordLaws.{length_words, words_at}
use Rattle.std.specs.Prelude.{Option, Some, None}
use Rattle.place_search.specs.Places.{lower_bound, place_in, read_for, words_in, place_number, found_at, saturated}
use Rattle.place_search.proofs.PlaceLaws.{lower_more, lower_here, lower_end, read_here, read_all, place_here, place_other, place_none, number_back}

words_count : (b : Bytes) → length (words_in b) ≡ length b / 2
unfolding words_in
words_count b = length_words b 0 (length b / 2)

words_word : (b : Bytes) (k : ℕ) → k < length b / 2 → get_or (words_in b) k 0 ≡ word b (2 * k)
unfolding words_in word_at
words_word b k h = words_at b 0 (length b / 2) k h ∙ ap (λ i. word_at b i) (zero-add k)

found_place : (p : ℕ) → Some (p + 1) ≡ found_at (p + 1)
unfolding found_at
found_place p = simp (ne_eqb (p + 1) 0 (λ e. let z : ⊥ = omega arith in z))

found_none : None ≡ found_at 0
unfolding found_at
found_none = refl

-- the loop over the words of b, of which there are n
module _ (b : Bytes) (x n : ℕ) (many : n ≡ length b / 2) where
  pub search_turn : (k y : ℕ) → k ≤ lower_bound x (words_in b) → k < n → y ≡ word b (2 * k) → y < x → k + 1 ≤ lower_bound x (words_in b)
  search_turn k y h l e q =
      lower_more x (words_in b) k h (omega (arith, words_count b)) (omega (arith, words_word b k (omega arith)))

  module _ (k y : ℕ) (h : k ≤ lower_bound x (words_in b)) (l : k < n) (e : y ≡ word b (2 * k)) (q : x ≤ y) where
    here : lower_bound x (words_in b) ≡ k
    here = lower_here x (words_in b) k h (omega (arith, words_word b k (omega arith)))

    inside : k < length (words_in b)
    inside = omega (arith, words_count b)

    search_found : x ≡ y → Some (k + 1) ≡ found_at (place_in x (words_in b))
    search_found s = found_place k ∙ ap found_at (sym (place_here x (words_in b) k here inside (words_word b k (omega arith) ∙ sym e ∙ sym s)))

    search_absent : (x ≡ y → ⊥) → None ≡ found_at (place_in x (words_in b))
    search_absent s = found_none ∙ ap found_at (sym (place_other x (words_in b) k here inside (λ r. s (sym r ∙ words_word b k (omega arith) ∙ sym e))))

    pub search_told : then_some (eqb x y) (k + 1) ≡ found_at (place_in x (words_in b))
    search_told = go (eqb x y) refl
      where
        go : (t : Bool) → eqb x y ≡ t → then_some t (k + 1) ≡ found_at (place_in x (words_in b))
        go true s = search_found (eqb-true x y s)
        go false s = search_absent (eqb-false x y s)

    pub search_read : k + 1 ≡ read_for x (words_in b)
    search_read = sym (read_here x (words_in b) k here inside)

  module _ (k : ℕ) (h : k ≤ lower_bound x (words_in b)) (l : n ≤ k) where
    past : lower_bound x (words_in b) ≡ length (words_in b)
    past = lower_end x (words_in b) k h (omega (arith, words_count b))

    pub search_ended : None ≡ found_at (place_in x (words_in b))
    search_ended = found_none ∙ ap found_at (sym (place_none x (words_in b) (length (words_in b)) past (omega arith)))

    pub search_all : n ≡ read_for x (words_in b)
    search_all = many ∙ sym (words_count b) ∙ sym (read_all x (words_in b) (length (words_in b)) past (omega arith))

-- ---- the answer as numbers

pub place_told : (found : Option ℕ) (p q : ℕ) → found ≡ Some p → found ≡ found_at q → p ≡ q
place_told found p q e f = ap place_number (sym e ∙ f) ∙ number_back q

pub none_told : (found : Option ℕ) (q : ℕ) → found ≡ None → found ≡ found_at q → 0 ≡ q
none_told found q e f = ap place_number (sym e ∙ f) ∙ number_back q

pub count_told : (r n m : ℕ) → r ≡ saturated n → n ≡ m → r ≡ saturated m
count_told r n m e f = e ∙ ap saturated f

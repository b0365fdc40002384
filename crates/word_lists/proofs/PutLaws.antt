-- Words written one after another. Assumes nothing.
use mathlib.Core.Path.{◌≡◌, refl, sym, ap, ap₂, ◌∙◌, subst}
use mathlib.Core.List.{List, [], ◌∷◌, ◌++◌}
use Prim.Native.Nat.{ℕ, ◌+◌, ◌-◌, ◌*◌, ◌≤◌, ◌<◌}
use native.Mathlib.Nat.{zero-add}
use native.Mathlib.Numerals.{add-one}
use native.Mathlib.Omega.{arith}
use lib.ListN.{length, get_or, take, length-append}
use lib.Seq.{take-suc, take_all, length-take-le}
use Rattle.vocabulary.specs.Bytes.{Bytes, over}
use Rattle.vocabulary.proofs.ByteLaws.{over_none, over_length, over_more}
use Rattle.vocabulary.specs.Intervals.{listed, blocks}
use Rattle.vocabulary.proofs.IntervalLaws.{listed_turn, listed_length, blocks_start, blocks_turn, blocks_fit, at_last}
use Rattle.layout.specs.Words.{word_bytes, bytes_of}
use Rattle.layout.proofs.WordLaws.{length_bytes_of, bytes_of_append}
use Rattle.word_lists.specs.Putting.{Put}

pub put_none : (b : Bytes) (s : ℕ) → Put b b s s []
unfolding bytes_of
put_none b s = record { count = let e : s ≡ s + 0 = omega arith in e; text = sym (over_none b (2 * s)) }

pub put_word : (b c : Bytes) (s w : ℕ) → c ≡ over b (2 * s) (word_bytes w) → Put b c s (s + 1) (w ∷ [])
unfolding bytes_of word_bytes
put_word b c s w e = record { count = refl; text = e }

pub put_length : (a b : Bytes) (s t : ℕ) (ws : List ℕ) → Put a b s t ws → 2 * t ≤ length a → length b ≡ length a
put_length a b s t ws P h = ap length P.text ∙ over_length a (2 * s) (bytes_of ws) (omega (arith, P.count, length_bytes_of ws))

pub put_both : (a b c : Bytes) (s t u : ℕ) (xs ys : List ℕ) → Put a b s t xs → Put b c t u ys → 2 * t ≤ length a → Put a c s u (xs ++ ys)
put_both a b c s t u xs ys P Q h = record {
  count = omega (arith, P.count, Q.count, length-append xs ys);
  text =
      let l : length (bytes_of xs) ≡ 2 * length xs = length_bytes_of xs in
      let p : 2 * t ≡ 2 * s + length (bytes_of xs) = omega (arith, P.count) in
      Q.text
      ∙ ap₂ (λ (x : Bytes) o. over x o (bytes_of ys)) P.text p
      ∙ over_more a (2 * s) (bytes_of xs) (omega (arith, P.count)) (bytes_of ys)
      ∙ ap (over a (2 * s)) (sym (bytes_of_append xs ys));
}

pub put_as : (a b : Bytes) (s t : ℕ) (xs ys : List ℕ) → xs ≡ ys → Put a b s t xs → Put a b s t ys
put_as a b s t xs ys e P = subst (Put a b s t) e P

-- ---- the numbers of a list, and words that are read

pub list_turn : (a b c : Bytes) (s t u k : ℕ) (list : List ℕ) (x : ℕ) → 2 * (s + length list) ≤ length a → k < length list → x ≡ get_or list k 0
    → Put a b s t (take k list) → Put b c t u (x ∷ []) → Put a c s u (take (k + 1) list)
list_turn a b c s t u k list x room h e P Q =
    put_as a c s u (take k list ++ (x ∷ [])) (take (k + 1) list)
    (ap (λ y. take k list ++ (y ∷ [])) e ∙ sym (take-suc list k 0 h) ∙ ap (λ j. take j list) (sym (add-one k)))
    (put_both a b c s t u (take k list) (x ∷ []) P Q (omega (arith, P.count, length-take-le k list (omega arith))))

module _ (a b c : Bytes) (s t u k n : ℕ) (room : 2 * (s + n) ≤ length a) (h : k < n) where
  pub words_turn : (g : ℕ → ℕ) (x : ℕ) → x ≡ g k → Put a b s t (listed 0 k g) → Put b c t u (x ∷ []) → Put a c s u (listed 0 (k + 1) g)
  words_turn g x e P Q =
      put_as a c s u (listed 0 k g ++ (x ∷ [])) (listed 0 (k + 1) g)
      (ap (λ y. listed 0 k g ++ (y ∷ [])) (e ∙ ap g (sym (zero-add k))) ∙ sym (listed_turn 0 g k))
      (put_both a b c s t u (listed 0 k g) (x ∷ []) P Q (omega (arith, P.count, listed_length 0 g k)))

pub list_end : (a b : Bytes) (s t k : ℕ) (list : List ℕ) → length list ≤ k → Put a b s t (take k list) → Put a b s t list
list_end a b s t k list h P = put_as a b s t (take k list) list (take_all k list h) P

pub words_end : (a b : Bytes) (s t k n : ℕ) (g : ℕ → ℕ) → k ≤ n → n ≤ k → Put a b s t (listed 0 k g) → Put a b s t (listed 0 n g)
words_end a b s t k n g h q P = at_last (λ j. Put a b s t (listed 0 j g)) k n h q P

-- n + 1 words: a turn of the loop that writes the first n, and the last
pub words_more : (a b c : Bytes) (s t u k n x : ℕ) (g : ℕ → ℕ) → 2 * (s + n + 1) ≤ length a → k < n → x ≡ g k → Put a b s t (listed 0 k g) → Put b c t u (x ∷ []) → Put a c s u (listed 0 (k + 1) g)
words_more a b c s t u k n x g room h e P Q = words_turn a b c s t u k (n + 1) (omega arith) (omega arith) g x e P Q

pub words_last : (a b c : Bytes) (s t u k n x : ℕ) (g : ℕ → ℕ) → 2 * (s + n + 1) ≤ length a → k ≤ n → n ≤ k → x ≡ g k → Put a b s t (listed 0 k g) → Put b c t u (x ∷ [])
    → Put a c s u (listed 0 (n + 1) g)
words_last a b c s t u k n x g room h q e P Q =
    at_last (λ j. Put a c s u (listed 0 (j + 1) g)) k n h q (words_turn a b c s t u k (n + 1) (omega arith) (omega arith) g x e P Q)

pub words_start : (b : Bytes) (s : ℕ) (g : ℕ → ℕ) → Put b b s s (listed 0 0 g)
unfolding listed
words_start b s g = put_none b s

pub blocks_begin : (b : Bytes) (s a : ℕ) (g : ℕ → List ℕ) → Put b b s s (blocks a (a - a) g)
blocks_begin b s a g =
    let e : a - a ≡ 0 = omega arith in
    put_as b b s s [] (blocks a (a - a) g) (sym (ap (λ k. blocks a k g) e ∙ blocks_start a g)) (put_none b s)

-- ---- lists written one after another, for the numbers from 1 to n

module _ (g : ℕ → List ℕ) (n : ℕ) where
  pub many_start : (b : Bytes) (s : ℕ) → Put b b s s (blocks 1 (1 - 1) g)
  many_start b s = blocks_begin b s 1 g

  pub many_fit : (l : ℕ) → 1 ≤ l → l < n + 1 → length (blocks 1 (l - 1) g) + length (g l) ≤ length (blocks 1 n g)
  many_fit l h k = let e : 1 + (l - 1) ≡ l = omega arith in omega (arith, blocks_fit 1 g n (l - 1) (omega arith), ap (λ x. length (g x)) e)

  pub many_end : (a b : Bytes) (s u l : ℕ) → l ≤ n + 1 → n + 1 ≤ l → Put a b s u (blocks 1 (l - 1) g) → Put a b s u (blocks 1 n g)
  many_end a b s u l p h P = at_last (λ k. Put a b s u (blocks 1 k g)) (l - 1) n (omega arith) (omega arith) P

  -- where they have w words in all, and list l has size l of them
  module _ (w : ℕ) (whole : length (blocks 1 n g) ≡ w) where
    pub many_count : (a b : Bytes) (s t : ℕ) → Put a b s t (blocks 1 n g) → t ≡ s + w
    many_count a b s t P = omega (arith, P.count)

    pub many_room : (size : ℕ → ℕ) → ((l : ℕ) → length (g l) ≡ size l) → (a b : Bytes) (s u l : ℕ) → 1 ≤ l → l < n + 1 → 2 * (s + w) ≤ length a → s + w < 65536 → length b ≡ length a
        → Put a b s u (blocks 1 (l - 1) g) → (2 * (u + size l) ≤ length b) × (u < 65536)
    many_room size each a b s u l h k r q e P = (omega (arith, P.count, many_fit l h k, each l), omega (arith, P.count, many_fit l h k))

    pub many_turn : (a b c : Bytes) (s u v l : ℕ) → 1 ≤ l → l < n + 1 → 2 * (s + w) ≤ length a → Put a b s u (blocks 1 (l - 1) g) → Put b c u v (g l) → Put a c s v (blocks 1 (l + 1 - 1) g)
    many_turn a b c s u v l h k r P Q =
        let i₁ : l ≡ 1 + (l - 1) = omega arith in
        let i₂ : l - 1 + 1 ≡ l + 1 - 1 = omega arith in
        put_as a c s v (blocks 1 (l - 1) g ++ g l) (blocks 1 (l + 1 - 1) g) (ap (λ x. blocks 1 (l - 1) g ++ g x) i₁ ∙ sym (blocks_turn 1 g (l - 1)) ∙ ap (λ k. blocks 1 k g) i₂)
        (put_both a b c s u v (blocks 1 (l - 1) g) (g l) P Q (omega (arith, P.count, many_fit l h k)))

-- ---- several, one after another

pub list_count : (a b : Bytes) (s t n : ℕ) (list : List ℕ) → Put a b s t (take n list) → n ≤ length list → t ≡ s + n
list_count a b s t n list P h = omega (arith, P.count, length-take-le n list h)

pub words_count : (a b : Bytes) (s t n : ℕ) (g : ℕ → ℕ) → Put a b s t (listed 0 n g) → t ≡ s + n
words_count a b s t n g P = omega (arith, P.count, listed_length 0 g n)

pub put_four : (a b c d e : Bytes) (s t u w x : ℕ) (ks ls ms ns : List ℕ) → 2 * x ≤ length a → Put a b s t ks → Put b c t u ls → Put c d u w ms → Put d e w x ns
    → Put a e s x (ks ++ (ls ++ (ms ++ ns)))
put_four a b c d e s t u w x ks ls ms ns room P Q R T =
    let lb : length b ≡ length a = put_length a b s t ks P (omega (arith, Q.count, R.count, T.count)) in
    let lc : length c ≡ length b = put_length b c t u ls Q (omega (arith, R.count, T.count)) in
    put_both a b e s t x ks (ls ++ (ms ++ ns)) P
    (put_both b c e t u x ls (ms ++ ns) Q (put_both c d e u w x ms ns R T (omega (arith, T.count))) (omega (arith, R.count, T.count)))
    (omega (arith, Q.count, R.count, T.count))

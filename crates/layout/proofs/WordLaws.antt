-- Laws of words in bytes: words written and read back, both ways, and words after a replacement. Assumes nothing.
use Rattle.std.specs.Prelude.{◌≡◌, refl, Bool, true, false, List, [], ◌∷◌, ◌++◌, ltb, length, get_or, set}
use Rattle.std.proofs.Common.{sym, ap₂, ◌∙◌, not-suc-le-zero, le_of_suc-le-suc, div-add-mod', add-zero, zero-add, get_or-append-add, get_or-set_other, ext_get_or, ltb-true, ltb-false}
use Rattle.std.proofs.Math.Path.{ap}
use Prim.Native.Nat.{ℕ, zero, suc, ◌+◌, ◌*◌, ◌/◌, ◌%◌, ◌<◌, ◌≤◌}
use native.Mathlib.Omega.{arith}
use Rattle.std.proofs.Math.ListN.{get_or-append, get_or-eq_default}
use Rattle.vocabulary.specs.Bytes.{Bytes, byte_at, over}
use Rattle.vocabulary.specs.Lists.{All}
use Rattle.vocabulary.specs.Intervals.{listed, blocks}
use Rattle.vocabulary.proofs.ListLaws.{All_get_or}
use Rattle.vocabulary.proofs.IntervalLaws.{listed_length, listed_at, listed_back}
use Rattle.vocabulary.proofs.ByteLaws.{byte_past, over_in, over_before, over_after}
use Rattle.layout.specs.Words.{word, word_at, words, word_bytes, bytes_of}

-- ---- one word

-- equal bytes give equal words
pub word_same : (x y : Bytes) (o p : ℕ) → byte_at x o ≡ byte_at y p → byte_at x (o + 1) ≡ byte_at y (p + 1) → word x o ≡ word y p
unfolding word
word_same x y o p e f = ap₂ (λ a b. a * 256 + b) e f

pub word_less : (b : Bytes) (o : ℕ) → byte_at b o < 256 → byte_at b (o + 1) < 256 → word b o < 65536
unfolding word
word_less b o h k = omega arith

pub length_word_bytes : (v : ℕ) → length (word_bytes v) ≡ 2
unfolding word_bytes
length_word_bytes v = refl

-- the word that was written
pub word_back : (v : ℕ) → word (word_bytes v) 0 ≡ v
unfolding word word_bytes
word_back v = div-add-mod' v 256

-- the bytes of the word that was read
pub word_bytes_lem : (b : Bytes) (o : ℕ) → byte_at b (o + 1) < 256 → word_bytes (word b o) ≡ byte_at b o ∷ byte_at b (o + 1) ∷ []
unfolding word word_bytes
word_bytes_lem b o h =
    let p : (byte_at b o * 256 + byte_at b (o + 1)) / 256 ≡ byte_at b o = omega arith in
    let q : (byte_at b o * 256 + byte_at b (o + 1)) % 256 ≡ byte_at b (o + 1) = omega arith in
    simp (p, q)

-- words of two texts joined
pub word_left : (p q : Bytes) (o : ℕ) → o + 1 < length p → word (p ++ q) o ≡ word p o
word_left p q o h = word_same (p ++ q) p o o (get_or-append p q 0 o (omega arith)) (get_or-append p q 0 (o + 1) h)

pub word_past : (p q : Bytes) (o : ℕ) → word (p ++ q) (length p + o) ≡ word q o
word_past p q o =
    let e : length p + o + 1 ≡ length p + (o + 1) = omega arith in
    word_same (p ++ q) q (length p + o) o (get_or-append-add p q o 0) (ap (λ n. byte_at (p ++ q) n) e ∙ get_or-append-add p q (o + 1) 0)

-- after a byte is stored elsewhere
pub word_set : (b : Bytes) (i v o : ℕ) → (o ≡ i → ⊥) → (o + 1 ≡ i → ⊥) → word (set b i v) o ≡ word b o
word_set b i v o h k = word_same (set b i v) b o o (get_or-set_other b i o v 0 h) (get_or-set_other b i (o + 1) v 0 k)

-- after a replacement: inside it, before it and after it
module _ (b : Bytes) (at : ℕ) (xs : Bytes) (h : at + length xs ≤ length b) where
  pub word_in : (t : ℕ) → t + 1 < length xs → word (over b at xs) (at + t) ≡ word xs t
  word_in t k =
      let e : at + t + 1 ≡ at + (t + 1) = omega arith in
      word_same (over b at xs) xs (at + t) t (over_in b at xs h t (omega arith)) (ap (λ n. byte_at (over b at xs) n) e ∙ over_in b at xs h (t + 1) k)

  pub word_before : (o : ℕ) → o + 1 < at → word (over b at xs) o ≡ word b o
  word_before o k = word_same (over b at xs) b o o (over_before b at xs h o (omega arith)) (over_before b at xs h (o + 1) k)

  pub word_after : (o : ℕ) → at + length xs ≤ o → word (over b at xs) o ≡ word b o
  word_after o k = word_same (over b at xs) b o o (over_after b at xs h o k) (over_after b at xs h (o + 1) (omega arith))

-- the word that was stored
pub word_stored : (b : Bytes) (o v : ℕ) → o + 1 < length b → word (over b o (word_bytes v)) o ≡ v
word_stored b o v h =
    let l : length (word_bytes v) ≡ 2 = length_word_bytes v in
    ap (λ n. word (over b o (word_bytes v)) n) (sym (add-zero o)) ∙ word_in b o (word_bytes v) (omega arith) 0 (omega arith) ∙ word_back v

-- ---- lists of words

-- past the end
pub word_at_none : (b : Bytes) (i : ℕ) → length b ≤ 2 * i → word_at b i ≡ 0
unfolding word_at word
word_at_none b i h = omega (arith, byte_past b (2 * i) h, byte_past b (2 * i + 1) (omega arith))

pub length_words : (b : Bytes) (a n : ℕ) → length (words b a n) ≡ n
unfolding words
length_words b a n = listed_length a (word_at b) n

pub words_at : (b : Bytes) (a n i : ℕ) → i < n → get_or (words b a n) i 0 ≡ word_at b (a + i)
unfolding words
words_at b a n i h = listed_at a (word_at b) n i 0 h

pub length_bytes_of : (ws : List ℕ) → length (bytes_of ws) ≡ 2 * length ws
unfolding bytes_of
length_bytes_of [] = refl
length_bytes_of (v ∷ vs) = omega (arith, length_bytes_of vs)

pub bytes_of_append : (vs ws : List ℕ) → bytes_of (vs ++ ws) ≡ bytes_of vs ++ bytes_of ws
unfolding bytes_of
bytes_of_append [] ws = refl
bytes_of_append (v ∷ vs) ws = ap (λ r. v / 256 ∷ v % 256 ∷ r) (bytes_of_append vs ws)

-- the words of a range, one after another
pub bytes_of_listed : (a n : ℕ) (g : ℕ → ℕ) → bytes_of (listed a n g) ≡ blocks a n (λ x. word_bytes (g x))
unfolding listed blocks bytes_of word_bytes
bytes_of_listed a zero g = refl
bytes_of_listed a (suc n) g = bytes_of_append (listed a n g) (g (a + n) ∷ []) ∙ ap (λ r. r ++ word_bytes (g (a + n))) (bytes_of_listed a n g)

-- every word is two bytes
pub bytes_of_bytes : (ws : List ℕ) → All (λ v. v < 65536) ws → All (λ x. x < 256) (bytes_of ws)
unfolding bytes_of
bytes_of_bytes [] a = tt
bytes_of_bytes (v ∷ vs) a = let h : v < 65536 = a.0 in (omega arith, (omega arith, bytes_of_bytes vs a.1))

-- the word that was written
pub word_at_bytes_of : (ws : List ℕ) (i : ℕ) → i < length ws → word_at (bytes_of ws) i ≡ get_or ws i 0
unfolding word_at bytes_of word
word_at_bytes_of [] i h = absurd (not-suc-le-zero h)
word_at_bytes_of (v ∷ vs) zero h = div-add-mod' v 256
word_at_bytes_of (v ∷ vs) (suc i) h =
    let e : 2 * suc i ≡ suc (suc (2 * i)) = omega arith in
    let f : 2 * suc i + 1 ≡ suc (suc (2 * i + 1)) = omega arith in
    ap₂ (λ a b. byte_at (bytes_of (v ∷ vs)) a * 256 + byte_at (bytes_of (v ∷ vs)) b) e f ∙ word_at_bytes_of vs i (le_of_suc-le-suc h)

-- the word of index k, and 0 past the end
pub word_any : (ws : List ℕ) (k : ℕ) → word_at (bytes_of ws) k ≡ get_or ws k 0
word_any ws k = go (ltb k (length ws)) refl
  where
    go : (b : Bool) → ltb k (length ws) ≡ b → word_at (bytes_of ws) k ≡ get_or ws k 0
    go true e = word_at_bytes_of ws k (ltb-true _ _ e)
    go false e =
        let h : length ws ≤ k = ltb-false _ _ e in
        word_at_none (bytes_of ws) k (omega (arith, length_bytes_of ws)) ∙ sym (get_or-eq_default ws 0 h)

-- with more bytes after them
pub word_at_first : (ws : List ℕ) (r : Bytes) (i : ℕ) → i < length ws → word_at (bytes_of ws ++ r) i ≡ get_or ws i 0
unfolding word_at
word_at_first ws r i h = word_left (bytes_of ws) r (2 * i) (omega (arith, length_bytes_of ws)) ∙ word_at_bytes_of ws i h

-- the words that were written
pub words_bytes_of : (ws : List ℕ) → words (bytes_of ws) 0 (length ws) ≡ ws
unfolding words
words_bytes_of ws = listed_back 0 (word_at (bytes_of ws)) ws 0 (λ i h. ap (λ n. word_at (bytes_of ws) n) (zero-add i) ∙ word_at_bytes_of ws i h)

-- the bytes of a list of words, word by word
bytes_of_byte : (ws : List ℕ) (i r : ℕ) → i < length ws → r < 2 → byte_at (bytes_of ws) (2 * i + r) ≡ get_or (word_bytes (get_or ws i 0)) r 0
unfolding bytes_of word_bytes
bytes_of_byte [] i r h q = absurd (not-suc-le-zero h)
bytes_of_byte (v ∷ vs) zero zero h q = refl
bytes_of_byte (v ∷ vs) zero (suc zero) h q = refl
bytes_of_byte (v ∷ vs) zero (suc (suc r)) h q = let z : ⊥ = omega arith in absurd z
bytes_of_byte (v ∷ vs) (suc i) r h q =
    let e : 2 * suc i + r ≡ suc (suc (2 * i + r)) = omega arith in
    ap (λ n. byte_at (bytes_of (v ∷ vs)) n) e ∙ bytes_of_byte vs i r (le_of_suc-le-suc h) q

-- the bytes of words that were read from bytes
module _ (ws : List ℕ) (v : Bytes) (n : ℕ) (l : n ≤ length ws) (f : (k : ℕ) → k < n → (get_or ws k 0 ≡ byte_at v (2 * k) * 256 + byte_at v (2 * k + 1)) × (byte_at v (2 * k + 1) < 256)) where
  pub bytes_of_read : (x : ℕ) → x < 2 * n → byte_at (bytes_of ws) x ≡ byte_at v x
  unfolding word_bytes
  bytes_of_read x h = half (x / 2) (x % 2) (omega arith) (omega arith) (omega arith)
    where
      half : (k r : ℕ) → x ≡ 2 * k + r → r < 2 → k < n → byte_at (bytes_of ws) x ≡ byte_at v x
      half k zero e g q =
          let p : x ≡ 2 * k = omega arith in
          let w = f k q in
          ap (byte_at (bytes_of ws)) e ∙ bytes_of_byte ws k 0 (omega arith) g ∙ rw p (omega (arith, w.0, w.1))
      half k (suc r) e g q =
          let p : x ≡ 2 * k + 1 = omega arith in
          let w = f k q in
          ap (byte_at (bytes_of ws)) p ∙ bytes_of_byte ws k 1 (omega arith) (omega arith) ∙ rw p (omega (arith, w.0, w.1))

-- two lists of words with the same bytes are one
pub bytes_of_same : (vs ws : List ℕ) → bytes_of vs ≡ bytes_of ws → vs ≡ ws
bytes_of_same vs ws e =
    let l : length (bytes_of vs) ≡ length (bytes_of ws) = ap (λ x. length x) e in
    let n : length vs ≡ length ws = omega (arith, length_bytes_of vs, length_bytes_of ws) in
    ext_get_or 0 vs ws n (λ i h. sym (word_at_bytes_of vs i h) ∙ ap (λ x. word_at x i) e ∙ word_at_bytes_of ws i (omega arith))

-- the bytes that were read
module _ (b : Bytes) (n : ℕ) (l : length b ≡ 2 * n) (a : All (λ x. x < 256) b) where
  length_back : length (bytes_of (words b 0 n)) ≡ length b
  length_back = omega (arith, length_bytes_of (words b 0 n), length_words b 0 n)

  byte_back : (i : ℕ) → i < length b → byte_at (bytes_of (words b 0 n)) i ≡ byte_at b i
  unfolding word_at word
  byte_back i h =
      bytes_of_read (words b 0 n) b n (omega (arith, length_words b 0 n))
      (λ j k. (words_at b 0 n j k ∙ ap (λ x. word_at b x) (zero-add j), All_get_or (λ x. x < 256) b (2 * j + 1) 0 a (omega arith))) i (omega arith)

  pub bytes_of_words : bytes_of (words b 0 n) ≡ b
  bytes_of_words = ext_get_or 0 (bytes_of (words b 0 n)) b length_back (λ i h. byte_back i (omega (arith, length_back)))

-- words of the same bytes, from elsewhere
pub words_same : (x y : Bytes) (a c n : ℕ) → ((i : ℕ) → i < n → word_at x (a + i) ≡ word_at y (c + i)) → words x a n ≡ words y c n
words_same x y a c n f =
    ext_get_or 0 (words x a n) (words y c n) (length_words x a n ∙ sym (length_words y c n))
    (λ i h. let k : i < n = omega (arith, length_words x a n) in words_at x a n i k ∙ f i k ∙ sym (words_at y c n i k))

-- Laws of a buffer with a part replaced: what stands where afterwards, and pieces put one after another. Assumes nothing.
use Rattle.std.specs.Prelude.{◌≡◌, refl, Bool, true, false, [], ◌∷◌, ◌++◌, ℕ, ◌+◌, ◌-◌, ◌<◌, ◌≤◌, set, ltb}
use Rattle.std.proofs.Math.Path.{sym, subst}
use Rattle.std.proofs.Common.{ap, ◌∙◌, append_assoc, append-nil, add-zero, zero-add, add-one, arith, length-drop, take-append-drop, get_or-append-add}
use Rattle.std.proofs.Common.{get_or-drop, get_or-take, length-take-le, drop_at, ltb-true, ltb-false}
use Rattle.std.proofs.Math.ListN.{length, take, drop, length-append, get_or-append, get_or-eq_default}
use Rattle.std.proofs.Math.Seq.{take_at, drop-drop, drop-append-add, drop-length}
use Rattle.std.proofs.lemmas.List.{set_split}
use borrow.Rule.Slice.PartMut.{put_mid}
use Rattle.vocabulary.specs.Bytes.{Bytes, byte_at, over}

-- a number and the n numbers from `at` on: below them, the t-th of them, or above
pub data Place (at n l : ℕ) : Type 0 where
  below : l < at → Place at n l
  inside : (t : ℕ) → t < n → l ≡ at + t → Place at n l
  above : at + n ≤ l → Place at n l

pub place : (at n l : ℕ) → Place at n l
place at n l = go (ltb l at) (ltb l (at + n)) refl refl
  where
    go : (a b : Bool) → ltb l at ≡ a → ltb l (at + n) ≡ b → Place at n l
    go true b p q = below (ltb-true l at p)
    go false true p q =
        let h : at ≤ l = ltb-false l at p in
        let k : l < at + n = ltb-true l (at + n) q in
        inside (l - at) (omega arith) (omega arith)
    go false false p q = above (ltb-false l (at + n) q)

-- a part of a buffer written by a method of its slice
pub over_mid : (b : Bytes) (at k : ℕ) (xs ys : Bytes) → ys ≡ xs → length xs ≡ k → put_mid at k b ys ≡ over b at xs
unfolding over
over_mid b at k xs ys e l = rw (e, ← l) (ap (λ r. take at b ++ (xs ++ r)) (drop-drop (length xs) at b))

-- a byte past the end
pub byte_past : (b : Bytes) (i : ℕ) → length b ≤ i → byte_at b i ≡ 0
byte_past b i h = get_or-eq_default b 0 h

module _ (b : Bytes) (at : ℕ) (xs : Bytes) (h : at + length xs ≤ length b) where
  front : length (take at b) ≡ at
  front = length-take-le at b (omega arith)

  head : length (take at b ++ xs) ≡ at + length xs
  head = length-append (take at b) xs ∙ ap (λ n. n + length xs) front

  -- the same, split after the piece
  split : over b at xs ≡ (take at b ++ xs) ++ drop (at + length xs) b
  unfolding over
  split = sym (append_assoc (take at b) xs (drop (at + length xs) b))

  pub over_length : length (over b at xs) ≡ length b
  unfolding over
  over_length = simp (length-append, length-drop) (omega (arith, front))

  pub over_take : take at (over b at xs) ≡ take at b
  unfolding over
  over_take = take_at (take at b) (xs ++ drop (at + length xs) b) at front

  pub over_drop : drop (at + length xs) (over b at xs) ≡ drop (at + length xs) b
  over_drop = ap (λ r. drop (at + length xs) r) split ∙ drop_at (take at b ++ xs) (drop (at + length xs) b) (at + length xs) head

  pub over_in : (t : ℕ) → t < length xs → byte_at (over b at xs) (at + t) ≡ byte_at xs t
  unfolding over
  over_in t k =
      subst (λ n. byte_at (over b at xs) (n + t) ≡ byte_at (xs ++ drop (at + length xs) b) t) front (get_or-append-add (take at b) (xs ++ drop (at + length xs) b) t 0)
      ∙ get_or-append xs (drop (at + length xs) b) 0 t k

  pub over_before : (i : ℕ) → i < at → byte_at (over b at xs) i ≡ byte_at b i
  over_before i k = sym (get_or-take at (over b at xs) i 0 k) ∙ ap (λ r. byte_at r i) over_take ∙ get_or-take at b i 0 k

  pub over_after : (i : ℕ) → at + length xs ≤ i → byte_at (over b at xs) i ≡ byte_at b i
  over_after i k =
      let n = at + length xs in
      let q : n + (i - n) ≡ i = omega arith in
      subst (λ x. byte_at (over b at xs) x ≡ byte_at b x) q
      (sym (get_or-drop n (over b at xs) (i - n) 0) ∙ ap (λ r. byte_at r (i - n)) over_drop ∙ get_or-drop n b (i - n) 0)

  -- one more piece
  pub over_more : (ys : Bytes) → over (over b at xs) (at + length xs) ys ≡ over b at (xs ++ ys)
  unfolding over
  over_more ys =
      let n = at + length xs in
      let p = take at b ++ xs in
      let d : drop (n + length ys) (p ++ drop n b) ≡ drop (n + length ys) b =
      rw (← head) (drop-append-add p (drop (length p) b) (length ys) ∙ drop-drop (length ys) (length p) b) in
      let f : n + length ys ≡ at + length (xs ++ ys) = omega (arith, length-append xs ys) in
      rw (split, take_at p (drop n b) n head, d, f) (simp append_assoc)

-- no piece yet
pub over_none : (b : Bytes) (at : ℕ) → over b at [] ≡ b
unfolding over
over_none b at = ap (λ n. take at b ++ drop n b) (add-zero at) ∙ take-append-drop at b

-- one byte
pub over_one : (b : Bytes) (at x : ℕ) → at < length b → over b at (x ∷ []) ≡ set b at x
unfolding over
over_one b at x h = rw add-one (sym (set_split b at x h))

-- a piece and the byte after it
pub over_byte : (b : Bytes) (at : ℕ) (xs : Bytes) (x : ℕ) → at + length xs < length b → set (over b at xs) (at + length xs) x ≡ over b at (xs ++ (x ∷ []))
over_byte b at xs x h =
    let k : at + length xs ≤ length b = omega arith in
    let l : at + length xs < length (over b at xs) = omega (arith, over_length b at xs k) in
    sym (over_one (over b at xs) (at + length xs) x l) ∙ over_more b at xs k (x ∷ [])

-- from the front
pub over_front : (b xs : Bytes) → over b 0 xs ≡ xs ++ drop (length xs) b
unfolding over
over_front b xs = simp zero-add

-- the whole
pub over_whole : (b xs : Bytes) → length xs ≡ length b → over b 0 xs ≡ xs
over_whole b xs e = over_front b xs ∙ simp (e, drop-length, append-nil)

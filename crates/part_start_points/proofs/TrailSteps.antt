-- Loops along a trail: what is left of it tells what the whole does. Assumes nothing.
use mathlib.Core.Path.{◌≡◌, refl, sym, ap, ◌∙◌}
use mathlib.Core.Bool.{Bool, true, false}
use mathlib.Core.List.{List, [], ◌∷◌, map}
use Prim.Native.Nat.{ℕ, zero, suc, ◌+◌, ◌-◌, ◌*◌, ◌≤◌, ◌<◌}
use native.Mathlib.Omega.{arith}
use lib.Dec.{eqb}
use lib.ListN.{length, get_or, length-map}
use borrow.Author.Tests.{eq-eqb, ne_eqb}
use Rattle.vocabulary.specs.Bytes.{Bytes, byte_at}
use Rattle.vocabulary.proofs.ListLaws.{some_of_has, some_of_none, All_intro}
use Rattle.std.specs.Bool.{MatchBool}
use Rattle.std.specs.List.{AllWithin, HoldsAt}
use Rattle.walk_incidence.specs.Links.{trail}
use Rattle.word_lists.specs.Putting.{Put}
use Rattle.word_lists.proofs.PutLaws.{put_as, put_none, put_both, put_length}
use Rattle.part_start_lists.specs.Starting.{local_in}
use Rattle.part_start_points.specs.Points.{some_at, trail_count}

-- ---- whether one of the cells has a byte

pub any_at : (r : Bool) (cells : List ℕ) (row : Bytes) (first k : ℕ)
    → MatchBool r ((l : ℕ) × (l < length cells) × HoldsAt (λ y. byte_at row (y - first) ≡ k) cells l) (AllWithin (λ y. byte_at row (y - first) ≡ k → ⊥) cells 0 (length cells))
    → r ≡ some_at row first k cells
unfolding some_at
any_at true cells row first k w = sym (some_of_has (λ y. eqb (byte_at row (y - first)) k) cells 0 w.0 w.1 (eq-eqb _ k (w.2 0)))
any_at false cells row first k w =
    sym (some_of_none (λ y. eqb (byte_at row (y - first)) k) cells (All_intro _ cells 0 (λ l h. ne_eqb (byte_at row (get_or cells l 0 - first)) k (w l 0 (omega arith) h))))

-- ---- how many cells there are

pub trail_length : (cell prev : List ℕ) (n s : ℕ) → length (trail cell prev n s) ≡ trail_count prev n s
unfolding trail trail_count
trail_length cell prev zero s = refl
trail_length cell prev (suc n) s = go (eqb s 0) (trail_length cell prev n (get_or prev s 0))
  where
    go : (b : Bool) → length (trail cell prev n (get_or prev s 0)) ≡ trail_count prev n (get_or prev s 0)
        → length {A = ℕ} (elim b as (λ _. List ℕ) [ true ↦ [] | false ↦ get_or cell s 0 ∷ trail cell prev n (get_or prev s 0) ])
        ≡ elim b as (λ _. ℕ) [ true ↦ 0 | false ↦ suc (trail_count prev n (get_or prev s 0)) ]
    go true e = refl
    go false e = ap suc e

pub trail_most : (cell prev : List ℕ) (n s : ℕ) → length (trail cell prev n s) ≤ n
unfolding trail
trail_most cell prev zero s = omega arith
trail_most cell prev (suc n) s = go (eqb s 0) (trail_most cell prev n (get_or prev s 0))
  where
    go : (b : Bool) → length (trail cell prev n (get_or prev s 0)) ≤ n
        → length {A = ℕ} (elim b as (λ _. List ℕ) [ true ↦ [] | false ↦ get_or cell s 0 ∷ trail cell prev n (get_or prev s 0) ]) ≤ suc n
    go true e = omega arith
    go false e = omega arith

-- ---- the cells written

-- what is left to be written completes the whole
pub record PutLeft (before now : Bytes) (s u : ℕ) (rest whole : List ℕ) : Type 0 where
  pub size : length now ≡ length before
  pub left : u + length rest ≡ s + length whole
  pub finish : (after : Bytes) (v : ℕ) → Put now after u v rest → Put before after s v whole

pub put_left_over : (a b : Bytes) (s u : ℕ) (rest whole : List ℕ) → PutLeft a b s u rest whole → rest ≡ [] → Put a b s u whole
put_left_over a b s u rest whole L e = L.finish b u (put_as b b u u [] rest (sym e) (put_none b u))

put_left_more : (a b c : Bytes) (s u v x : ℕ) (rest rest' whole : List ℕ) → 2 * (s + length whole) ≤ length a → PutLeft a b s u rest whole → rest ≡ x ∷ rest' → Put b c u v (x ∷ [])
    → PutLeft a c s v rest' whole
put_left_more a b c s u v x rest rest' whole room L e P =
    let r : length rest ≡ suc (length rest') = ap length e in
    let lb : length b ≡ length a = L.size in record {
      size = put_length b c u v (x ∷ []) P (omega (arith, P.count, L.left)) ∙ L.size;
      left = omega (arith, P.count, L.left);
      finish = λ after w Q. L.finish after w (put_as b after u w (x ∷ rest') rest (sym e) (put_both b c after u v w (x ∷ []) rest' P Q (omega (arith, P.count, L.left))));
    }

pub put_left_start : (a : Bytes) (s : ℕ) (whole : List ℕ) → PutLeft a a s s whole whole
put_left_start a s whole = record { size = refl; left = refl; finish = λ after v P. P }

-- local numbers by an array of them: there is room for the next
pub put_left_room : (a b : Bytes) (s u x : ℕ) (rest rest' cells local : List ℕ) → PutLeft a b s u (map (local_in local) rest) (map (local_in local) cells) → rest ≡ x ∷ rest'
    → 2 * (s + length cells) ≤ length a → s + length cells < 65536 → (2 * (u + 1) ≤ length b) × (u < 1000000)
put_left_room a b s u x rest rest' cells local L e room small =
    let l : length (map (local_in local) cells) ≡ length cells = length-map cells (local_in local) in
    let m : length (map (local_in local) rest) ≡ length rest = length-map rest (local_in local) in
    let n : length rest ≡ suc (length rest') = ap length e in
    (omega (arith, L.left, L.size), omega (arith, L.left))

-- the next is written
pub put_left_turn : (a b c : Bytes) (s u v x y : ℕ) (rest rest' cells local : List ℕ) → 2 * (s + length cells) ≤ length a → PutLeft a b s u (map (local_in local) rest) (map (local_in local) cells)
    → rest ≡ x ∷ rest' → y ≡ get_or local x 0 → Put b c u v (y ∷ []) → PutLeft a c s v (map (local_in local) rest') (map (local_in local) cells)
put_left_turn a b c s u v x y rest rest' cells local room L e ye P =
    put_left_more a b c s u v y _ (map (local_in local) rest') _ (omega (arith, length-map cells (local_in local))) L (ap (map (local_in local)) e ∙ ap (λ z. z ∷ map (local_in local) rest') here) P
  where
    here : local_in local x ≡ y
    here = unfold local_in in sym ye

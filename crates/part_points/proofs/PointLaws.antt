-- Points, by the tests and the loops of the code. Assumes nothing.
use mathlib.Core.Path.{◌≡◌, refl, sym, ap, ap₂, ◌∙◌, subst}
use mathlib.Core.Bool.{Bool, true, false, not, ◌||◌, cond}
use mathlib.Core.List.{[], ◌∷◌, ◌++◌, map}
use Prim.Native.Nat.{ℕ, zero, suc, ◌+◌, ◌-◌, ◌*◌, ◌≤◌, ◌<◌}
use native.Mathlib.Nat.{zero-add}
use native.Mathlib.Omega.{arith}
use lib.Dec.{eqb, ltb}
use lib.ListN.{length}
use lib.Seq.{length-take-le}
use borrow.Author.Tests.{eqb-true, eqb-false, eq-eqb, ne_eqb, lt-ltb, le-ltb, ltb-true, ltb-false, not-true, not-false}
use Rattle.vocabulary.specs.Bytes.{Bytes, over}
use Rattle.vocabulary.proofs.ByteLaws.{over_more}
use Rattle.vocabulary.specs.Lists.{some_of}
use Rattle.vocabulary.proofs.ListLaws.{or_nothing, or_assoc}
use Rattle.vocabulary.specs.Intervals.{some, listed, blocks}
use Rattle.vocabulary.proofs.IntervalLaws.{some_cong, some_at, some_of_listed, listed_map, listed_moved, rows_length, blocks_turn}
use Rattle.vocabulary.specs.Tests.{refuse}
use Rattle.vocabulary.proofs.TestLaws.{passed_by}
use Rattle.layout.specs.Words.{word, word_at, word_bytes}
use Rattle.layout.proofs.WordLaws.{length_word_bytes}
use Rattle.layout.proofs.AnswerLaws.{refuses, accepts}
use Rattle.layout.specs.Answers.{Answer}
use Rattle.layout.specs.Answers.{Done, Refused}
use Rattle.depths.specs.Depths.{Valid, value_bytes}
use Rattle.depths.proofs.DepthLaws.{ranged_valid}
use Rattle.depths.specs.declared.Value.{Value}
use Rattle.round_rule.specs.Rules.{plain_mean}
use Rattle.round_update.specs.Update.{placed_at, PlacesThere}
use Rattle.part_state.specs.State.{Lists, lists_in, lists_of, dynamic, held_count, owned_count, reach_count, export_count, point_count, point_at, point_end}
use Rattle.part_state.specs.State.{point_cells, point_cell_at, local_around, points_from, point_ends_word, point_cells_word, depth_place, depths_place}
use Rattle.part_state.proofs.StateLaws.{Whole}
use Rattle.part_state.specs.Checks.{Counts, Fitting, point_start, point_end_start, point_cell_start, depth_base}
use Rattle.part_state.specs.declared.places.Sizes.{Sizes}
use Rattle.part_calls.specs.Calls.{outside, depth_at, all_taken, point_given, points_given, points_tests_in, points_number, points_answer, points_out}
use Rattle.part_calls.proofs.EffectLaws.{given_six}
use Rattle.part_calls.specs.Opened.{Opened, unread_at, points_rest}
use Rattle.part_calls.proofs.OpenedLaws.{whole, long, lists_is, good_state}

word_of : (b : Bytes) (o i : ℕ) → o ≡ 2 * i → word b o ≡ word_at b i
unfolding word_at
word_of b o i e = ap (word b) e

count_is : (lists : Bytes) (z : Sizes) → Counts lists z → (lists_in lists).points ≡ z.points
unfolding lists_in
count_is lists z C = sym C.points_is

-- ---- the pass over the cells at the points

module _ (lists : Bytes) (z : Sizes) (F : Fitting lists z) (at : ℕ) (ae : at ≡ point_cell_start z) (t w : ℕ) (we : w ≡ word lists (2 * (at + t))) where
  read_is : point_cell_at lists t ≡ w
  read_is =
      sym (we ∙ word_of lists (2 * (at + t)) (point_cells_word (held_count lists) (owned_count lists) (reach_count lists) (export_count lists) (point_count lists) + t)
      (omega (arith, ae, F.counts.held_is, F.counts.owned_is, F.counts.reached_is, F.counts.sent_is, F.counts.points_is)))

  pub unread_told : (r : Bool) → r ≡ eqb w 0 → r ≡ unread_at lists t
  unfolding unread_at
  unread_told r e = e ∙ turned (eqb w 0) refl ∙ ap (eqb 0) (sym read_is)
    where
      turned : (b : Bool) → eqb w 0 ≡ b → b ≡ eqb 0 w
      turned true q = sym (eq-eqb 0 w (sym (eqb-true _ _ q)))
      turned false q = sym (ne_eqb 0 w (λ e. eqb-false _ _ q (sym e)))

-- the first k, then j more
some_split : (a : ℕ) (p : ℕ → Bool) (k j : ℕ) → some a (k + j) p ≡ some a k p || some (a + k) j p
unfolding some
some_split a p k zero = let e : k + 0 ≡ k = omega arith in ap (λ x. some a x p) e ∙ sym (or_nothing (some a k p))
some_split a p k (suc j) =
    let e : k + suc j ≡ suc (k + j) = omega arith in
    let f : a + (k + j) ≡ a + k + j = omega arith in
    ap (λ x. some a x p) e ∙ ap₂ ◌||◌ (some_split a p k j) (ap p f) ∙ or_assoc (some a k p) (some (a + k) j p) (p (a + k + j))

-- p of an entry of some row is p of some entry
rows_some : (end : ℕ → ℕ) (p : ℕ → Bool) → end 0 ≡ 0 → (n : ℕ) → ((j : ℕ) → j < n → end j ≤ end (j + 1)) → some 1 n (λ k. some (end (k - 1)) (end k - end (k - 1)) p) ≡ some 0 (end n) p
unfolding some
rows_some end p z zero h = sym (ap (λ x. some 0 x p) z)
rows_some end p z (suc n) h =
    let e : 1 + n - 1 ≡ n = omega arith in
    let s : n + 1 ≡ suc n = omega arith in
    let u : 1 + n ≡ suc n = omega arith in
    let k : end (suc n) ≡ end n + (end (suc n) - end n) = omega (arith, h n (omega arith), ap end s) in
    ap₂ ◌||◌ (rows_some end p z n (λ j l. h j (omega arith))) (ap₂ (λ x y. some (end x) (end y - end x) p) e u)
    ∙ ap (λ x. some 0 (end n) p || some x (end (suc n) - end n) p) (sym (zero-add (end n)))
    ∙ sym (ap (λ x. some 0 x p) k ∙ some_split 0 p (end n) (end (suc n) - end n))

module _ (lists : Bytes) (changes : ℕ) (b : Bytes) (o : Opened lists changes b) where
  w : Whole lists changes b
  w = whole lists changes b o

  lists_length : length lists ≡ changes
  lists_length = ap length o.lists_are ∙ length-take-le changes b (omega (arith, long lists changes b o))

  outside_is : outside (lists_in lists) ≡ some 0 (point_cells lists) (unread_at lists)
  unfolding outside lists_in local_around unread_at
  outside_is =
      some_cong 1 (λ k. some_of (local_around lists k) (eqb 0)) (λ k. some (point_end lists (k - 1)) (point_end lists k - point_end lists (k - 1)) (unread_at lists)) (point_count lists)
      (λ i h. some_of_listed (eqb 0) (point_cell_at lists) (point_end lists (1 + i - 1)) (point_end lists (1 + i) - point_end lists (1 + i - 1)))
      ∙ rows_some (point_end lists) (unread_at lists) w.point_first (point_count lists)
      (λ j h. let g : point_end lists j < point_end lists (j + 1) = w.point_ends j (j + 1) (omega arith) (omega arith) in omega arith)

  pub fitting : (z : Sizes) → Counts lists z → Fitting lists z
  fitting z C = record {
    counts = C;
    room = omega (arith, lists_length, w.lists_fit, C.held_is, C.owned_is, C.reached_is, C.sent_is, C.points_is, C.around_is);
  }

  -- ---- the tests after 20

  module _ (u : Bool) (ue : u ≡ all_taken (lists_in lists) changes b) (room : ℕ) where
    pub rest_24 : not u ≡ true → 24 ≡ points_rest (lists_in lists) changes b room
    unfolding points_rest
    rest_24 t = simp (sym ue, not-true u t)

    module _ (ut : not u ≡ false) (r : Bool) (re : r ≡ some 0 (point_cells lists) (unread_at lists)) where
      out_is : outside (lists_in lists) ≡ r
      out_is = outside_is ∙ sym re

      pub rest_29 : r ≡ true → 29 ≡ points_rest (lists_in lists) changes b room
      unfolding points_rest
      rest_29 t = simp (sym ue, not-false u ut, out_is, t)

      module _ (rt : r ≡ false) (z : Sizes) (C : Counts lists z) where
        rest_last : (x : Bool) → ltb room (6 * z.points) ≡ x → cond x 16 0 ≡ points_rest (lists_in lists) changes b room
        unfolding points_rest
        rest_last x e = simp (sym ue, not-false u ut, out_is, rt, count_is lists z C, e)

        pub rest_16 : room < 6 * z.points → 16 ≡ points_rest (lists_in lists) changes b room
        rest_16 h = rest_last true (lt-ltb _ _ h)

        pub rest_none : 6 * z.points ≤ room → 0 ≡ points_rest (lists_in lists) changes b room
        rest_none h = rest_last false (le-ltb _ _ h)

  -- ---- the value at a point

  deep : (x : ℕ) → 1 ≤ x → x ≤ held_count lists → Valid b (depth_place changes x)
  deep x h k =
      let p : depths_place changes + 4 * (x - 1) ≡ depth_place changes x = omega arith in
      subst (λ y. Valid b y) p (ranged_valid b (depths_place changes) (held_count lists) (x - 1) w.ranged (omega arith))

  module _ (z : Sizes) (C : Counts lists z) (k : ℕ) (h : 1 ≤ k) (q : k ≤ z.points) (ends : ℕ) (ee : ends ≡ point_end_start z) where
    -- the lists are short, so the place of an end is small
    pub end_small : ends + (k - 1) < 1000000
    end_small = omega (arith, ee, o.place_small, w.lists_fit, C.held_is, C.owned_is, C.reached_is, C.sent_is, C.points_is)

    module _ (cells from n : ℕ) (ce : cells ≡ point_cell_start z) (fe : from ≡ word_at lists (ends + (k - 1)))
        (ne : n ≡ word_at lists (ends + (k - 1) + 1) - word_at lists (ends + (k - 1))) where
      from_is : point_end lists (k - 1) ≡ from
      from_is =
          let p : point_ends_word (held_count lists) (owned_count lists) (reach_count lists) (export_count lists) (point_count lists) + (k - 1) ≡ ends + (k - 1) =
          omega (arith, ee, C.held_is, C.owned_is, C.reached_is, C.sent_is, C.points_is) in
          ap (word_at lists) p ∙ sym fe

      size_is : point_end lists k - point_end lists (k - 1) ≡ n
      size_is =
          let p : point_ends_word (held_count lists) (owned_count lists) (reach_count lists) (export_count lists) (point_count lists) + k ≡ ends + (k - 1) + 1 =
          omega (arith, ee, C.held_is, C.owned_is, C.reached_is, C.sent_is, C.points_is) in
          ap₂ ◌-◌ (ap (word_at lists) p) (from_is ∙ fe) ∙ sym ne

      climb : point_end lists (k - 1) < point_end lists k
      climb = w.point_ends (k - 1) k (omega arith) (omega (arith, C.points_is))

      last_end : point_end lists k ≤ point_cells lists
      last_end = go (ltb k (point_count lists)) refl
        where
          go : (t : Bool) → ltb k (point_count lists) ≡ t → point_end lists k ≤ point_cells lists
          go true e = let g : point_end lists k < point_cells lists = w.point_ends k (point_count lists) (ltb-true _ _ e) (omega arith) in omega arith
          go false e = let g : k ≡ point_count lists = omega (arith, ltb-false k (point_count lists) e, C.points_is) in subst (λ x. point_end lists x ≤ point_cells lists) (sym g) (omega arith)

      row_fits : from + n ≤ point_cells lists
      row_fits = omega (arith, from_is, size_is, climb, last_end)

      module _ (t : ℕ) (l : t < n) where
        cell_is : word lists (2 * (cells + from) + 2 * t) ≡ point_cell_at lists (from + t)
        cell_is =
            word_of lists _ (point_cells_word (held_count lists) (owned_count lists) (reach_count lists) (export_count lists) (point_count lists) + (from + t))
            (omega (arith, ce, C.held_is, C.owned_is, C.reached_is, C.sent_is, C.points_is))

        cell_low : outside (lists_in lists) ≡ false → 1 ≤ point_cell_at lists (from + t)
        unfolding unread_at
        cell_low e =
            let f : eqb 0 (point_cell_at lists (0 + (from + t))) ≡ false = some_at 0 (unread_at lists) (point_cells lists) (from + t) (sym outside_is ∙ e) (omega (arith, row_fits)) in
            let g : 0 ≡ point_cell_at lists (from + t) → ⊥ = λ i. eqb-false _ _ f (i ∙ ap (point_cell_at lists) (sym (zero-add (from + t)))) in
            omega arith

        cell_high : point_cell_at lists (from + t) ≤ held_count lists
        cell_high = w.point_cells_is (from + t) (omega (arith, row_fits))

      pub point_ready : outside (lists_in lists) ≡ false → PlacesThere 2 lists (2 * (cells + from)) n b (depth_base changes)
      point_ready e = record {
        few = omega (arith, row_fits, o.place_small, w.lists_fit);
        listed_there = omega (arith, row_fits, lists_length, w.lists_fit, ce, C.held_is, C.owned_is, C.reached_is, C.sent_is, C.points_is);
        there = λ t l. omega (arith, cell_is t l, cell_high t l, long lists changes b o);
        ranged = λ t l. deep (word lists (2 * (cells + from) + 2 * t)) (omega (arith, cell_is t l, cell_low t l e)) (omega (arith, cell_is t l, cell_high t l));
      }

      -- the values of the cells at the point, as the mean finds them
      near : listed 0 n (placed_at lists (2 * (cells + from)) b (depth_base changes)) ≡ map (depth_at changes b) (local_around lists k)
      unfolding placed_at local_around
      near =
          listed_moved 0 from (placed_at lists (2 * (cells + from)) b (depth_base changes)) (λ t. depth_at changes b (point_cell_at lists t)) n
          (λ t l. ap (λ x. placed_at lists (2 * (cells + from)) b (depth_base changes) x) (zero-add t) ∙ ap (depth_at changes b) (cell_is t l))
          ∙ ap₂ (λ x m. listed x m (λ t. depth_at changes b (point_cell_at lists t))) (sym from_is) (sym size_is)
          ∙ sym (listed_map (depth_at changes b) (point_end lists (k - 1)) (point_cell_at lists) (point_end lists k - point_end lists (k - 1)))

      pub point_told : (r : Value) → value_bytes r ≡ plain_mean (listed 0 n (placed_at lists (2 * (cells + from)) b (depth_base changes)))
          → value_bytes r ≡ plain_mean (map (depth_at changes b) (local_around lists k))
      point_told r e = e ∙ ap (λ xs. plain_mean xs) near

-- ---- what is stored

given_is : (lists : Bytes) (changes : ℕ) (b : Bytes) (k : ℕ)
    → word_bytes (point_at lists k) ++ plain_mean (map (depth_at changes b) (local_around lists k)) ≡ point_given (lists_in lists) changes b k
unfolding point_given lists_in
given_is lists changes b k = refl

module _ (lists : Bytes) (changes : ℕ) (b : Bytes) (z : Sizes) (C : Counts lists z) (k : ℕ) where
  pub point_put : (start number : ℕ) → start ≡ point_start z → number ≡ word_at lists (start + k) → (r : Value)
      → value_bytes r ≡ plain_mean (map (depth_at changes b) (local_around lists k)) → (out x y : Bytes) (at : ℕ) → at + 2 ≤ length out
      → x ≡ over out at (word_bytes number) → y ≡ over x (at + 2) (value_bytes r) → y ≡ over out at (point_given (lists_in lists) changes b k)
  point_put start number se ne r e out x y at room xe ye =
      let l : length (word_bytes number) ≡ 2 = length_word_bytes number in
      let i : at + 2 ≡ at + length (word_bytes number) = omega arith in
      let s : start + k ≡ points_from lists + k = omega (arith, se, C.held_is, C.owned_is, C.reached_is, C.sent_is) in
      ye
      ∙ ap₂ (λ (u : Bytes) j. over u j (value_bytes r)) xe i
      ∙ over_more out at (word_bytes number) (omega arith) (value_bytes r)
      ∙ ap₂ (λ p (d : Bytes). over out at (word_bytes p ++ d)) (ne ∙ ap (word_at lists) s) e
      ∙ ap (over out at) (given_is lists changes b k)

-- one more point behind those before it
pub points_turn : (lists : Bytes) (changes : ℕ) (b out : Bytes) (points : ℕ) → 6 * points ≤ length out → (k : ℕ) → 1 ≤ k → k < points + 1 → (x y : Bytes)
    → x ≡ over out 0 (blocks 1 (k - 1) (point_given (lists_in lists) changes b)) → y ≡ over x (6 * (k - 1)) (point_given (lists_in lists) changes b k)
    → y ≡ over out 0 (blocks 1 (k + 1 - 1) (point_given (lists_in lists) changes b))
points_turn lists changes b out points room k h q x y xe ye =
    let g : ℕ → Bytes = point_given (lists_in lists) changes b in
    let l : length (blocks 1 (k - 1) g) ≡ 6 * (k - 1) = rows_length 1 g 6 (k - 1) (λ j c. given_six (lists_in lists) changes b (1 + j)) in
    let i : 6 * (k - 1) ≡ 0 + length (blocks 1 (k - 1) g) = omega arith in
    let j : k ≡ 1 + (k - 1) = omega arith in
    let m : k - 1 + 1 ≡ k + 1 - 1 = omega arith in
    ye
    ∙ ap₂ (λ (u : Bytes) p. over u p (g k)) xe i
    ∙ over_more out 0 (blocks 1 (k - 1) g) (omega arith) (g k)
    ∙ ap (λ p. over out 0 (blocks 1 (k - 1) g ++ g p)) j
    ∙ ap (over out 0) (sym (blocks_turn 1 g (k - 1)) ∙ ap (λ n. blocks 1 n g) m)

pub points_end : (lists : Bytes) (changes : ℕ) (b out x : Bytes) (z : Sizes) → Counts lists z → (k : ℕ) → k ≤ z.points + 1 → z.points + 1 ≤ k
    → x ≡ over out 0 (blocks 1 (k - 1) (point_given (lists_in lists) changes b)) → x ≡ over out 0 (points_given (lists_in lists) changes b)
unfolding lists_in
points_end lists changes b out x z C k g h e =
    let n : k - 1 ≡ point_count lists = omega (arith, C.points_is) in e ∙ ap (λ m. over out 0 (blocks 1 m (point_given (lists_in lists) changes b))) n

-- ---- the answer

-- no test after 20 holds: every cell at a point is to be read, and there is room for the points
module _ (lists b : Bytes) (changes room n : ℕ) (ne : n ≡ points_rest (lists_in lists) changes b room) (nz : n ≡ 0) where
  pub all_read : outside (lists_in lists) ≡ false
  unfolding points_rest
  all_read =
      passed_by 29 (refuse 24 (not (all_taken (lists_in lists) changes b)) ∷ refuse 29 (outside (lists_in lists)) ∷ refuse 16 (ltb room (6 * (lists_in lists).points)) ∷ []) tt (sym ne ∙ nz)

  room_there : ltb room (6 * (lists_in lists).points) ≡ false
  unfolding points_rest
  room_there =
      passed_by 16 (refuse 24 (not (all_taken (lists_in lists) changes b)) ∷ refuse 29 (outside (lists_in lists)) ∷ refuse 16 (ltb room (6 * (lists_in lists).points)) ∷ []) tt (sym ne ∙ nz)

  pub points_room : (z : Sizes) → Counts lists z → 6 * z.points ≤ room
  points_room z C = omega (arith, ltb-false room (6 * (lists_in lists).points) room_there, count_is lists z C)

module _ (b out : Bytes) where
  abbrev Answered : Answer → Bytes → Type 0
  Answered r x = (r ≡ points_answer b out) × (x ≡ points_out b out)

  abbrev given : Bytes
  given = over out 0 (points_given (lists_of b) (dynamic b) b)

  refused : (n : ℕ) → points_number b out ≡ n → (n ≡ 0 → ⊥) → Answered (Refused n) out
  unfolding points_answer points_out
  refused = refuses (points_number b out) (lists_of b).points given out

  done : points_number b out ≡ 0 → Answered (Done (lists_of b).points) given
  unfolding points_answer points_out
  done = accepts (points_number b out) (lists_of b).points given out

-- by what the opened state has of the bytes
module _ (b out lists : Bytes) {changes : ℕ} {was : Bytes} (opened : Opened lists changes was) (at : was ≡ b) (n : ℕ) (ne : n ≡ points_rest (lists_in lists) changes was (length out)) where
  o : Opened lists changes b
  o = subst (λ x. Opened lists changes x) at opened

  number_here : points_number b out ≡ points_rest (lists_of b) (dynamic b) b (length out)
  unfolding points_number points_tests_in points_rest
  number_here = simp (good_state lists changes b o)

  number_is : points_number b out ≡ n
  number_is =
      number_here
      ∙ ap₂ (λ (L : Lists) p. points_rest L p b (length out)) (lists_is lists changes b o) (sym o.place_is)
      ∙ sym (ne ∙ ap (λ x. points_rest (lists_in lists) changes x (length out)) at)

  pub told_refused : (n ≡ 0 → ⊥) → (Refused n ≡ points_answer b out) × (out ≡ points_out b out)
  told_refused = refused b out n number_is

  pub told_done : n ≡ 0 → (z : Sizes) → Counts lists z → (y : Bytes) → y ≡ over out 0 (points_given (lists_in lists) changes was)
      → (Done z.points ≡ points_answer b out) × (y ≡ points_out b out)
  told_done nz z C y e =
      let a = done b out (number_is ∙ nz) in (
        ap Done (sym (ap (λ (L : Lists). L.points) (lists_is lists changes b o) ∙ count_is lists z C)) ∙ a.0,
        e
            ∙ ap (λ x. over out 0 (points_given (lists_in lists) changes x)) at
            ∙ ap₂ (λ (L : Lists) p. over out 0 (points_given L p b)) (sym (lists_is lists changes b o)) o.place_is
            ∙ a.1,
      )

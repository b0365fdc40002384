-- What the trails tell of a part's points is what the definitions say. Assumes nothing.
use mathlib.Core.Path.{◌≡◌, refl, sym, ap, ap₂, ◌∙◌}
use mathlib.Core.Bool.{Bool, true, false, ◌||◌, cond}
use mathlib.Core.List.{List, [], ◌∷◌, ◌++◌, map, reverse, reverse-cons}
use Prim.Native.Nat.{ℕ, ◌+◌, ◌-◌, ◌*◌, ◌≤◌}
use native.Mathlib.Omega.{arith}
use lib.Dec.{eqb}
use lib.ListN.{length, get_or, replicate, length-reverse}
use lib.Seq.{take-length}
use Rattle.vocabulary.specs.Bytes.{Bytes, byte_at}
use Rattle.vocabulary.specs.Lists.{some_of}
use Rattle.vocabulary.proofs.ListLaws.{All_get_or, or_swap, or_nothing, some_of_append}
use Rattle.vocabulary.specs.Intervals.{picked}
use Rattle.vocabulary.proofs.IntervalLaws.{picked_all, picked_cong, total_cong, listed_cong, blocks_cong}
use Rattle.layout.specs.Limits.{record_places, most_elements}
use Rattle.mesh.specs.Mesh.{counted, first_cell}
use Rattle.mesh.specs.Walks.{cells_at}
use Rattle.mesh.specs.Accepted.{Accepted}
use Rattle.walk_incidence.specs.declared.inner.Incidence.{Incidence}
use Rattle.walk_incidence.specs.Links.{Inverted}
use Rattle.walk_incidence.proofs.TurnedLaws.{point_small, point_trail}
use Rattle.split.specs.Split.{Split, split_of, owns, touches, points_of, points_in, around_of, point_ends}
use Rattle.word_lists.specs.Putting.{Put}
use Rattle.word_lists.proofs.PutLaws.{put_as}
use Rattle.part_start_lists.specs.Starting.{local_in}
use Rattle.part_start_points.specs.Points.{some_at, cells_on, points_on, size_at, size_ends, around_on, point_words, word_count, cell_words, part_words}
use Rattle.part_start_points.proofs.TrailSteps.{trail_length}

-- a list and its reverse have the same elements
pub some_of_reverse : {A : Type 0} (p : A → Bool) (xs : List A) → some_of (reverse xs) p ≡ some_of xs p
unfolding some_of
some_of_reverse p [] = refl
some_of_reverse p (x ∷ xs) =
    ap (λ ys. some_of ys p) (reverse-cons x xs)
    ∙ some_of_append p (reverse xs) (x ∷ [])
    ∙ ap₂ ◌||◌ (some_of_reverse p xs) (or_nothing (p x))
    ∙ or_swap (some_of xs p) (p x)

no_locals : (xs : List ℕ) → map (local_in []) xs ≡ replicate (length xs) 0
unfolding local_in
no_locals [] = refl
no_locals (x ∷ xs) = ap (λ ys. 0 ∷ ys) (no_locals xs)

module _ (m : Bytes) (parts : ℕ) (owners st : Bytes) (inc : Incidence) (G : Inverted m inc) where
  abbrev S : Split
  S = split_of m parts owners st

  pub cells_are : (p : ℕ) → 1 ≤ p → p ≤ counted m 0 → cells_on inc p ≡ reverse (S.around p)
  unfolding cells_on split_of
  cells_are p low high = point_trail m inc G p low high

  module _ (i : ℕ) where
    touches_are : (p : ℕ) → 1 ≤ p → p ≤ counted m 0 → some_at owners (first_cell m) i (cells_on inc p) ≡ touches S p i
    unfolding some_at touches owns split_of
    touches_are p low high =
        ap (λ xs. some_of xs (λ y. eqb (byte_at owners (y - first_cell m)) i)) (cells_are p low high) ∙ some_of_reverse (λ y. eqb (byte_at owners (y - first_cell m)) i) (cells_at m p)

    points_are : (first points : ℕ) → first ≡ first_cell m → points ≡ counted m 0 → points_on inc owners first i points ≡ points_of S i
    unfolding points_on points_of split_of
    points_are first points fe pe =
        ap₂ (λ f n. picked 1 n (λ p. some_at owners f i (cells_on inc p))) fe pe
        ∙ picked_cong 1 (λ p. some_at owners (first_cell m) i (cells_on inc p)) (λ p. touches S p i) (counted m 0) (λ k h. touches_are (1 + k) (omega arith) (omega arith))

    module _ (k : ℕ) (low : 1 ≤ k) (high : k ≤ points_in S i) where
      point : (1 ≤ get_or (points_of S i) (k - 1) 0) × (get_or (points_of S i) (k - 1) 0 ≤ counted m 0)
      unfolding points_of split_of
      point =
          All_get_or (λ p. (1 ≤ p) × (p ≤ counted m 0)) (picked 1 (counted m 0) (λ p. touches S p i)) (k - 1) 0
          (picked_all 1 (λ p. touches S p i) (λ p. (1 ≤ p) × (p ≤ counted m 0)) (counted m 0) (λ j h e. (omega arith, omega arith))) (omega arith)

      here : cells_on inc (get_or (points_of S i) (k - 1) 0) ≡ reverse (around_of S i k)
      here = cells_are (get_or (points_of S i) (k - 1) 0) point.0 point.1

      size_is : size_at inc (points_of S i) k ≡ length (around_of S i k)
      unfolding size_at cells_on
      size_is = sym (trail_length inc.cell inc.prev record_places (get_or inc.last (get_or (points_of S i) (k - 1) 0) 0)) ∙ ap length here ∙ length-reverse (around_of S i k)

    ends_are : (k : ℕ) → k ≤ points_in S i → size_ends inc (points_of S i) k ≡ point_ends S i k
    unfolding size_ends point_ends
    ends_are k h = total_cong 1 (size_at inc (points_of S i)) (λ j. length (around_of S i j)) k (λ j l. size_is (1 + j) (omega arith) (omega arith))

    around_is : (local : List ℕ) (outside : Bool) (k : ℕ) → 1 ≤ k → k ≤ points_in S i → around_on inc (cond outside [] local) (points_of S i) k ≡ cell_words S i local outside k
    unfolding around_on cell_words
    around_is local true k low high = ap (λ xs. map (local_in []) xs) (here k low high) ∙ no_locals (reverse (around_of S i k)) ∙ ap (λ n. replicate n 0) (length-reverse (around_of S i k))
    around_is local false k low high = ap (λ xs. map (local_in local) xs) (here k low high)

    words_are : (local : List ℕ) (outside : Bool) → point_words inc (cond outside [] local) (points_of S i) (points_in S i) ≡ part_words S i local outside
    unfolding point_words part_words
    words_are local outside =
        ap₂ (λ (xs : List ℕ) (ys : List ℕ). (points_in S i ∷ xs) ++ ys) (take-length (points_of S i))
        (ap₂ (λ (xs : List ℕ) (ys : List ℕ). xs ++ ys)
        (listed_cong 0 (size_ends inc (points_of S i)) (point_ends S i) (points_in S i + 1) (λ k h. ends_are (0 + k) (omega arith)))
        (blocks_cong 1 (around_on inc (cond outside [] local) (points_of S i)) (cell_words S i local outside) (points_in S i)
        (λ k h. around_is local outside (1 + k) (omega arith) (omega arith))))

    -- ---- for a caller that seeks the points of part i

    module _ (first all : ℕ) (fe : first ≡ first_cell m) (ae : all ≡ counted m 0) where
      pub points_counted : (n : ℕ) → n ≡ length (points_on inc owners first i all) → n ≡ points_in S i
      points_counted n e = e ∙ ap length (points_are first all fe ae)

      pub cells_counted : (n : ℕ) → n ≡ size_ends inc (points_on inc owners first i all) (length (points_on inc owners first i all)) → n ≡ point_ends S i (points_in S i)
      cells_counted n e = e ∙ ap (λ xs. size_ends inc xs (length xs)) (points_are first all fe ae) ∙ ends_are (points_in S i) (omega arith)

      pub words_counted : word_count inc (points_on inc owners first i all) (length (points_on inc owners first i all))
          ≡ 2 * points_in S i + 2 + point_ends S i (points_in S i)
      unfolding word_count
      words_counted = ap (λ xs. 2 * length xs + 2 + size_ends inc xs (length xs)) (points_are first all fe ae) ∙ ap (λ e. 2 * points_in S i + 2 + e) (ends_are (points_in S i) (omega arith))

      pub words_told : (local : List ℕ) (outside : Bool) (a b : Bytes) (s t : ℕ)
          → Put a b s t (point_words inc (cond outside [] local) (points_on inc owners first i all) (length (points_on inc owners first i all)))
          → Put a b s t (part_words S i local outside)
      words_told local outside a b s t P =
          put_as a b s t _ _ (ap (λ xs. point_words inc (cond outside [] local) xs (length xs)) (points_are first all fe ae) ∙ words_are local outside) P

-- a mesh has no more points than it may have elements
pub points_low : (m : Bytes) → Accepted m → (all : ℕ) → all ≡ counted m 0 → all ≤ most_elements
points_low m A all e = point_small m A all (omega arith)

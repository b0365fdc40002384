-- Laws of fields and of the undivided round: an accepted field, a table of a reach by places in the field, and that every round leaves an
-- accepted field again, its means rounded to the shoal side. Assumes nothing.
use Rattle.std.specs.Prelude.{◌≡◌, refl, Bool, true, false, not, eqb, ltb, length}
use Rattle.std.proofs.Common.{sym, ◌∙◌, zero-add}
use mathlib.Core.List.{List, [], ◌∷◌, map}
use Prim.Native.Nat.{ℕ, zero, suc, ◌+◌, ◌-◌, ◌*◌, ◌≤◌, ◌<◌}
use native.Mathlib.Omega.{arith}
use borrow.Author.Tests.{not-false, eqb-true, eq-eqb, ltb-true, ltb-false}
use Rattle.vocabulary.specs.Bytes.{Bytes}
use Rattle.vocabulary.proofs.ByteLaws.{byte_past}
use Rattle.vocabulary.specs.Lists.{All}
use Rattle.vocabulary.proofs.ListLaws.{or_false}
use Rattle.vocabulary.specs.Intervals.{every, blocks}
use Rattle.vocabulary.proofs.IntervalLaws.{every_intro}
use Rattle.layout.specs.Words.{word}
use Rattle.depths.specs.Depths.{deepest, Within, Valid, four, number_from, signed, depth_from, value_from, value_of, ranged_at}
use Rattle.depths.proofs.DepthLaws.{length_four, four_same, value_same, value_four, fours_length, fours_at, within_valid, ranged_valid}
use Rattle.mesh.specs.Walks.{Near}
use Rattle.round_rule.specs.Rules.{Old, read_by, depth_sum, weight_sum, ones, plain_old, new_depth, Floored}
use Rattle.round_rule.proofs.RuleLaws.{SmallOld, mean_floor, point_floor, new_within, new_length}
use Rattle.round.specs.Rounds.{bad14, Scheme, scheme_of, depth_in, olds_in, new_in, round, undivided, point_in}
use Rattle.round_update.specs.Update.{olds_at}

-- ---- an accepted field of n cells

none_valid : Valid [] 0
unfolding Within value_from depth_from signed number_from word
none_valid = omega arith

module _ (n : ℕ) (f : Bytes) where
  pub field_good : length f ≡ 4 * n → every 0 n (ranged_at f 0) ≡ true → bad14 n f ≡ false
  unfolding bad14
  field_good l e = simp (eq-eqb _ _ l, e)

  module _ (e : bad14 n f ≡ false) where
    pub field_length : length f ≡ 4 * n
    unfolding bad14
    field_length = eqb-true _ _ (not-false (eqb (length f) (4 * n)) (or_false (not (eqb (length f) (4 * n))) (not (every 0 n (ranged_at f 0))) e).0)

    pub field_ranged : every 0 n (ranged_at f 0) ≡ true
    unfolding bad14
    field_ranged = not-false (every 0 n (ranged_at f 0)) (or_false (not (eqb (length f) (4 * n))) (not (every 0 n (ranged_at f 0))) e).1

    -- past the end every byte counts 0, so every value is valid
    pub field_depth : (j : ℕ) → Valid f (4 * j)
    field_depth j = go (ltb j n) refl
      where
        go : (b : Bool) → ltb j n ≡ b → Valid f (4 * j)
        go true h = rw zero-add at (ranged_valid f 0 n j field_ranged (ltb-true j n h))
        go false h =
            let k : n ≤ j = ltb-false j n h in
            let l : length f ≡ 4 * n = field_length in
            let z : value_from f (4 * j) ≡ value_from [] 0 =
            value_same f [] (4 * j) 0 (four_same f [] (4 * j) 0 (λ i q. byte_past f (4 * j + i) (omega arith) ∙ sym (byte_past [] (0 + i) (omega arith)))) in
            rw z none_valid

-- ---- the reach of a cell by places in the field: place 0 is the first cell's

abbrev pub placed : ℕ → Near → Near
placed first e = record { cell = e.cell - first; layer = e.layer }

pub olds_placed : (S : Scheme) (f : Bytes) (ns : List Near) → olds_at f 0 (map (placed S.first) ns) ≡ olds_in S f ns
unfolding olds_at olds_in depth_in
olds_placed S f [] = refl
olds_placed S f (e ∷ ns) =
    λ i. record { layer = e.layer; depth = four f (zero-add (4 * (e.cell - S.first)) i) } ∷ olds_placed S f ns i

-- ---- a round leaves an accepted field

module _ (m st : Bytes) (kind : ℕ) (v f : Bytes) where
  new_four : (c : ℕ) → length (new_in (scheme_of m st kind v) f c) ≡ 4
  unfolding new_in scheme_of depth_in
  new_four c = new_length kind v _ _ (length_four f _)

  -- the depth of each cell after a round: its new depth by the field before the round
  round_at : (j : ℕ) → j < (scheme_of m st kind v).cells
      → four (round (scheme_of m st kind v) f) (4 * j) ≡ new_in (scheme_of m st kind v) f ((scheme_of m st kind v).first + j)
  unfolding round
  round_at j h =
      let S : Scheme = scheme_of m st kind v in
      fours_at S.first S.cells (new_in S f) (λ i _. new_four (S.first + i)) j h

  olds_within : (e : bad14 (scheme_of m st kind v).cells f ≡ false) (ns : List Near) → All (SmallOld deepest) (olds_in (scheme_of m st kind v) f ns)
  unfolding olds_in depth_in
  olds_within e [] = tt
  olds_within e (x ∷ ns) = (rw value_four (field_depth _ f e _), olds_within e ns)

  new_valid : bad14 (scheme_of m st kind v).cells f ≡ false → (c : ℕ) → Within deepest (value_of (new_in (scheme_of m st kind v) f c))
  unfolding new_in scheme_of depth_in
  new_valid e c = new_within v deepest kind _ _ (omega arith) (rw value_four (field_depth _ f e _)) (olds_within e _)

  pub round_good : bad14 (scheme_of m st kind v).cells f ≡ false → bad14 (scheme_of m st kind v).cells (round (scheme_of m st kind v) f) ≡ false
  unfolding round ranged_at
  round_good e =
      let S : Scheme = scheme_of m st kind v in
      let n : ℕ = S.cells in
      let g : Bytes = blocks S.first n (new_in S f) in
      field_good n g
      (fours_length S.first n (new_in S f) (λ j h. new_four (S.first + j)))
      (every_intro 0 (ranged_at g 0) n
      (λ i h.
      let q : 0 + 4 * (0 + i) ≡ 4 * i = omega arith in
      within_valid _
      (rw (q, ← value_four, round_at i h) (new_valid e (S.first + i)))))

pub undivided_good : (m st : Bytes) (kind : ℕ) (v f : Bytes) (k : ℕ) → bad14 (scheme_of m st kind v).cells f ≡ false
    → bad14 (scheme_of m st kind v).cells (undivided (scheme_of m st kind v) f k) ≡ false
unfolding undivided
undivided_good m st kind v f zero e = e
undivided_good m st kind v f (suc k) e = round_good m st kind v (undivided (scheme_of m st kind v) f k) (undivided_good m st kind v f k e)

-- ---- "Every mean, at cells and points, takes the greatest whole number not above the quotient" (F-4): so it is of every accepted field

module _ (m st v f : Bytes) (e : bad14 (scheme_of m st 1 v).cells f ≡ false) where
  -- what the mean of cell c reads
  abbrev read_at : ℕ → List Old
  read_at c = read_by v 1 (olds_in (scheme_of m st 1 v) f ((scheme_of m st 1 v).reach c))

  pub cells_floored : (c : ℕ) → Floored (depth_sum v (read_at c)) (weight_sum v (read_at c)) (value_of (new_in (scheme_of m st 1 v) f c))
  unfolding new_in scheme_of new_depth
  cells_floored c = mean_floor v deepest _ (omega arith) (olds_within m st 1 v f e _)

module _ (m st : Bytes) (kind : ℕ) (v f : Bytes) (e : bad14 (scheme_of m st kind v).cells f ≡ false) where
  -- what the mean at point p reads, whatever the rule
  abbrev read_around : ℕ → List Old
  read_around p = read_by ones 1 (map plain_old (map (depth_in (scheme_of m st kind v) f) ((scheme_of m st kind v).around p)))

  values_within : (cs : List ℕ) → All (λ x. Within deepest (value_of x)) (map (depth_in (scheme_of m st kind v) f) cs)
  unfolding depth_in
  values_within [] = tt
  values_within (c ∷ cs) = (rw value_four (field_depth _ f e _), values_within cs)

  pub points_floored : (p : ℕ) → Floored (depth_sum ones (read_around p)) (weight_sum ones (read_around p)) (value_of (point_in (scheme_of m st kind v) f p))
  unfolding point_in
  points_floored p =
      let cs : List ℕ = (scheme_of m st kind v).around p in point_floor (map (depth_in (scheme_of m st kind v) f) cs) deepest (omega arith) (values_within cs)

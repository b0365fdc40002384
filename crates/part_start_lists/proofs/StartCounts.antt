-- The rows, their ends, and listed cells, in local numbers. Assumes nothing.
use mathlib.Core.Path.{◌≡◌, refl, sym, ap, ap₂, ◌∙◌}
use mathlib.Core.List.{List, [], ◌∷◌, ◌++◌, map}
use Prim.Native.Nat.{ℕ, zero, suc, ◌+◌, ◌-◌, ◌*◌, ◌≤◌, ◌<◌}
use native.Mathlib.Numerals.{add-one}
use native.Mathlib.Omega.{arith}
use lib.ListN.{length, get_or, take, length-map}
use lib.Seq.{take-suc, length-take-le}
use Rattle.vocabulary.proofs.ListLaws.{map_append}
use Rattle.vocabulary.specs.Bytes.{Bytes}
use Rattle.vocabulary.specs.Intervals.{blocks}
use Rattle.vocabulary.proofs.IntervalLaws.{total_start, total_turn, total_grows, blocks_turn, blocks_sized, rows_length, at_last}
use Rattle.vocabulary.proofs.CountLaws.{total_double}
use Rattle.layout.specs.Words.{word_at}
use Rattle.layout.specs.Limits.{most_parts}
use Rattle.split.specs.Split.{global_of}
use Rattle.split_classes.specs.Classes.{part_cells}
use Rattle.word_lists.proofs.PutLaws.{put_as, put_none, put_both}
use Rattle.word_lists.specs.Putting.{Put}
use Rattle.part_start_lists.specs.Starting.{local_in, place_at, row_size, entry_words, row_ends, row_words, ReachRow, ReachRows, sent_ends, sent_list, sent_words}

module _ (table : Bytes) (ends : List ℕ) (first : ℕ) (order : List ℕ) (l q from to : ℕ) (qe : q ≡ get_or order (l - 1) 0 - first) (fe : from ≡ get_or ends q 0) (te : to ≡ get_or ends (q + 1) 0) where
  size_is : row_size table ends first order l ≡ to - from
  unfolding row_size place_at
  size_is = ap₂ (λ x y. x - y) (ap (λ x. get_or ends (x + 1) 0) (sym qe) ∙ sym te) (ap (λ x. get_or ends x 0) (sym qe) ∙ sym fe)

  pub size_some : to - from ≡ row_size table ends first order l
  size_some = sym size_is

-- ---- the ends of the rows

module _ (table : Bytes) (ends : List ℕ) (first : ℕ) (order : List ℕ) where
  pub rows_start : 0 ≡ row_ends table ends first order 0
  unfolding row_ends
  rows_start = sym (total_start 1 (row_size table ends first order))

  pub rows_turn : (l e x : ℕ) → e ≡ row_ends table ends first order l → x ≡ row_size table ends first order (l + 1) → e + x ≡ row_ends table ends first order (l + 1)
  unfolding row_ends
  rows_turn l e x p q =
      let j : l + 1 ≡ 1 + l = omega arith in
      ap₂ ◌+◌ p (q ∙ ap (row_size table ends first order) j) ∙ sym (total_turn 1 (row_size table ends first order) l)

  pub rows_small : (owned l e x : ℕ) → row_ends table ends first order owned < 65536 → l < owned → e ≡ row_ends table ends first order l → x ≡ row_size table ends first order (l + 1) → e + x < 65536
  rows_small owned l e x small h p q =
      let g : row_ends table ends first order (l + 1) ≤ row_ends table ends first order owned =
      unfold row_ends in total_grows 1 (row_size table ends first order) (l + 1) owned (omega arith) in
      omega (arith, rows_turn l e x p q)

  pub rows_last : (l owned e : ℕ) → l ≤ owned → owned ≤ l → e ≡ row_ends table ends first order l → e ≡ row_ends table ends first order owned
  rows_last l owned e g h p = at_last (λ j. e ≡ row_ends table ends first order j) l owned g h p

  pub rows_cell : (l owned : ℕ) → ReachRows table ends first order owned → l < owned → first ≤ get_or order (l + 1 - 1) 0
  rows_cell l owned R h = (R.each (l + 1) (omega arith) (omega arith)).cell

-- ---- an entry in local numbers

pub entry_put : (a b c : Bytes) (s t u first x y l w : ℕ) (table : Bytes) (local : List ℕ) (e : ℕ) → 2 * (s + 2) ≤ length a → x ≡ word_at table (2 * e) → y ≡ first + x → l ≡ get_or local y 0
    → w ≡ word_at table (2 * e + 1) → Put a b s t (l ∷ []) → Put b c t u (w ∷ []) → Put a c s u (entry_words table first local e)
unfolding entry_words local_in
entry_put a b c s t u first x y l w table local e room xe ye le we P Q =
    put_as a c s u (l ∷ w ∷ []) _ (ap₂ (λ y z. y ∷ z ∷ []) (le ∙ ap (local_in local) (ye ∙ ap (λ z. first + z) xe)) we)
    (put_both a b c s t u (l ∷ []) (w ∷ []) P Q (omega (arith, P.count)))

-- ---- the rows, one entry and one cell after the other

module _ (table : Bytes) (ends : List ℕ) (first : ℕ) (order : List ℕ) (l q from to : ℕ) (qe : q ≡ get_or order (l - 1) 0 - first) (fe : from ≡ get_or ends q 0) (te : to ≡ get_or ends (q + 1) 0) where
  from_is : from ≡ get_or ends (place_at table ends first order l) 0
  unfolding place_at
  from_is = fe ∙ ap (λ x. get_or ends x 0) qe

  to_is : to ≡ get_or ends (place_at table ends first order l + 1) 0
  unfolding place_at
  to_is = te ∙ ap (λ x. get_or ends (x + 1) 0) qe

  pub row_near : (t : ℕ) → ReachRow table ends first order l → from ≤ t → t < to → first + word_at table (2 * t) < 65536
  row_near t R h k = R.near t (omega (arith, from_is)) (omega (arith, to_is))

  row_size_lem : row_size table ends first order l ≡ to - from
  row_size_lem = size_is table ends first order l q from to qe fe te

  pub row_room : (t s u x y : ℕ) → 2 * (s + 2 * row_size table ends first order l) ≤ x → y ≡ x → u ≡ s + 2 * (t - from) → from ≤ t → t < to → 2 * (u + 2) ≤ y
  row_room t s u x y r w e h k = omega (arith, row_size_lem)

  pub row_turn : (local : List ℕ) (a b c : Bytes) (s u w t : ℕ) → 2 * (s + 2 * row_size table ends first order l) ≤ length a → from ≤ t → t < to → u ≡ s + 2 * (t - from)
      → Put a b s u (blocks from (t - from) (entry_words table first local)) → Put b c u w (entry_words table first local t) → Put a c s w (blocks from (t + 1 - from) (entry_words table first local))
  row_turn local a b c s u w t r h k e P Q =
      let i₁ : from + (t - from) ≡ t = omega arith in
      let i₂ : t - from + 1 ≡ t + 1 - from = omega arith in
      put_as a c s w (blocks from (t - from) (entry_words table first local) ++ entry_words table first local t) _
      (ap (λ x. blocks from (t - from) (entry_words table first local) ++ entry_words table first local x) (sym i₁)
      ∙ sym (blocks_turn from (entry_words table first local) (t - from)) ∙ ap (λ k. blocks from k (entry_words table first local)) i₂)
      (put_both a b c s u w _ _ P Q (omega (arith, row_size_lem)))

  pub row_end : (local : List ℕ) (a b : Bytes) (s u t : ℕ) → from ≤ t → t ≤ from + (to - from) → to ≤ t
      → Put a b s u (blocks from (t - from) (entry_words table first local)) → Put a b s u (row_words table ends first order local l)
  unfolding row_words
  row_end local a b s u t h k w P =
      let e : t - from ≡ to - from = omega arith in
      put_as a b s u _ _ (ap (λ k. blocks from k (entry_words table first local)) (e ∙ sym row_size_lem)
      ∙ ap (λ x. blocks x (row_size table ends first order l) (entry_words table first local)) from_is) P

pub row_cell : (table : Bytes) (ends : List ℕ) (first : ℕ) (order : List ℕ) (l : ℕ) → ReachRow table ends first order l → first ≤ get_or order (l - 1) 0
row_cell table ends first order l R = R.cell

-- the index of a local cell
pub place_told : (order : List ℕ) (first l c q : ℕ) → c ≡ global_of order l → q ≡ c - first → q ≡ get_or order (l - 1) 0 - first
unfolding global_of
place_told order first l c q e f = f ∙ ap (λ x. x - first) e

pub place_low : (order : List ℕ) (first l c : ℕ) → first ≤ get_or order (l - 1) 0 → c ≡ global_of order l → first ≤ c
unfolding global_of
place_low order first l c h e = omega (arith, e)

-- words of a row
entry_two : (table : Bytes) (first : ℕ) (local : List ℕ) (t : ℕ) → length (entry_words table first local t) ≡ 2
unfolding entry_words
entry_two table first local t = refl

pub row_length : (table : Bytes) (ends : List ℕ) (first : ℕ) (order local : List ℕ) (l : ℕ) → length (row_words table ends first order local l) ≡ 2 * row_size table ends first order l
unfolding row_words
row_length table ends first order local l =
    rows_length (get_or ends (place_at table ends first order l) 0) (entry_words table first local) 2 (row_size table ends first order l) (λ j h. entry_two table first local _)

pub row_count : (a b : Bytes) (u w from t s : ℕ) (table : Bytes) (first : ℕ) (local : List ℕ)
    → Put a b u w (entry_words table first local t) → u ≡ s + 2 * (t - from) → from ≤ t → w ≡ s + 2 * (t + 1 - from)
row_count a b u w from t s table first local P e h = omega (arith, P.count, entry_two table first local t)

module _ (table : Bytes) (ends : List ℕ) (first : ℕ) (order local : List ℕ) (owned : ℕ) where
  pub rows_long : length (blocks 1 owned (row_words table ends first order local)) ≡ 2 * row_ends table ends first order owned
  unfolding row_ends
  rows_long =
      blocks_sized 1 (row_words table ends first order local) (λ l. 2 * row_size table ends first order l) owned (row_length table ends first order local)
      ∙ total_double 1 owned (λ l. 2 * row_size table ends first order l) (row_size table ends first order) (λ l. refl)

  pub rows_each : (l : ℕ) → ReachRows table ends first order owned → 1 ≤ l → l < owned + 1 → ReachRow table ends first order l
  rows_each l R h k = R.each l h (omega arith)

-- ---- listed cells in local numbers

pub locals_start : (b : Bytes) (s : ℕ) (list local : List ℕ) → Put b b s s (map (local_in local) (take 0 list))
locals_start b s list local = put_none b s

pub locals_turn : (list local : List ℕ) (a b c : Bytes) (s t u k n x l : ℕ) → 2 * (s + n) ≤ length a → k < n → n ≤ length list → t ≡ s + k → x ≡ get_or list k 0 → l ≡ get_or local x 0
    → Put a b s t (map (local_in local) (take k list)) → Put b c t u (l ∷ []) → Put a c s u (map (local_in local) (take (k + 1) list))
unfolding local_in
locals_turn list local a b c s t u k n x l room h there te xe le P Q =
    put_as a c s u (map (local_in local) (take k list) ++ (l ∷ [])) _
    (ap (λ y. map (local_in local) (take k list) ++ (y ∷ [])) (le ∙ ap (λ y. get_or local y 0) xe)
    ∙ sym (map_append (local_in local) (take k list) (get_or list k 0 ∷ []))
    ∙ ap (map (local_in local)) (sym (take-suc list k 0 (omega arith)) ∙ ap (λ j. take j list) (sym (add-one k))))
    (put_both a b c s t u _ _ P Q (omega arith))

pub locals_end : (list local : List ℕ) (a b : Bytes) (s t k n : ℕ) → k ≤ n → n ≤ k → Put a b s t (map (local_in local) (take k list)) → Put a b s t (map (local_in local) (take n list))
locals_end list local a b s t k n g h P = at_last (λ j. Put a b s t (map (local_in local) (take j list))) k n g h P

pub locals_count : (list local : List ℕ) (a b : Bytes) (s t n : ℕ) → n ≤ length list → Put a b s t (map (local_in local) (take n list)) → t ≡ s + n
locals_count list local a b s t n h P = omega (arith, P.count, length-map (take n list) (local_in local), length-take-le n list h)

-- ---- exports in local numbers

module _ (owners table : Bytes) (ends : List ℕ) (i first cells : ℕ) (local : List ℕ) where
  sent_long : (j : ℕ) → length (sent_words owners table ends i first cells local j) ≡ length (part_cells owners table ends j first cells i)
  unfolding sent_words
  sent_long j = length-map (part_cells owners table ends j first cells i) (local_in local)

  pub all_long : length (blocks 1 most_parts (sent_words owners table ends i first cells local)) ≡ sent_ends owners table ends i first cells most_parts
  unfolding sent_ends
  all_long = blocks_sized 1 (sent_words owners table ends i first cells local) (λ j. length (part_cells owners table ends j first cells i)) most_parts sent_long

  pub sent_mapped : (n : ℕ) → map (local_in local) (sent_list owners table ends i first cells n) ≡ blocks 1 n (sent_words owners table ends i first cells local)
  unfolding sent_list sent_words blocks
  sent_mapped zero = refl
  sent_mapped (suc n) =
      map_append (local_in local) (blocks 1 n (λ j. part_cells owners table ends j first cells i)) (part_cells owners table ends (1 + n) first cells i)
      ∙ ap (λ (xs : List ℕ). xs ++ map (local_in local) (part_cells owners table ends (1 + n) first cells i)) (sent_mapped n)

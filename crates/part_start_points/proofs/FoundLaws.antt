-- The points found, the ends of the cells at them, and their words. Assumes nothing.
use mathlib.Core.Path.{◌≡◌, refl, sym, ap, ap₂, ◌∙◌}
use mathlib.Core.Bool.{Bool, true, false, not, cond}
use mathlib.Core.List.{List, [], ◌∷◌, ◌++◌, map}
use Prim.Native.Nat.{ℕ, ◌+◌, ◌-◌, ◌*◌, ◌≤◌, ◌<◌}
use native.Mathlib.Numerals.{add-one}
use native.Mathlib.Omega.{arith}
use lib.ListN.{length, get_or, take, set, length-set, length-map}
use lib.Seq.{take-suc-set, take-length, length-take-le, get_or-take}
use borrow.Author.Tests.{not-true, not-false}
use Rattle.vocabulary.specs.Bytes.{Bytes}
use Rattle.vocabulary.specs.Intervals.{picked, listed, blocks}
use Rattle.vocabulary.proofs.IntervalLaws.{picked_start, picked_yes, picked_no, total_start, total_turn, total_grows, total_cong, listed_cong, blocks_cong, blocks_sized, at_last}
use Rattle.layout.specs.Limits.{record_places}
use Rattle.walk_incidence.specs.declared.inner.Incidence.{Incidence}
use Rattle.walk_incidence.specs.Links.{trail}
use Rattle.word_lists.specs.Putting.{Put}
use Rattle.word_lists.proofs.PutLaws.{put_as, put_length, put_four, list_count, words_count, many_fit, many_room, many_turn}
use Rattle.part_start_lists.specs.Starting.{local_in}
use Rattle.part_start_points.specs.Points.{some_at, trail_count, cells_on, points_on, Found, size_at, size_ends, around_on, point_words, word_count}
use Rattle.part_start_points.proofs.TrailSteps.{trail_length}

-- ---- the points, one after another

module _ (inc : Incidence) (owners : Bytes) (first i : ℕ) where
  abbrev meets : ℕ → Bool
  meets p = some_at owners first i (cells_on inc p)

  pub found_start : (list : List ℕ) → Found list 0 (points_on inc owners first i (1 - 1))
  unfolding points_on
  found_start list =
      let z : 1 - 1 ≡ 0 = omega arith in
      record { text = sym (ap (λ k. picked 1 k meets) z ∙ picked_start 1 meets); there = omega arith }

  module _ (p n t : ℕ) (list : List ℕ) (low : 1 ≤ p) (F : Found list n (points_on inc owners first i (p - 1))) (te : t ≡ get_or inc.last p 0) (b : Bool)
      (be : b ≡ some_at owners first i (trail inc.cell inc.prev record_places t)) where
    here : 1 + (p - 1) ≡ p
    here = omega arith

    next : p - 1 + 1 ≡ p + 1 - 1
    next = omega arith

    told : meets (1 + (p - 1)) ≡ b
    unfolding cells_on
    told = ap (λ x. some_at owners first i (trail inc.cell inc.prev record_places (get_or inc.last x 0))) here
        ∙ ap (λ x. some_at owners first i (trail inc.cell inc.prev record_places x)) (sym te) ∙ sym be

    pub found_no : not b ≡ true → Found list n (points_on inc owners first i (p + 1 - 1))
    unfolding points_on
    found_no h = record {
      text = F.text ∙ sym (picked_no 1 meets (p - 1) (told ∙ not-true b h)) ∙ ap (λ k. picked 1 k meets) next;
      there = F.there;
    }

    pub found_yes : (after : List ℕ) (all end x : ℕ) → not b ≡ false → n < p → p < end → end ≡ all + 1 → all ≤ x → length list ≡ x → after ≡ set list n p
        → Found after (n + 1) (points_on inc owners first i (p + 1 - 1))
    unfolding points_on
    found_yes after all end x h few left ee there same e = record {
      text =
          ap (λ (xs : List ℕ). take (n + 1) xs) e
          ∙ ap (λ k. take k (set list n p)) (add-one n)
          ∙ take-suc-set list n p (omega arith)
          ∙ ap₂ (λ (xs : List ℕ) y. xs ++ (y ∷ [])) F.text (sym here)
          ∙ sym (picked_yes 1 meets (p - 1) (told ∙ not-false b h))
          ∙ ap (λ k. picked 1 k meets) next;
      there = let l : length after ≡ length list = ap length e ∙ length-set list n p in omega arith;
    }

  pub found_end : (list : List ℕ) (n p points : ℕ) → p ≤ points + 1 → points + 1 ≤ p → Found list n (points_on inc owners first i (p - 1))
      → Found list n (points_on inc owners first i points)
  found_end list n p points g h F = at_last (λ k. Found list n (points_on inc owners first i k)) (p - 1) points (omega arith) (omega arith) F

-- ---- the ends

module _ (inc : Incidence) (list : List ℕ) where
  pub size_told : (k p t n : ℕ) → p ≡ get_or list (k - 1) 0 → t ≡ get_or inc.last p 0 → n ≡ trail_count inc.prev record_places t → n ≡ size_at inc list k
  unfolding size_at
  size_told k p t n pe te ne = ne ∙ ap (trail_count inc.prev record_places) (te ∙ ap (λ x. get_or inc.last x 0) pe)

  pub sizes_start : 0 ≡ size_ends inc list 0
  unfolding size_ends
  sizes_start = sym (total_start 1 (size_at inc list))

  pub sizes_turn : (k e x : ℕ) → e ≡ size_ends inc list k → x ≡ size_at inc list (k + 1) → e + x ≡ size_ends inc list (k + 1)
  unfolding size_ends
  sizes_turn k e x p q =
      let j : k + 1 ≡ 1 + k = omega arith in
      ap₂ ◌+◌ p (q ∙ ap (size_at inc list) j) ∙ sym (total_turn 1 (size_at inc list) k)

  pub sizes_small : (n k e x : ℕ) → size_ends inc list n < 65536 → k < n → e ≡ size_ends inc list k → x ≡ size_at inc list (k + 1) → e + x < 65536
  sizes_small n k e x small h p q =
      let g : size_ends inc list (k + 1) ≤ size_ends inc list n = unfold size_ends in total_grows 1 (size_at inc list) (k + 1) n (omega arith) in
      omega (arith, sizes_turn k e x p q)

  pub sizes_end : (k n e : ℕ) → k ≤ n → n ≤ k → e ≡ size_ends inc list k → e ≡ size_ends inc list n
  sizes_end k n e g h p = at_last (λ j. e ≡ size_ends inc list j) k n g h p

-- ---- the cells at the points

module _ (inc : Incidence) (local list : List ℕ) where
  around_size : (k : ℕ) → length (around_on inc local list k) ≡ size_at inc list k
  unfolding around_on size_at cells_on
  around_size k =
      let t : ℕ = get_or inc.last (get_or list (k - 1) 0) 0 in
      length-map (trail inc.cell inc.prev record_places t) (local_in local) ∙ trail_length inc.cell inc.prev record_places t

  around_long : (n : ℕ) → length (blocks 1 n (around_on inc local list)) ≡ size_ends inc list n
  unfolding size_ends
  around_long n = blocks_sized 1 (around_on inc local list) (size_at inc list) n around_size

  module _ (n k p t : ℕ) (low : 1 ≤ k) (high : k < n + 1) (pe : p ≡ get_or list (k - 1) 0) (te : t ≡ get_or inc.last p 0) (a b : Bytes) (s u : ℕ)
      (room : 2 * (s + size_ends inc list n) ≤ length a) (P : Put a b s u (blocks 1 (k - 1) (around_on inc local list))) where
    entry : t ≡ get_or inc.last (get_or list (k - 1) 0) 0
    entry = te ∙ ap (λ x. get_or inc.last x 0) pe

    pub around_room : s + size_ends inc list n < 65536 → length b ≡ length a
        → (2 * (u + length (trail inc.cell inc.prev record_places t)) ≤ length b) × (u + length (trail inc.cell inc.prev record_places t) < 65536)
    around_room small same =
        let w = many_room (around_on inc local list) n (size_ends inc list n) (around_long n) (size_at inc list) around_size a b s u k low high room small same P in
        let f = many_fit (around_on inc local list) n k low high in
        let q : length (trail inc.cell inc.prev record_places t) ≡ size_at inc list k =
        unfold size_at in trail_length inc.cell inc.prev record_places t ∙ ap (trail_count inc.prev record_places) entry in
        (omega (arith, w.0), omega (arith, P.count, around_size k, around_long n))

    pub around_turn : (c : Bytes) (v : ℕ) → Put b c u v (map (local_in local) (trail inc.cell inc.prev record_places t)) → Put a c s v (blocks 1 (k + 1 - 1) (around_on inc local list))
    around_turn c v Q =
        many_turn (around_on inc local list) n (size_ends inc list n) (around_long n) a b c s u v k low high room P
        (put_as b c u v (map (local_in local) (trail inc.cell inc.prev record_places t)) (around_on inc local list k) is Q)
      where
        is : map (local_in local) (trail inc.cell inc.prev record_places t) ≡ around_on inc local list k
        is = unfold around_on cells_on in ap (λ x. map (local_in local) (trail inc.cell inc.prev record_places x)) entry

-- ---- the list that was found in place of the points

module _ (list points : List ℕ) (n : ℕ) (F : Found list n points) where
  pub found_length : n ≡ length points
  found_length = sym (length-take-le n list F.there) ∙ ap length F.text

  at_point : (k : ℕ) → 1 ≤ k → k ≤ n → get_or list (k - 1) 0 ≡ get_or points (k - 1) 0
  at_point k l h = sym (get_or-take n list (k - 1) 0 (omega arith)) ∙ ap (λ (xs : List ℕ). get_or xs (k - 1) 0) F.text

  module _ (inc : Incidence) where
    sizes_same : (k : ℕ) → k ≤ n → size_ends inc list k ≡ size_ends inc points k
    unfolding size_ends size_at
    sizes_same k h =
        total_cong 1 (λ k. trail_count inc.prev record_places (get_or inc.last (get_or list (k - 1) 0) 0)) (λ k. trail_count inc.prev record_places (get_or inc.last (get_or points (k - 1) 0) 0)) k
        (λ j l. ap (λ x. trail_count inc.prev record_places (get_or inc.last x 0)) (at_point (1 + j) (omega arith) (omega arith)))

    pub found_cells : (e : ℕ) → e ≡ size_ends inc list n → e ≡ size_ends inc points (length points)
    found_cells e p = p ∙ sizes_same n (omega arith) ∙ ap (size_ends inc points) found_length

    -- how many words there are
    words_many : word_count inc list n ≡ word_count inc points (length points)
    unfolding word_count
    words_many = omega (arith, found_length, found_cells (size_ends inc list n) refl)

    pub found_fits : (s x : ℕ) → 2 * (s + word_count inc points (length points)) ≤ x → s + word_count inc points (length points) < 65536
        → (2 * (s + word_count inc list n) ≤ x) × (s + word_count inc list n < 65536) × (n ≤ length list)
    found_fits s x room small = (omega (arith, words_many), omega (arith, words_many), F.there)

    words_same : (local : List ℕ) → point_words inc local list n ≡ point_words inc local points (length points)
    words_same local =
        unfold point_words in ap₂ (λ k (ws : List ℕ). k ∷ ws) found_length (ap₂ (λ (xs : List ℕ) (ws : List ℕ). xs ++ ws) front (ap₂ (λ (xs : List ℕ) (ws : List ℕ). xs ++ ws) ends around))
      where
        front : take n list ≡ take (length points) points
        front = F.text ∙ sym (take-length points)

        ends : listed 0 (n + 1) (size_ends inc list) ≡ listed 0 (length points + 1) (size_ends inc points)
        ends =
            listed_cong 0 (size_ends inc list) (size_ends inc points) (n + 1) (λ k h. sizes_same (0 + k) (omega arith))
            ∙ ap (λ k. listed 0 (k + 1) (size_ends inc points)) found_length

        around : blocks 1 n (around_on inc local list) ≡ blocks 1 (length points) (around_on inc local points)
        around = unfold around_on in
            blocks_cong 1 (λ k. map (local_in local) (cells_on inc (get_or list (k - 1) 0))) (λ k. map (local_in local) (cells_on inc (get_or points (k - 1) 0))) n
            (λ k h. ap (λ x. map (local_in local) (cells_on inc x)) (at_point (1 + k) (omega arith) (omega arith)))
            ∙ ap (λ k. blocks 1 k (λ k. map (local_in local) (cells_on inc (get_or points (k - 1) 0)))) found_length

    -- zeros or local numbers
    pub found_none : (local : List ℕ) (outside : Bool) (a b : Bytes) (s t : ℕ) → outside ≡ true → Put a b s t (point_words inc [] list n)
        → Put a b s t (point_words inc (cond outside [] local) points (length points))
    found_none local outside a b s t e P =
        put_as a b s t _ _ (words_same [] ∙ ap (λ o. point_words inc (cond o [] local) points (length points)) (sym e)) P

    pub found_locals : (local : List ℕ) (outside : Bool) (a b : Bytes) (s t : ℕ) → outside ≡ false → Put a b s t (point_words inc local list n)
        → Put a b s t (point_words inc (cond outside [] local) points (length points))
    found_locals local outside a b s t e P =
        put_as a b s t _ _ (words_same local ∙ ap (λ o. point_words inc (cond o [] local) points (length points)) (sym e)) P

-- ---- the pieces of the words, one after another

module _ (inc : Incidence) (list : List ℕ) (n : ℕ) (a : Bytes) (s : ℕ) (room : 2 * (s + word_count inc list n) ≤ length a) (small : s + word_count inc list n < 65536)
    (there : n ≤ length list) where
  many : word_count inc list n ≡ 2 * n + 2 + size_ends inc list n
  unfolding word_count
  many = refl

  pub fit_one : (2 * (s + 1) ≤ length a) × (s < 1000000) × (n < 65536)
  fit_one = (omega (arith, many), omega (arith, many), omega (arith, many))

  module _ (b : Bytes) (t : ℕ) (P : Put a b s t (n ∷ [])) where
    same_one : length b ≡ length a
    same_one = put_length a b s t (n ∷ []) P (omega (arith, P.count, many))

    pub fit_list : (2 * (t + length (take n list)) ≤ length b) × (t < 65536) × (length (take n list) ≤ 65536)
    fit_list =
        let z : length (take n list) ≡ n = length-take-le n list there in
        (omega (arith, P.count, many, same_one), omega (arith, P.count, many), omega (arith, many))

    module _ (c : Bytes) (u : ℕ) (Q : Put b c t u (take n list)) where
      after_list : u ≡ t + n
      after_list = list_count b c t u n list Q there

      same_list : length c ≡ length b
      same_list = put_length b c t u (take n list) Q (omega (arith, P.count, many, after_list, same_one))

      pub fit_sizes : (2 * (u + n + 1) ≤ length c) × (u < 65536) × (n < 65535) × (size_ends inc list n < 65536)
      fit_sizes =
          (omega (arith, P.count, many, after_list, same_one, same_list), omega (arith, P.count, many, after_list), omega (arith, many), omega (arith, many))

      module _ (d : Bytes) (w : ℕ) (R : Put c d u w (listed 0 (n + 1) (size_ends inc list))) where
        after_sizes : w ≡ u + (n + 1)
        after_sizes = words_count c d u w (n + 1) (size_ends inc list) R

        same_sizes : length d ≡ length c
        same_sizes = put_length c d u w (listed 0 (n + 1) (size_ends inc list)) R (omega (arith, P.count, many, after_list, same_one, same_list, after_sizes))

        pub fit_around : (2 * (w + size_ends inc list n) ≤ length d) × (w + size_ends inc list n < 65536) × (n < 65535)
        fit_around =
            (omega (arith, P.count, many, after_list, same_one, same_list, after_sizes, same_sizes), omega (arith, P.count, many, after_list, after_sizes), omega (arith, many))

        pub pieces_put : (local : List ℕ) (e : Bytes) (x : ℕ) → Put d e w x (blocks 1 n (around_on inc local list)) → Put a e s x (point_words inc local list n)
        unfolding point_words
        pieces_put local e x T =
            put_four a b c d e s t u w x (n ∷ []) (take n list) (listed 0 (n + 1) (size_ends inc list)) (blocks 1 n (around_on inc local list))
            (omega (arith, many, P.count, after_list, after_sizes, T.count, around_long inc local list n)) P Q R T

-- The words that start finds from its tables are those of the definition, and the numbers that it counts with are small. Assumes nothing.
use mathlib.Core.Path.{◌≡◌, refl, sym, ap, ap₂, ◌∙◌, subst}
use mathlib.Core.Bool.{Bool, true, false, not, ◌&&◌, cond}
use mathlib.Core.List.{List, [], ◌∷◌, ◌++◌, map, reverse}
use Prim.Native.Nat.{ℕ, zero, suc, ◌+◌, ◌-◌, ◌*◌, ◌≤◌, ◌<◌}
use native.Mathlib.Nat.{zero-add}
use native.Mathlib.Omega.{arith}
use lib.Dec.{ltb}
use lib.ListN.{length, get_or, take, replicate, length-append, length-replicate}
use lib.Seq.{get_or-take}
use borrow.Author.Tests.{ltb-true, ltb-false}
use Rattle.vocabulary.specs.Bytes.{Bytes}
use Rattle.vocabulary.specs.Lists.{All, joined}
use Rattle.vocabulary.proofs.ListLaws.{At, All_get_or, All_map, All_reversed, map_cong}
use Rattle.vocabulary.specs.Intervals.{picked, listed, blocks, total}
use Rattle.vocabulary.proofs.IntervalLaws.{listed_cong, listed_back, blocks_moved, blocks_cong, blocks_length, joined_mapped, total_cong, total_agree, total_grows, total_has, total_mono}
use Rattle.vocabulary.proofs.CountLaws.{total_add}
use Rattle.layout.specs.Words.{word_at}
use Rattle.layout.specs.Limits.{element_places, most_elements, most_held, most_parts, most_reached}
use Rattle.mesh.specs.Mesh.{first_cell, cell_count}
use Rattle.mesh.specs.Walks.{Near, reach, steps, bad13}
use Rattle.mesh.proofs.WalkLaws.{reach_in}
use Rattle.walk_reach_table.specs.Tables.{entry_count}
use Rattle.walk_reach_table.proofs.EntryLaws.{count_more}
use Rattle.split.specs.Split.{Split, split_of, owns, held, inside, imports, exports, interior, halo, locals, local_of, global_of, points_of, points_in, around_of, point_ends, bad29}
use Rattle.split.proofs.SplitLaws.{map_facts, SplitCell, own_cells, split_reach, split_own, split_owner, own_is, own_local, local_back, import_own, reach_held}
use Rattle.split.proofs.SplitLaws.{order_cells, order_length, own_count, own_first, held_length, imports_none, import_total, export_total}
use Rattle.split.proofs.PointLaws.{point_at, point_held, split_around}
use Rattle.split.specs.Numbering.{numbering}
use Rattle.split.proofs.UnitLaws.{numbered}
use Rattle.split.specs.Lists.{bad12}
use Rattle.split_classes.specs.Classes.{part_cells, Prepared}
use Rattle.split_cells.proofs.ClassLists.{part_imports, locals_few}
use Rattle.part_state.specs.State.{exports_word}
use Rattle.part_start_plan.specs.Start.{owned_in, reach_of, import_ends, export_ends, reach_ends, reach_words, export_words, lists_long, lists_regions, around_words}
use Rattle.word_lists.proofs.RegionLaws.{joined_append, regions_three}
use Rattle.part_start_points.specs.Points.{cell_words, part_words}
use Rattle.part_start_lists.specs.Starting.{local_in, numbers_of, got_ends, sent_ends, sent_words, place_at, row_size, row_ends, entry_words, row_words, numbered_words, start_words}

-- ---- lists

-- blocks that are made of a list's elements
list_blocks : {A : Type 0} (a : ℕ) (g : ℕ → List ℕ) (es : List A) (d : A) (f : A → List ℕ) → ((t : ℕ) → t < length es → g (a + t) ≡ f (get_or es t d))
    → blocks a (length es) g ≡ joined (map f es)
list_blocks a g es d f h =
    blocks_moved a 0 g (λ t. f (get_or es t d)) (length es) (λ t k. h t k ∙ ap (λ x. f (get_or es x d)) (sym (zero-add t)))
    ∙ sym (joined_mapped f 0 (λ t. get_or es t d) (length es))
    ∙ ap (λ xs. joined (map f xs)) (listed_back 0 (λ t. get_or es t d) es d (λ t k. ap (λ x. get_or es x d) (zero-add t)))

-- how many elements the lists that f makes of a list have
abbrev many : {A : Type 0} → (ℕ → List A) → List ℕ → ℕ
many f xs = length (joined (map f xs))

many_append : {A : Type 0} (f : ℕ → List A) (xs ys : List ℕ) → many f (xs ++ ys) ≡ many f xs + many f ys
unfolding joined
many_append f [] ys = sym (zero-add (many f ys))
many_append f (x ∷ xs) ys = omega (arith, length-append (f x) (joined (map f (xs ++ ys))), length-append (f x) (joined (map f xs)), many_append f xs ys)

many_one : {A : Type 0} (f : ℕ → List A) (x : ℕ) (b : Bool) → many f (cond b (x ∷ []) []) ≡ cond b (length (f x)) 0
unfolding joined
many_one f x true = omega (arith, length-append (f x) [])
many_one f x false = refl

many_picked : {A : Type 0} (f : ℕ → List A) (a : ℕ) (p : ℕ → Bool) (n : ℕ) → many f (picked a n p) ≡ total a n (λ c. cond (p c) (length (f c)) 0)
unfolding picked total joined
many_picked f a p zero = refl
many_picked f a p (suc n) = many_append f (picked a n p) (cond (p (a + n)) ((a + n) ∷ []) []) ∙ ap₂ ◌+◌ (many_picked f a p n) (many_one f (a + n) (p (a + n)))

-- the same by the places in the list
many_listed : {A : Type 0} (f : ℕ → List A) (xs : List ℕ) → total 1 (length xs) (λ k. length (f (get_or xs (k - 1) 0))) ≡ many f xs
many_listed f xs =
    sym (blocks_length 1 (λ k. f (get_or xs (k - 1) 0)) (length xs))
    ∙ ap length (sym (joined_mapped f 1 (λ k. get_or xs (k - 1) 0) (length xs)))
    ∙ ap (many f) (listed_back 1 (λ k. get_or xs (k - 1) 0) xs 0 (λ t k. let e : 1 + t - 1 ≡ t = omega arith in ap (λ x. get_or xs x 0) e))

-- what passes one test or the other counts once
either_le : (a b : Bool) (x : ℕ) → cond (a && b) x 0 + cond (a && not b) x 0 ≤ x
either_le true true x = omega arith
either_le true false x = omega arith
either_le false b x = omega arith

-- ---- the reaches of the owned cells together have no more entries than those of all cells

module _ (S : Split) (i : ℕ) where
  owned_many : reach_ends S i (locals S i) (owned_in S i) ≡ many S.reach (interior S i) + many S.reach (halo S i)
  unfolding reach_ends
  owned_many =
      total_cong 1 (λ k. length (reach_of S i (locals S i) k)) (λ k. length (S.reach (get_or (own_cells S i) (k - 1) 0))) (owned_in S i)
      (λ k h. ap (λ c. length (S.reach c)) (own_first S i (1 + k) (omega arith) (omega arith)))
      ∙ ap (λ x. total 1 x (λ k. length (S.reach (get_or (own_cells S i) (k - 1) 0)))) (sym (own_count S i))
      ∙ many_listed S.reach (own_cells S i)
      ∙ many_append S.reach (interior S i) (halo S i)

  owned_part : reach_ends S i (locals S i) (owned_in S i) ≤ total S.first S.cells (λ c. length (S.reach c))
  unfolding interior halo
  owned_part =
      let f : ℕ → ℕ = λ c. cond (owns S i c && inside S i c) (length (S.reach c)) 0 in
      let g : ℕ → ℕ = λ c. cond (owns S i c && not (inside S i c)) (length (S.reach c)) 0 in
      omega (
        arith,
        owned_many,
        many_picked S.reach S.first (λ c. owns S i c && inside S i c) S.cells,
        many_picked S.reach S.first (λ c. owns S i c && not (inside S i c)) S.cells,
        total_add S.first S.cells f g,
        total_mono S.first (λ c. f c + g c) (λ c. length (S.reach c)) S.cells (λ k h. either_le (owns S i (S.first + k)) (inside S i (S.first + k)) (length (S.reach (S.first + k)))),
      )

  pub ends_part : (l : ℕ) → l ≤ owned_in S i → reach_ends S i (locals S i) l ≤ total S.first S.cells (λ c. length (S.reach c))
  ends_part l h =
      let g : reach_ends S i (locals S i) l ≤ reach_ends S i (locals S i) (owned_in S i) = unfold reach_ends in total_grows 1 (λ k. length (reach_of S i (locals S i) k)) l (owned_in S i) h in
      omega (arith, owned_part)

module _ (m : Bytes) (parts : ℕ) (owners st table : Bytes) (ends : List ℕ) (holders : Bytes) (R : Prepared m parts owners st table ends holders) where
  abbrev S : Split
  S = split_of m parts owners st

  few_parts : S.parts ≤ most_parts
  unfolding split_of
  few_parts = (map_facts m parts owners [] R.map).few

  owner_in : (c : ℕ) → SplitCell S c → (1 ≤ S.owner c) × (S.owner c ≤ S.parts)
  owner_in = split_owner m parts owners st (map_facts m parts owners [] R.map).owner_in

  -- ---- where the entries of a cell stand

  row_start : (q : ℕ) → q < cell_count m → get_or ends q 0 ≡ entry_count m st q
  row_start q h = R.ended.each q (omega arith)

  row_more : (q : ℕ) → q < cell_count m → get_or ends (q + 1) 0 ≡ get_or ends q 0 + length (reach m st (first_cell m + q))
  row_more q h = omega (arith, row_start q h, R.ended.each (q + 1) (omega arith), count_more m st q)

  -- how many entries the first cells' reaches have together
  pub entries_few : bad13 m st ≡ false → (q : ℕ) → q ≤ cell_count m → entry_count m st q ≤ most_reached
  unfolding bad13 entry_count
  entries_few e q h = omega (
    arith,
    ltb-false most_reached (total (first_cell m) (cell_count m) (λ c. length (reach m st c))) e,
    total_grows (first_cell m) (λ c. length (reach m st c)) q (cell_count m) h,
  )

  -- no part imports more than it holds
  imports_held : (j i : ℕ) → 1 ≤ i → length (imports S j i) ≤ length (held S j)
  imports_held j i h = go (ltb S.parts i) refl
    where
      go : (b : Bool) → ltb S.parts i ≡ b → length (imports S j i) ≤ length (held S j)
      go true e = omega (arith, ap length (imports_none S (split_reach m parts owners st) owner_in j i (ltb-true _ _ e)))
      go false e =
          let l : i ≤ S.parts = ltb-false _ _ e in
          let z : 1 + (i - 1) ≡ i = omega arith in
          omega (
            arith,
            held_length S (split_reach m parts owners st) owner_in (split_own m parts owners st) j,
            total_has 1 (λ k. length (imports S j k)) S.parts (i - 1) (omega arith),
            ap (λ k. length (imports S j k)) z,
          )

  pub exports_sixteen : (i : ℕ) → total 1 most_parts (λ j. length (exports S i j)) ≡ total 1 parts (λ j. length (exports S i j))
  unfolding split_of
  exports_sixteen i = export_total S (split_reach m parts owners st) owner_in i few_parts

  pub exports_few : bad12 S ≡ false → (i : ℕ) → 1 ≤ i → total 1 most_parts (λ j. length (exports S i j)) ≤ most_held
  unfolding bad12 exports
  exports_few e i h =
      omega (
        arith,
        ltb-false most_held (total 1 S.parts (λ j. length (held S j))) e,
        export_total S (split_reach m parts owners st) owner_in i few_parts,
        total_mono 1 (λ j. length (imports S j i)) (λ j. length (held S j)) S.parts (λ j q. imports_held (1 + j) i h),
      )

  module _ (i : ℕ) (low : 1 ≤ i) (high : i ≤ most_parts) (first cells : ℕ) (fe : first ≡ first_cell m) (ce : cells ≡ cell_count m) where
    abbrev L : List ℕ
    L = locals S i

    -- ---- imports and exports

    cells_are : (k j : ℕ) → k ≤ most_parts → 1 ≤ j → j ≤ most_parts → part_cells owners table ends k first cells j ≡ imports S k j
    cells_are k j h l q = part_imports m parts owners st table ends holders R j k first cells fe ce l q

    pub sent_ends_lem : (j : ℕ) → j ≤ most_parts → sent_ends owners table ends i first cells j ≡ export_ends S i L j
    unfolding sent_ends export_ends exports
    sent_ends_lem j h = total_agree (λ k. length (part_cells owners table ends k first cells i)) (λ k. length (exports S i k)) most_parts j h (λ k l q. ap length (cells_are k i q low high))

    pub sent_few : bad12 S ≡ false → (j : ℕ) → j ≤ most_parts → sent_ends owners table ends i first cells j ≤ most_held
    sent_few e j h =
        let g : export_ends S i L j ≤ total 1 most_parts (λ k. length (exports S i k)) = unfold export_ends in total_grows 1 (λ k. length (exports S i k)) j most_parts h in
        omega (arith, sent_ends_lem j h, exports_few e i low)

    module _ (order : List ℕ) (n own : ℕ) (oe : take n order ≡ locals S i) (ne : n ≡ length (locals S i)) (we : own ≡ owned_in S i) where
      pub got_ends_lem : (j : ℕ) → j ≤ most_parts → got_ends owners table ends i first cells own j ≡ import_ends S i L j
      unfolding got_ends import_ends
      got_ends_lem j h = ap₂ ◌+◌ we
          (total_agree (λ k. length (part_cells owners table ends i first cells k)) (λ k. length (imports S i k)) most_parts j h (λ k l q. ap length (cells_are i k high l q)))

      -- all imports are all that is held
      pub got_all : got_ends owners table ends i first cells own most_parts ≡ n
      unfolding import_ends
      got_all = omega (arith, got_ends_lem most_parts (omega arith), order_length S i, import_total S (split_reach m parts owners st) owner_in i few_parts)

      -- ---- the order

      pub order_at : (k : ℕ) → k < n → get_or order k 0 ≡ get_or L k 0
      order_at k h = sym (get_or-take n order k 0 h) ∙ ap (λ xs. get_or xs k 0) oe

      pub order_few : n ≤ most_elements
      order_few = omega (arith, locals_few m parts owners st table ends holders R i)

      pub own_few : own ≤ n
      own_few = omega (arith, order_length S i)

      pub cell_at : (k : ℕ) → k < n → (first_cell m ≤ get_or order k 0) × (get_or order k 0 < first_cell m + cell_count m)
      unfolding split_of
      cell_at k h =
          subst (λ c. (first_cell m ≤ c) × (c < first_cell m + cell_count m)) (sym (order_at k h))
          (All_get_or (λ c. (first_cell m ≤ c) × (c < first_cell m + cell_count m)) L k 0 (order_cells S i) (omega arith))

      pub order_low : (k : ℕ) → k < n → first ≤ get_or order k 0
      order_low k h = omega (arith, (cell_at k h).0)

      pub order_high : (k : ℕ) → k < n → get_or order k 0 ≤ most_elements
      order_high k h = omega (arith, (cell_at k h).1, R.mesh.cells_in, R.mesh.sizes.n_high)

      -- the array has the local number of each cell of the order
      local_is : (c : ℕ) → local_of L c ≤ length L → global_of L (local_of L c) ≡ c → local_in (numbers_of order n) c ≡ local_of L c
      unfolding local_in local_of global_of
      local_is c h e =
          let k : local_of L c - 1 < n = omega (arith, ne) in
          let few : c ≤ most_elements = omega (arith, order_high (local_of L c - 1) k, order_at (local_of L c - 1) k, e) in
          ap (λ cs. get_or (numbering 0 cs (replicate element_places 0)) c 0) oe ∙ numbered L (replicate element_places 0) c h (omega (arith, length-replicate {A = ℕ} element_places 0))

      pub sent_words_lem : (j : ℕ) → 1 ≤ j → j ≤ most_parts → sent_words owners table ends i first cells (numbers_of order n) j ≡ export_words S i L j
      unfolding sent_words export_words exports
      sent_words_lem j l h =
          ap (map (local_in (numbers_of order n))) (cells_are j i h low high)
          ∙ map_cong (local_in (numbers_of order n)) (local_of L) (imports S j i)
          (All_map (imports S j i) (λ c a. let b = own_local S i c a in local_is c (omega (arith, b.0, order_length S i)) b.1) (import_own S j i))

      -- ---- the rows of the owned cells

      module _ (l : ℕ) (h : 1 ≤ l) (k : l ≤ own) where
        abbrev place : ℕ
        place = place_at table ends first order l

        pub place_in : place_at table ends first order l < cell_count m
        unfolding place_at
        place_in = omega (arith, (cell_at (l - 1) (omega (arith, own_few))).0, (cell_at (l - 1) (omega (arith, own_few))).1)

        pub place_is : first_cell m + place_at table ends first order l ≡ global_of L l
        unfolding place_at global_of
        place_is = omega (arith, (cell_at (l - 1) (omega (arith, own_few))).0, order_at (l - 1) (omega (arith, own_few)))

        reach_is : reach m st (first_cell m + place_at table ends first order l) ≡ reach_of S i L l
        unfolding split_of
        reach_is = ap (reach m st) place_is

        pub row_rises : get_or ends (place_at table ends first order l) 0 ≤ get_or ends (place_at table ends first order l + 1) 0
        row_rises = omega (arith, row_more place place_in)

        pub row_size_lem : row_size table ends first order l ≡ length (reach_of S i L l)
        unfolding row_size
        row_size_lem = omega (arith, row_more place place_in, ap length reach_is)

        -- the cell of an entry
        entry_cell : (t : ℕ) → t < length (reach m st (first_cell m + place))
            → (first + word_at table (2 * (entry_count m st place + t)) ≡ (get_or (reach m st (first_cell m + place)) t (record { cell = 0; layer = 0 })).cell)
            × (first + word_at table (2 * (entry_count m st place + t)) ≤ most_elements)
        entry_cell t q =
            let d : Near = record { cell = 0; layer = 0 } in
            let w = R.entries place t d place_in q in
            let r = All_get_or (λ e. (first_cell m ≤ e.cell) × (e.cell < first_cell m + cell_count m)) (reach m st (first_cell m + place)) t d (reach_in m st (first_cell m + place)) q in
            (omega (arith, w.0, r.0), omega (arith, w.0, r.0, r.1, R.mesh.cells_in, R.mesh.sizes.n_high))

        pub entry_high : (t : ℕ) → get_or ends (place_at table ends first order l) 0 ≤ t → t < get_or ends (place_at table ends first order l + 1) 0 → first + word_at table (2 * t) ≤ most_elements
        entry_high t a b =
            let e : entry_count m st place + (t - entry_count m st place) ≡ t = omega (arith, row_start place place_in) in
            subst (λ x. first + word_at table (2 * x) ≤ most_elements) e (entry_cell (t - entry_count m st place) (omega (arith, row_start place place_in, row_more place place_in))).1

        entry_words_lem : (t : ℕ) → t < length (reach m st (first_cell m + place))
            → entry_words table first (numbers_of order n) (entry_count m st place + t)
            ≡ local_of L (get_or (reach m st (first_cell m + place)) t (record { cell = 0; layer = 0 })).cell ∷
            (get_or (reach m st (first_cell m + place)) t (record { cell = 0; layer = 0 })).layer ∷ []
        unfolding entry_words
        entry_words_lem t q =
            let o = own_is S i l h (omega arith) in
            let d : Near = record { cell = 0; layer = 0 } in
            let a : At (get_or (reach m st (first_cell m + place)) t d).cell L =
            All_get_or (λ e. At e.cell L) (reach m st (first_cell m + place)) t d
            (subst (All (λ e. At e.cell L)) (sym reach_is) (reach_held S (split_reach m parts owners st) owner_in i (global_of L l) o.0 o.1)) q in
            let b = local_back S i (get_or (reach m st (first_cell m + place)) t d).cell a in
            ap₂ (λ x y. x ∷ y ∷ []) (ap (local_in (numbers_of order n)) (entry_cell t q).0 ∙ local_is _ b.1 b.2) (R.entries place t d place_in q).1

        pub row_words_lem : row_words table ends first order (numbers_of order n) l ≡ reach_words S i L l
        unfolding row_words reach_words
        row_words_lem =
            let d : Near = record { cell = 0; layer = 0 } in
            ap₂ (λ x y. blocks x y (entry_words table first (numbers_of order n))) (row_start place place_in) (row_size_lem ∙ sym (ap length reach_is))
            ∙ list_blocks (entry_count m st place) (entry_words table first (numbers_of order n)) (reach m st (first_cell m + place)) d (λ e. local_of L e.cell ∷ e.layer ∷ []) entry_words_lem
            ∙ ap (λ es. joined (map (λ e. local_of L e.cell ∷ e.layer ∷ []) es)) reach_is

      pub row_ends_lem : (l : ℕ) → l ≤ own → row_ends table ends first order l ≡ reach_ends S i L l
      unfolding row_ends reach_ends
      row_ends_lem l h = total_agree (row_size table ends first order) (λ k. length (reach_of S i L k)) own l h row_size_lem

      pub ends_few : bad13 m st ≡ false → (l : ℕ) → l ≤ own → row_ends table ends first order l ≤ most_reached
      unfolding split_of entry_count
      ends_few e l h = omega (arith, row_ends_lem l h, ends_part S i l (omega arith), entries_few e (cell_count m) (omega arith))

      -- ---- the points

      -- the cells at the k-th point by the array of local numbers
      around_words_lem : (k : ℕ) → 1 ≤ k → k ≤ points_in S i → cell_words S i (numbers_of order n) (bad29 S i) k ≡ around_words S i L k
      unfolding around_words cell_words
      around_words_lem k h q = go (bad29 S i) refl
        where
          go : (b : Bool) → bad29 S i ≡ b
              → cond b (replicate (length (around_of S i k)) 0) (map (local_in (numbers_of order n)) (reverse (around_of S i k)))
              ≡ cond b (replicate (length (around_of S i k)) 0) (map (local_of L) (reverse (around_of S i k)))
          go true e = refl
          go false e =
              map_cong (local_in (numbers_of order n)) (local_of L) (reverse (around_of S i k))
              (All_reversed (λ c. local_in (numbers_of order n) c ≡ local_of L c) (around_of S i k)
              (All_map (around_of S i k) (λ c a. let b = local_back S i c a in local_is c b.1 b.2)
              (point_held S (split_around m parts owners st) (split_reach m parts owners st) owner_in i (get_or (points_of S i) (k - 1) 0) e (point_at S i k h q))))

      -- ---- all words

      -- the words before the points, and their bound
      pub front_is : exports_word n own (row_ends table ends first order own) + sent_ends owners table ends i first cells most_parts
          ≡ exports_word (length L) (owned_in S i) (reach_ends S i L (owned_in S i)) + export_ends S i L most_parts
      front_is = omega (arith, row_ends_lem own (omega arith), ap (reach_ends S i L) we, sent_ends_lem most_parts (omega arith))

      pub front_few : bad12 S ≡ false → bad13 m st ≡ false
          → exports_word n own (row_ends table ends first order own) + sent_ends owners table ends i first cells most_parts ≤ 24142
      front_few e f = omega (arith, order_few, own_few, ends_few f own (omega arith), sent_few e most_parts (omega arith))

      pub start_words_lem : (kind long : ℕ) (v : Bytes) → long ≡ lists_long S i L
          → start_words owners table ends i first cells order n own long (steps st) kind v ++ part_words S i (numbers_of order n) (bad29 S i) ≡ joined (lists_regions S i L (steps st) kind v)
      unfolding numbered_words lists_regions split_of part_words
      start_words_lem kind long v le =
          let A = listed 0 (points_in S i + 1) (point_ends S i) in
          ap₂ ◌++◌
          (ap joined
          (ap₂ ◌∷◌ (ap (λ x. x ∷ i ∷ steps st ∷ kind ∷ []) le)
          (ap (λ rs. listed 0 5 (word_at v) ∷ rs)
          (ap₂ ◌∷◌ (ap₂ (λ x y. x ∷ y ∷ []) fe ce)
          (ap₂ ◌∷◌ (listed_cong 0 (got_ends owners table ends i first cells own) (import_ends S i L) (most_parts + 1) (λ j h. got_ends_lem (0 + j) (omega arith)))
          (ap₂ ◌∷◌ (listed_cong 0 (sent_ends owners table ends i first cells) (export_ends S i L) (most_parts + 1) (λ j h. sent_ends_lem (0 + j) (omega arith)))
          (ap₂ ◌∷◌ oe
          (ap₂ ◌∷◌
          (listed_cong 0 (row_ends table ends first order) (reach_ends S i L) (own + 1) (λ j h. row_ends_lem (0 + j) (omega arith)) ∙ ap (λ x. listed 0 (x + 1) (reach_ends S i L)) we)
          (ap₂ ◌∷◌
          (blocks_cong 1 (row_words table ends first order (numbers_of order n)) (reach_words S i L) own (λ j h. row_words_lem (1 + j) (omega arith) (omega arith))
          ∙ ap (λ x. blocks 1 x (reach_words S i L)) we)
          (ap (λ r. r ∷ [])
          (blocks_cong 1 (sent_words owners table ends i first cells (numbers_of order n)) (export_words S i L) most_parts (λ j h. sent_words_lem (1 + j) (omega arith) (omega arith)))))))))))))
          (ap (λ x. (points_in S i ∷ points_of S i) ++ (A ++ x))
          (blocks_cong 1 (cell_words S i (numbers_of order n) (bad29 S i)) (around_words S i L) (points_in S i) (λ j h. around_words_lem (1 + j) (omega arith) (omega arith)))
          ∙ regions_three (points_in S i ∷ points_of S i) A (blocks 1 (points_in S i) (around_words S i L)))
          ∙ sym (joined_append _ ((points_in S i ∷ points_of S i) ∷ A ∷ blocks 1 (points_in S i) (around_words S i L) ∷ []))

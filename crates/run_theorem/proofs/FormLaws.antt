-- The lists that start writes are the lists that a call reads: the words of a state by their places, and each of the lists by its index.
-- Assumes nothing.
use Rattle.std.specs.Prelude.{◌≡◌, Bool, ◌&&◌, ◌||◌, replicate}
use Rattle.std.proofs.Math.Path.{refl, sym, ap, ap₂}
use Rattle.std.proofs.Common.{◌∙◌, subst, zero-add}
use Rattle.std.proofs.Math.Bool.{true, false, not, cond}
use mathlib.Core.List.{List, [], ◌∷◌, map, reverse}
use Prim.Native.Nat.{ℕ, ◌+◌, ◌-◌, ◌*◌, ◌/◌, ◌<◌, ◌≤◌}
use native.Mathlib.Omega.{arith}
use Rattle.std.proofs.Math.Dec.{eqb, ltb}
use Rattle.std.proofs.Math.ListN.{length, get_or, take, drop, length-map, length-reverse, length-replicate}
use Rattle.std.proofs.Math.Seq.{get_or-take, ext_get_or, length-take-le, drop_at}
use borrow.Author.Tests.{eqb-true, ltb-false, not-false}
use Rattle.vocabulary.specs.Bytes.{Bytes, byte_at}
use Rattle.vocabulary.specs.Lists.{joined}
use Rattle.vocabulary.proofs.ListLaws.{cond_has, or_false, get_or_map_any, pairs_length, pairs_at}
use Rattle.vocabulary.specs.Intervals.{some, listed, blocks, total}
use Rattle.vocabulary.proofs.IntervalLaws.{some_at, listed_length, listed_at, total_start}
use Rattle.layout.specs.Words.{word, word_at, bytes_of}
use Rattle.layout.proofs.WordLaws.{length_bytes_of, bytes_of_append, bytes_of_read}
use Rattle.layout.specs.Limits.{most_parts, most_steps, most_weight}
use Rattle.mesh.specs.Walks.{Near}
use Rattle.round_rule.specs.Rules.{weight_count, too_heavy, bad11}
use Rattle.split.specs.Split.{Split, imports, exports, local_of, global_of, points_in, around_of, point_ends, bad29}
use Rattle.part_state.specs.State.{LocalNear, import_word, export_word, cell_word, reach_word, entry_word, exports_word, weights_place, part_number, step_count}
use Rattle.part_state.specs.State.{rule_kind, weights, first_of_mesh, cells_of_mesh, import_end, owned_count, held_count, export_end, global_at, reach_end}
use Rattle.part_state.specs.State.{reach_count, entry_at, export_at, local_reach, local_exports, points_from}
use Rattle.part_start_plan.specs.Start.{owned_in, reach_of, import_ends, export_ends, reach_ends, reach_words, export_words, around_words, lists_long, lists_regions}
use Rattle.word_lists.proofs.RegionLaws.{lengths, joined_length, joined_at, region_at, table_at, rows_words, entry_word_lem, row_back}

-- ---- the words by their places

module _ (S : Split) (i : ℕ) (order : List ℕ) (n kind : ℕ) (v : Bytes) where
  abbrev pub regions : List (List ℕ)
  regions = lists_regions S i order n kind v

  abbrev pub front : Bytes
  front = bytes_of (joined (lists_regions S i order n kind v))

  -- how many entries the reach of a local cell, the exports to a part, and the cells at a point have
  abbrev reached : ℕ → ℕ
  reached l = length (reach_of S i order l)

  abbrev sent : ℕ → ℕ
  sent j = length (exports S i j)

  abbrev pub at_point : ℕ → ℕ
  at_point k = length (around_of S i k)

  reach_length : (l : ℕ) → length (reach_words S i order l) ≡ 2 * reached l
  unfolding reach_words
  reach_length l = pairs_length (λ e. local_of order e.cell) (λ e. e.layer) (reach_of S i order l)

  export_length : (j : ℕ) → length (export_words S i order j) ≡ 1 * sent j
  unfolding export_words
  export_length j = omega (arith, length-map (exports S i j) (local_of order))

  reaches_length : (l : ℕ) → length (blocks 1 l (reach_words S i order)) ≡ 2 * reach_ends S i order l
  unfolding reach_ends
  reaches_length = rows_words 2 (reach_words S i order) reached reach_length

  pub exports_length : (j : ℕ) → length (blocks 1 j (export_words S i order)) ≡ export_ends S i order j
  unfolding export_ends
  exports_length j = omega (arith, rows_words 1 (export_words S i order) sent export_length j)

  pub around_length : (k : ℕ) → length (around_words S i order k) ≡ 1 * at_point k
  unfolding around_words
  around_length k =
      cond_has (λ ws. length ws ≡ 1 * at_point k) (bad29 S i) (replicate (at_point k) 0) (map (local_of order) (reverse (around_of S i k)))
      (λ e. omega (arith, length-replicate {A = ℕ} (at_point k) 0))
      (λ e. omega (arith, length-map (reverse (around_of S i k)) (local_of order), length-reverse (around_of S i k)))

  pub arounds_length : (k : ℕ) → length (blocks 1 k (around_words S i order)) ≡ point_ends S i k
  unfolding point_ends
  arounds_length k = omega (arith, rows_words 1 (around_words S i order) at_point around_length k)

  -- the lengths of the tables, by which the regions have their places
  weights_long : length (listed 0 5 (word_at v)) ≡ 5
  weights_long = listed_length 0 (word_at v) 5

  imports_long : length (listed 0 (most_parts + 1) (import_ends S i order)) ≡ most_parts + 1
  imports_long = listed_length 0 (import_ends S i order) (most_parts + 1)

  exports_long : length (listed 0 (most_parts + 1) (export_ends S i order)) ≡ most_parts + 1
  exports_long = listed_length 0 (export_ends S i order) (most_parts + 1)

  ends_long : length (listed 0 (owned_in S i + 1) (reach_ends S i order)) ≡ owned_in S i + 1
  ends_long = listed_length 0 (reach_ends S i order) (owned_in S i + 1)

  points_long : length (listed 0 (points_in S i + 1) (point_ends S i)) ≡ points_in S i + 1
  points_long = listed_length 0 (point_ends S i) (points_in S i + 1)

  -- the words are as many as they say
  pub words_length : length (joined (lists_regions S i order n kind v)) ≡ lists_long S i order
  unfolding lists_regions lists_long
  words_length =
      joined_length regions
      ∙ omega (
        arith,
        weights_long,
        imports_long,
        exports_long,
        ends_long,
        points_long,
        reaches_length (owned_in S i),
        exports_length most_parts,
        arounds_length (points_in S i),
      )

  pub front_length : length front ≡ 2 * lists_long S i order
  front_length = length_bytes_of (joined (lists_regions S i order n kind v)) ∙ ap (λ k. 2 * k) words_length

  -- ---- the numbers and the tables

  pub part_back : part_number front ≡ i
  unfolding lists_regions
  part_back = region_at regions 0 1 _ (omega arith) (omega arith)

  pub steps_back : step_count front ≡ n
  unfolding lists_regions
  steps_back = region_at regions 0 2 _ (omega arith) (omega arith)

  pub kind_back : rule_kind front ≡ kind
  unfolding lists_regions
  kind_back = region_at regions 0 3 _ (omega arith) (omega arith)

  pub first_back : first_of_mesh front ≡ S.first
  unfolding lists_regions
  first_back = region_at regions 2 0 _ (omega arith) (omega (arith, weights_long))

  pub cells_back : cells_of_mesh front ≡ S.cells
  unfolding lists_regions
  cells_back = region_at regions 2 1 _ (omega arith) (omega (arith, weights_long))

  pub import_back : (j : ℕ) → j ≤ most_parts → import_end front j ≡ import_ends S i order j
  unfolding lists_regions
  import_back j h = table_at regions 3 17 (import_ends S i order) refl j (import_word + j) (omega arith) (omega (arith, weights_long))

  pub export_back : (j : ℕ) → j ≤ most_parts → export_end front j ≡ export_ends S i order j
  unfolding lists_regions
  export_back j h = table_at regions 4 17 (export_ends S i order) refl j (export_word + j) (omega arith) (omega (arith, weights_long, imports_long))

  pub owned_back : owned_count front ≡ owned_in S i
  unfolding import_ends
  owned_back = import_back 0 (omega arith) ∙ omega (arith, total_start 1 (λ k. length (imports S i k)))

  pub global_back : (l : ℕ) → 1 ≤ l → l ≤ length order → global_at front l ≡ global_of order l
  unfolding global_of lists_regions
  global_back l h k = region_at regions 5 (l - 1) (cell_word + l) (omega arith) (omega (arith, weights_long, imports_long, exports_long))

  -- ---- the lists, where the order has as many cells as the table of imports says

  module _ (full : import_ends S i order most_parts ≡ length order) where
    pub held_back : held_count front ≡ length order
    held_back = import_back most_parts (omega arith) ∙ full

    pub ends_back : (l : ℕ) → l ≤ owned_in S i → reach_end front l ≡ reach_ends S i order l
    unfolding lists_regions
    ends_back l h =
        table_at regions 6 (owned_in S i + 1) (reach_ends S i order) refl l (reach_word (held_count front) + l) (omega arith)
        (omega (arith, held_back, weights_long, imports_long, exports_long))

    pub count_back : reach_count front ≡ reach_ends S i order (owned_in S i)
    count_back = ap (reach_end front) owned_back ∙ ends_back (owned_in S i) (omega arith)

    -- a word of the reaches, and of the exports
    reach_word_lem : (k : ℕ) → k < length (blocks 1 (owned_in S i) (reach_words S i order))
        → word_at front (entry_word (held_count front) (owned_count front) + k) ≡ get_or (blocks 1 (owned_in S i) (reach_words S i order)) k 0
    unfolding lists_regions
    reach_word_lem k h =
        region_at regions 7 k (entry_word (held_count front) (owned_count front) + k) h (omega (arith, held_back, owned_back, weights_long, imports_long, exports_long, ends_long))

    pub export_word_lem : (k : ℕ) → k < length (blocks 1 most_parts (export_words S i order)) → export_at front k ≡ get_or (blocks 1 most_parts (export_words S i order)) k 0
    unfolding lists_regions
    export_word_lem k h =
        region_at regions 8 k (exports_word (held_count front) (owned_count front) (reach_count front) + k) h
        (omega (arith, held_back, owned_back, count_back, weights_long, imports_long, exports_long, ends_long, reaches_length (owned_in S i)))

    -- the place of the points
    pub points_place : points_from front ≡ lengths (take 9 regions)
    unfolding lists_regions
    points_place =
        omega (
          arith,
          held_back,
          owned_back,
          count_back,
          export_back most_parts (omega arith),
          weights_long,
          imports_long,
          exports_long,
          ends_long,
          reaches_length (owned_in S i),
          exports_length most_parts,
        )

    -- an entry by its local number
    abbrev pub to_local : Near → LocalNear
    to_local e = record { local = local_of order e.cell; layer = e.layer }

    module _ (l : ℕ) (h : 1 ≤ l) (k : l ≤ owned_in S i) where
      near_ends : (j : ℕ) → j ≤ owned_in S i → reach_end front j ≡ total 1 j reached
      unfolding reach_ends
      near_ends = ends_back

      near_word : (t r : ℕ) → t < reached l → r < 2
          → word_at front (entry_word (held_count front) (owned_count front) + (2 * (reach_ends S i order (l - 1) + t) + r)) ≡ get_or (reach_words S i order l) (2 * t + r) 0
      unfolding reach_ends
      near_word =
          entry_word_lem 2 (reach_words S i order) reached reach_length front (reach_word (held_count front)) (entry_word (held_count front) (owned_count front))
          (owned_in S i) near_ends reach_word_lem l h k

      pub entry_back : (t : ℕ) → t < length (reach_of S i order l)
          → entry_at front (reach_ends S i order (l - 1) + t) ≡ to_local (get_or (reach_of S i order l) t (record { cell = 0; layer = 0 }))
      unfolding reach_words
      entry_back t q =
          let at : ℕ = entry_word (held_count front) (owned_count front) in
          let u : ℕ = 2 * (reach_ends S i order (l - 1) + t) in
          let d : Near = record { cell = 0; layer = 0 } in
          let r = pairs_at (λ e. local_of order e.cell) (λ e. e.layer) (reach_of S i order l) t d q in
          let p : at + u ≡ at + (u + 0) = omega arith in
          let s : at + u + 1 ≡ at + (u + 1) = omega arith in
          let z : 2 * t + 0 ≡ 2 * t = omega arith in
          let a : word_at front (at + u) ≡ local_of order (get_or (reach_of S i order l) t d).cell =
          ap (word_at front) p ∙ near_word t 0 q (omega arith) ∙ ap (λ x. get_or (reach_words S i order l) x 0) z ∙ r.0 in
          let c : word_at front (at + u + 1) ≡ (get_or (reach_of S i order l) t d).layer =
          ap (word_at front) s ∙ near_word t 1 q (omega arith) ∙ r.1 in
          λ j. record { local = a j; layer = c j }

      pub reach_back : local_reach front l ≡ map to_local (reach_of S i order l)
      unfolding local_reach reach_ends
      reach_back =
          let d : Near = record { cell = 0; layer = 0 } in
          row_back 2 (reach_words S i order) reached reach_length front (reach_word (held_count front)) (entry_word (held_count front) (owned_count front))
          (owned_in S i) near_ends reach_word_lem l h k
          (entry_at front) (map to_local (reach_of S i order l)) (to_local d) (length-map (reach_of S i order l) to_local)
          (λ t q. entry_back t q ∙ sym (get_or_map_any to_local (reach_of S i order l) t d (to_local d) q))

    module _ (j : ℕ) (h : 1 ≤ j) (k : j ≤ most_parts) where
      sent_ends : (m : ℕ) → m ≤ most_parts → export_end front m ≡ total 1 m sent
      unfolding export_ends
      sent_ends = export_back

      pub exports_back : local_exports front j ≡ map (local_of order) (exports S i j)
      unfolding local_exports export_words
      exports_back =
          let at : ℕ = exports_word (held_count front) (owned_count front) (reach_count front) in
          row_back 1 (export_words S i order) sent export_length front export_word at most_parts sent_ends export_word_lem j h k (export_at front) (export_words S i order j) 0
          (length-map (exports S i j) (local_of order))
          (λ t q.
          let e : at + (total 1 (j - 1) sent + t) ≡ at + (1 * (total 1 (j - 1) sent + t) + 0) = omega arith in
          let z : 1 * t + 0 ≡ t = omega arith in
          ap (word_at front) e
          ∙ entry_word_lem 1 (export_words S i order) sent export_length front export_word at most_parts sent_ends export_word_lem j h k t 0 q (omega arith)
          ∙ ap (λ x. get_or (export_words S i order j) x 0) z)

  -- ---- the weights

  module _ (rule : bad11 kind n v ≡ false) (short : n ≤ most_steps) where
    rule_parts : (length v ≡ 2 * weight_count kind n) × (some 0 (weight_count kind n) (too_heavy v) ≡ false)
    unfolding bad11
    rule_parts =
        let a = ltb 2 kind in
        let b = not (eqb (length v) (2 * weight_count kind n)) in
        let c = some 0 (weight_count kind n) (too_heavy v) in
        let d = eqb kind 1 && eqb (word_at v 0) 0 in
        let p = or_false (a || b || c) d rule in
        let q = or_false (a || b) c p.0 in
        let r = or_false a b q.0 in
        (eqb-true _ _ (not-false _ r.1), q.1)

    few_weights : weight_count kind n ≤ 5
    unfolding weight_count
    few_weights = go (eqb kind 1)
      where
        go : (b : Bool) → cond b (n / 2 + 1) 0 ≤ 5
        go true = omega arith
        go false = omega arith

    light : (k : ℕ) → k < weight_count kind n → word v (2 * k) ≤ most_weight
    unfolding too_heavy word_at
    light k h =
        let e : 0 + k ≡ k = omega arith in
        ltb-false most_weight (word_at v k) (subst (λ x. ltb most_weight (word_at v x) ≡ false) e (some_at 0 (too_heavy v) (weight_count kind n) k rule_parts.1 h))

    -- all regions but the first
    abbrev behind : List ℕ
    behind = joined (drop 1 regions)

    behind_long : 5 ≤ length behind
    unfolding lists_regions
    behind_long = omega (arith, joined_length (drop 1 regions), weights_long)

    weight_word : (k : ℕ) → k < weight_count kind n → get_or behind k 0 ≡ word v (2 * k)
    unfolding word_at lists_regions
    weight_word k h =
        let q : k < 5 = omega (arith, few_weights) in
        let z : k ≡ 0 + k = omega arith in
        ap (λ x. get_or behind x 0) z ∙ joined_at (drop 1 regions) 0 k 0 (omega (arith, weights_long)) ∙ listed_at 0 (word_at v) 5 k 0 q ∙ ap (word_at v) (zero-add k)

    weight_byte : (x : ℕ) → x < 2 * weight_count kind n → byte_at (bytes_of behind) x ≡ byte_at v x
    unfolding word
    weight_byte = bytes_of_read behind v (weight_count kind n) (omega (arith, behind_long, few_weights)) (λ k q. (weight_word k q, omega (arith, light k q)))

    pub weights_back : weights front ≡ v
    unfolding weights lists_regions joined
    weights_back =
        let hd : List ℕ = lists_long S i order ∷ i ∷ n ∷ kind ∷ [] in
        let lh : length (bytes_of hd) ≡ 8 = length_bytes_of hd in
        let d : drop weights_place front ≡ bytes_of behind = ap (λ b. drop weights_place b) (bytes_of_append hd behind) ∙ drop_at (bytes_of hd) (bytes_of behind) 8 lh in
        let m : length (take (2 * weight_count kind n) (bytes_of behind)) ≡ 2 * weight_count kind n =
        length-take-le (2 * weight_count kind n) (bytes_of behind) (omega (arith, length_bytes_of behind, behind_long, few_weights)) in
        ap₂ (λ a c. take (2 * weight_count a c) (drop weights_place front)) kind_back steps_back
        ∙ ap (λ b. take (2 * weight_count kind n) b) d
        ∙ ext_get_or 0 (take (2 * weight_count kind n) (bytes_of behind)) v (m ∙ sym rule_parts.0)
        (λ x h. let q : x < 2 * weight_count kind n = omega arith in get_or-take (2 * weight_count kind n) (bytes_of behind) x 0 q ∙ weight_byte x q)

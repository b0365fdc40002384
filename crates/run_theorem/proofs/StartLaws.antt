-- What an accepted start says of its inputs and leaves: the lists of all parts are as a run needs them, and each state begins right.
-- Assumes nothing.
use Rattle.std.proofs.Math.Path.{◌≡◌, sym, ap, ap₂, subst}
use Rattle.std.proofs.Common.{◌∙◌, inl, inr, ⊎_elim, add-zero, length-append, eq-eqb, ltb-false}
use Rattle.std.specs.Prelude.{◌⊎◌, false, take, drop, replicate}
use Rattle.std.proofs.Math.Bool.{cond}
use mathlib.Core.List.{List, ◌++◌, map, append_assoc, [], ◌∷◌}
use Prim.Native.Nat.{ℕ, ◌+◌, ◌-◌, ◌*◌, ◌/◌, ◌%◌, ◌<◌, ◌≤◌}
use native.Mathlib.Omega.{arith}
use Rattle.std.proofs.Math.ListN.{length, get_or, length-replicate, get_or-replicate, get_or-append}
use Rattle.std.proofs.Math.Seq.{get_or-append-add, take-append_seam}
use Rattle.vocabulary.specs.Bytes.{Bytes, byte_at, over}
use Rattle.vocabulary.proofs.ByteLaws.{over_front}
use Rattle.vocabulary.specs.Lists.{All, joined}
use Rattle.vocabulary.proofs.ListLaws.{All_map, All_get_or, map_cong, map_map, get_or_map_any, At, All_of_map, map_id}
use Rattle.vocabulary.specs.Intervals.{blocks, total}
use Rattle.vocabulary.proofs.IntervalLaws.{total_last}
use Rattle.vocabulary.specs.Tests.{Test, refuse}
use Rattle.vocabulary.proofs.TestLaws.{passed_by, passed_append}
use Rattle.layout.specs.Words.{word, word_bytes}
use Rattle.layout.proofs.WordLaws.{word_at_first, length_word_bytes}
use Rattle.layout.specs.Limits.{most_parts, most_steps}
use Rattle.depths.specs.Depths.{four}
use Rattle.depths.proofs.DepthLaws.{length_four, four_left, four_past, fours_length, fours_at}
use Rattle.mesh.specs.Mesh.{top, cell_count, mesh_number}
use Rattle.mesh.specs.Walks.{Near, steps, bad10}
use Rattle.mesh.proofs.WalkLaws.{steps_few}
use Rattle.round_rule.specs.Rules.{new_depth, bad11}
use Rattle.round.specs.Rounds.{scheme_of, depth_in, undivided, bad14}
use Rattle.split.specs.Split.{Split, split_of, imports, exports, locals, local_of, global_of}
use Rattle.split.specs.Lists.{size_tests, split_in}
use Rattle.split.proofs.SplitLaws.{split_parted, split_fine, sizes_parted, map_facts, split_reach, split_owner, SplitCell, order_length, own_is, own_has}
use Rattle.split.proofs.SplitLaws.{own_local, local_back, own_first, import_own, import_at, import_fits, local_cases, reach_held, import_total, own_cells}
use Rattle.split.proofs.SplitLaws.{own_count}
use Rattle.part_state.specs.State.{LocalNear, Lists, lists_in, dynamic, round_at, taken_place, depth_place, state_length}
use Rattle.part_start_plan.specs.Start.{owned_in, import_ends, lists_regions, state_size, first_state, last_tests, start_number, start_state, Inputs, scheme_in}
use Rattle.run_theorem.proofs.FormLaws.{front, words_length, front_length, part_back, kind_back, first_back, cells_back, owned_back, held_back, global_back}
use Rattle.run_theorem.proofs.FormLaws.{import_back, reach_back, exports_back, weights_back}
use Rattle.run_theorem.specs.Run.{owner_in}
use Rattle.run_theorem.proofs.RunLaws.{Part, Parted, Block, Good, globally}
use Rattle.run_theorem.proofs.WorldLaws.{owner_of}

-- ---- what an accepted start says of its inputs

pub record Ready (I : Inputs) : Type 0 where
  pub mesh_good : mesh_number I.split.mesh ≡ 0
  pub few_parts : I.split.parts ≤ most_parts
  pub owners_in : (k : ℕ) → k < cell_count I.split.mesh → (1 ≤ owner_in I k) × (owner_in I k ≤ I.split.parts)
  pub stencil_good : bad10 (top I.split.mesh) I.split.stencil ≡ false
  pub short : steps I.split.stencil ≤ most_steps
  pub rule : bad11 I.rule.kind (steps I.split.stencil) I.rule.weights ≡ false
  pub field_good : bad14 (cell_count I.split.mesh) I.field ≡ false

pub record Begun (I : Inputs) (i : ℕ) (buffer : Bytes) : Type 0 where
  pub inputs : Ready I
  pub part : Part I.split.parts i
  pub room : state_size I.split i ≤ length buffer

pub started_facts : (I : Inputs) (i : ℕ) (buffer : Bytes) → start_number I i buffer ≡ 0 → Begun I i buffer
unfolding start_number
started_facts I i buffer e =
    let m : Bytes = I.split.mesh in
    let st : Bytes = I.split.stencil in
    let last : List Test = last_tests I i buffer in
    let later : List Test = size_tests I.split ++ last in
    let eleven : Test = refuse 11 (bad11 I.rule.kind (steps st) I.rule.weights) in
    let p = split_parted m I.split.parts I.split.owners (i ∷ []) st (eleven ∷ later) e in
    let q = passed_append (eleven ∷ []) later tt p.1 in
    let z = sizes_parted m I.split.parts I.split.owners st last q.1 in
    let a = split_fine m I.split.parts I.split.owners (i ∷ []) st p.0 in
    let b = map_facts m I.split.parts I.split.owners (i ∷ []) a.map in
    record {
      inputs = record {
        mesh_good = a.mesh;
        few_parts = b.few;
        owners_in = b.owner_in;
        stencil_good = a.stencil;
        short = steps_few (top m) st a.stencil;
        rule = passed_by 11 (eleven ∷ []) tt q.0;
        field_good = passed_by 14 last tt z.1;
      };
      part = b.named_in.0;
      room = ltb-false _ _ (passed_by 16 last tt z.1);
    }

-- ---- the lists of all parts are as a run needs them

abbrev pub order_in : Inputs → ℕ → List ℕ
order_in I i = locals (split_in I.split) i

-- the bytes of the lists of part i
abbrev pub front_in : Inputs → ℕ → Bytes
front_in I i = front (split_in I.split) i (locals (split_in I.split) i) (steps I.split.stencil) I.rule.kind I.rule.weights

module _ (I : Inputs) (R : Ready I) where
  pub reach_inside : (c : ℕ) → SplitCell (split_in I.split) c → All (λ e. SplitCell (split_in I.split) e.cell) ((split_in I.split).reach c)
  reach_inside = split_reach I.split.mesh I.split.parts I.split.owners I.split.stencil

  pub owner_inside : (c : ℕ) → SplitCell (split_in I.split) c → (1 ≤ (split_in I.split).owner c) × ((split_in I.split).owner c ≤ (split_in I.split).parts)
  owner_inside = split_owner I.split.mesh I.split.parts I.split.owners I.split.stencil R.owners_in

  split_few : (split_in I.split).parts ≤ most_parts
  unfolding split_of
  split_few = R.few_parts

  -- the table of imports ends with all held cells
  pub order_full : (i : ℕ) → import_ends (split_in I.split) i (order_in I i) most_parts ≡ length (order_in I i)
  unfolding import_ends
  order_full i =
      ap (λ n. owned_in (split_in I.split) i + n) (import_total (split_in I.split) reach_inside owner_inside i split_few) ∙ sym (order_length (split_in I.split) i)

  module _ (i : ℕ) where
    abbrev S : Split
    S = split_in I.split

    abbrev order : List ℕ
    order = locals (split_in I.split) i

    abbrev L : Lists
    L = lists_in (front_in I i)

    pub lists_owned : L.owned ≡ owned_in S i
    unfolding lists_in
    lists_owned = owned_back S i order (steps I.split.stencil) I.rule.kind I.rule.weights

    pub lists_held : L.held ≡ length order
    unfolding lists_in
    lists_held = held_back S i order (steps I.split.stencil) I.rule.kind I.rule.weights (order_full i)

    owned_held : owned_in S i ≤ length order
    owned_held = omega (arith, order_length S i)

    pub lists_global : (l : ℕ) → 1 ≤ l → l ≤ length order → L.global l ≡ global_of order l
    unfolding lists_in
    lists_global l h k = global_back S i order (steps I.split.stencil) I.rule.kind I.rule.weights l h k

    pub lists_reach : (l : ℕ) → 1 ≤ l → l ≤ owned_in S i
        → L.reach l ≡ map (λ e. record { local = local_of order e.cell; layer = e.layer }) (S.reach (global_of order l))
    unfolding lists_in
    lists_reach l h k = reach_back S i order (steps I.split.stencil) I.rule.kind I.rule.weights (order_full i) l h k

    pub lists_before : (j : ℕ) → 1 ≤ j → j ≤ most_parts → L.before j ≡ owned_in S i + total 1 (j - 1) (λ k. length (imports S i k))
    unfolding lists_in import_ends
    lists_before j h k = import_back S i order (steps I.split.stencil) I.rule.kind I.rule.weights (j - 1) (omega arith)

    pub lists_imported : (j : ℕ) → 1 ≤ j → j ≤ most_parts → L.imported j ≡ length (imports S i j)
    unfolding lists_in import_ends
    lists_imported j h k =
        let t : total 1 j (λ k. length (imports S i k)) ≡ total 1 (j - 1) (λ k. length (imports S i k)) + length (imports S i j) = total_last (λ k. length (imports S i k)) j h in
        omega (
          arith,
          import_back S i order (steps I.split.stencil) I.rule.kind I.rule.weights (j - 1) (omega arith),
          import_back S i order (steps I.split.stencil) I.rule.kind I.rule.weights j k,
        )

    pub lists_exports : (j : ℕ) → 1 ≤ j → j ≤ most_parts → L.exports j ≡ map (local_of order) (exports S i j)
    unfolding lists_in
    lists_exports j h k = exports_back S i order (steps I.split.stencil) I.rule.kind I.rule.weights (order_full i) j h k

    pub lists_new : L.new ≡ new_depth I.rule.kind I.rule.weights
    unfolding lists_in
    lists_new =
        ap₂ new_depth (kind_back S i order (steps I.split.stencil) I.rule.kind I.rule.weights)
        (weights_back S i order (steps I.split.stencil) I.rule.kind I.rule.weights R.rule R.short)

    -- an owned cell
    owned_is : (l : ℕ) → 1 ≤ l → l ≤ L.owned → SplitCell S (L.global l) × (S.owner (L.global l) ≡ i)
    owned_is l h k =
        let q : l ≤ owned_in S i = omega (arith, lists_owned) in
        subst (λ c. SplitCell S c × (S.owner c ≡ i)) (sym (lists_global l h (omega (arith, owned_held)))) (own_is S i l h q)

    owned_reach : (l : ℕ) → 1 ≤ l → l ≤ L.owned → All (λ e. At e.cell order) (S.reach (global_of order l))
    owned_reach l h k =
        let q : l ≤ owned_in S i = omega (arith, lists_owned) in
        let o = own_is S i l h q in
        reach_held S reach_inside owner_inside i (global_of order l) o.0 o.1

    lists_near_held : (l : ℕ) → 1 ≤ l → l ≤ L.owned → All (λ e. (1 ≤ e.local) × (e.local ≤ L.held)) (L.reach l)
    lists_near_held l h k =
        let q : l ≤ owned_in S i = omega (arith, lists_owned) in
        let f : Near → LocalNear = λ e. record { local = local_of order e.cell; layer = e.layer } in
        let es : List Near = S.reach (global_of order l) in
        subst (All (λ e. (1 ≤ e.local) × (e.local ≤ L.held))) (sym (lists_reach l h q))
        (All_of_map (λ e. (1 ≤ e.local) × (e.local ≤ L.held)) f es
        (All_map es (λ x a. let b = local_back S i x.cell a in (b.0, omega (arith, b.1, lists_held))) (owned_reach l h k)))

    lists_near_is : (l : ℕ) → 1 ≤ l → l ≤ L.owned → map (globally L) (L.reach l) ≡ S.reach (L.global l)
    lists_near_is l h k =
        let q : l ≤ owned_in S i = omega (arith, lists_owned) in
        let f : Near → LocalNear = λ e. record { local = local_of order e.cell; layer = e.layer } in
        let es : List Near = S.reach (global_of order l) in
        ap (map (globally L)) (lists_reach l h q)
        ∙ map_map (globally L) f es
        ∙ map_cong (λ e. globally L (f e)) (λ e. e) es
        (All_map es
        (λ x a.
        let b = local_back S i x.cell a in
        ap (λ c. record { cell = c; layer = x.layer }) (lists_global (local_of order x.cell) b.0 b.1 ∙ b.2))
        (owned_reach l h k))
        ∙ map_id es
        ∙ ap S.reach (sym (lists_global l h (omega (arith, owned_held))))

    lists_covered : (l : ℕ) → 1 ≤ l → l ≤ L.held → (l ≤ L.owned) ⊎ Block L l
    lists_covered l h k =
        ⊎_elim
        (λ o. inl (omega (arith, lists_owned)))
        (λ b.
        let few : b.0 ≤ most_parts = omega (arith, b.2, split_few) in
        inr (record {
          from = b.0;
          from_least = b.1;
          from_most = few;
          at = b.3.0;
          at_lt = omega (arith, b.3.1, lists_imported b.0 b.1 few);
          is = omega (arith, b.3.2, lists_before b.0 b.1 few);
        }))
        (local_cases S i l h (omega (arith, lists_held)))

    lists_export_at : (j t : ℕ) → 1 ≤ j → j ≤ most_parts → t < length (imports S j i) → get_or (L.exports j) t 0 ≡ local_of order (get_or (imports S j i) t 0)
    unfolding exports
    lists_export_at j t h k l = ap (λ xs. get_or xs t 0) (lists_exports j h k) ∙ get_or_map_any (local_of order) (imports S j i) t 0 0 l

    pub local_least : (c : ℕ) → 1 ≤ local_of order c
    unfolding local_of
    local_least c = omega arith

    lists_exported : (j : ℕ) → 1 ≤ j → j ≤ most_parts → All (λ l. (1 ≤ l) × (l ≤ L.owned)) (L.exports j)
    unfolding exports
    lists_exported j h k =
        subst (All (λ l. (1 ≤ l) × (l ≤ L.owned))) (sym (lists_exports j h k))
        (All_of_map (λ l. (1 ≤ l) × (l ≤ L.owned)) (local_of order) (exports S i j)
        (All_map (exports S i j) (λ c a. (local_least c, omega (arith, (own_local S i c a).0, lists_owned))) (import_own S j i)))

    -- the t-th cell imported from j is the t-th that j exports here
    lists_import : (j t : ℕ) → 1 ≤ j → j ≤ I.split.parts → t < L.imported j → L.global (L.before j + 1 + t) ≡ get_or (imports S i j) t 0
    unfolding split_of
    lists_import j t h k l =
        let few : j ≤ most_parts = omega (arith, R.few_parts) in
        let q : t < length (imports S i j) = omega (arith, lists_imported j h few) in
        let e : L.before j + 1 + t ≡ owned_in S i + total 1 (j - 1) (λ k. length (imports S i k)) + 1 + t = omega (arith, lists_before j h few) in
        let n : ℕ = owned_in S i + total 1 (j - 1) (λ k. length (imports S i k)) + 1 + t in
        ap L.global e
        ∙ lists_global n (omega arith) (import_fits S i j t h k q)
        ∙ import_at S i j t h k q

  pub parted : Parted (scheme_in I) (owner_of I) I.split.parts (λ i. lists_in (front_in I i))
  unfolding scheme_of split_of
  parted = record {
    part_is = λ i p. unfold lists_in in (part_back (split_in I.split) i (order_in I i) (steps I.split.stencil) I.rule.kind I.rule.weights);
    first_is = λ i p. unfold lists_in in (first_back (split_in I.split) i (order_in I i) (steps I.split.stencil) I.rule.kind I.rule.weights);
    cells_are = λ i p. unfold lists_in in (cells_back (split_in I.split) i (order_in I i) (steps I.split.stencil) I.rule.kind I.rule.weights);
    new_is = λ i p. lists_new i;
    owned_cell = λ i p l h k. (owned_is i l h k).0;
    owned_owner = λ i p l h k. (owned_is i l h k).1;
    holder = λ i p c h e.
        let a = own_has (split_in I.split) i c h e in
        let q : a.place + 1 ≤ owned_in (split_in I.split) i = omega (arith, a.place_lt, own_count (split_in I.split) i) in
        let z : a.place + 1 - 1 ≡ a.place = omega arith in (
          a.place + 1,
          omega arith,
          omega (arith, lists_owned i),
          lists_global i (a.place + 1) (omega arith) (omega (arith, owned_held i))
              ∙ own_first (split_in I.split) i (a.place + 1) (omega arith) q
              ∙ ap (λ n. get_or (own_cells (split_in I.split) i) n 0) z
              ∙ a.place_is,
        );
    near_held = λ i p. lists_near_held i;
    near_is = λ i p. lists_near_is i;
    covered = λ i p. lists_covered i;
    exported = λ i p. lists_exported i;
    agree = λ i j t p q l.
        let few : j ≤ most_parts = omega (arith, q.1, R.few_parts) in
        let one : i ≤ most_parts = omega (arith, p.1, R.few_parts) in
        let lt : t < length (imports (split_in I.split) i j) = omega (arith, lists_imported i j q.0 few) in
        let c : ℕ = get_or (imports (split_in I.split) i j) t 0 in
        let a = All_get_or (λ c. At c (own_cells (split_in I.split) j)) (imports (split_in I.split) i j) t 0 (import_own (split_in I.split) i j) lt in
        let b = own_local (split_in I.split) j (get_or (imports (split_in I.split) i j) t 0) a in
        lists_import i j t q.0 q.1 l
        ∙ sym (ap (lists_in (front_in I j)).global (lists_export_at j i t p.0 one lt)
        ∙ lists_global j (local_of (order_in I j) c) (local_least j c) (omega (arith, b.0, owned_held j))
        ∙ b.1);
  }

-- ---- a state as start leaves it

module _ (I : Inputs) (i : ℕ) where
  abbrev depth_of_local : ℕ → Bytes
  depth_of_local l = depth_in (scheme_in I) I.field (global_of (order_in I i) l)

  abbrev pub deep : Bytes
  deep = blocks 1 (length (order_in I i)) (λ l. depth_in (scheme_in I) I.field (global_of (order_in I i) l))

  pub deep_length : length deep ≡ 4 * length (order_in I i)
  unfolding depth_in
  deep_length = fours_length 1 (length (order_in I i)) depth_of_local (λ j h. length_four I.field _)

  module _ (tail : Bytes) where
    -- behind the lists: the round, what is taken, what is written, the depths; and what is left of the buffer
    abbrev flags : Bytes
    flags = replicate most_parts 0 ++ (replicate most_parts 0 ++ (deep ++ tail))

    abbrev behind : Bytes
    behind = word_bytes 0 ++ flags

    abbrev pub state_of : Bytes
    state_of = front_in I i ++ (word_bytes 0 ++ (replicate most_parts 0 ++ (replicate most_parts 0 ++ (deep ++ tail))))

    pub state_length_lem : length state_of ≡ state_length (length (front_in I i)) (length (order_in I i)) + length tail
    state_length_lem =
        omega (
          arith,
          length-append (front_in I i) behind,
          length-append (word_bytes 0) flags,
          length_word_bytes 0,
          length-append (replicate 32 0) (deep ++ tail),
          length-replicate {A = ℕ} 32 0,
          length-append deep tail,
          deep_length,
        )

    pub state_dynamic : dynamic state_of ≡ length (front_in I i)
    unfolding lists_regions joined
    state_dynamic =
        let ws : List ℕ = joined (lists_regions (split_in I.split) i (order_in I i) (steps I.split.stencil) I.rule.kind I.rule.weights) in
        ap (λ n. 2 * n)
        (word_at_first ws behind 0 (omega (arith, words_length (split_in I.split) i (order_in I i) (steps I.split.stencil) I.rule.kind I.rule.weights)))
        ∙ sym (front_length (split_in I.split) i (order_in I i) (steps I.split.stencil) I.rule.kind I.rule.weights)

    pub state_front : take (length (front_in I i)) state_of ≡ front_in I i
    state_front = take-append_seam (front_in I i) behind

    -- round 0, and no flag set
    pub state_round : round_at state_of (length (front_in I i)) ≡ 0
    unfolding word word_bytes
    state_round =
        let a : byte_at state_of (length (front_in I i)) ≡ 0 / 256 =
        ap (λ n. byte_at state_of n) (sym (add-zero (length (front_in I i)))) ∙ get_or-append-add (front_in I i) behind 0 0 in
        let c : byte_at state_of (length (front_in I i) + 1) ≡ 0 % 256 = get_or-append-add (front_in I i) behind 1 0 in
        omega (arith, a, c)

    pub state_flag : (k : ℕ) → k < 32 → byte_at state_of (length (front_in I i) + (2 + k)) ≡ 0
    unfolding word_bytes
    state_flag k h =
        get_or-append-add (front_in I i) behind (2 + k) 0
        ∙ get_or-append-add (word_bytes 0) flags k 0
        ∙ get_or-append (replicate 32 0) (deep ++ tail) 0 k (omega (arith, length-replicate {A = ℕ} 32 0))
        ∙ get_or-replicate 32 k 0 0 h

    pub state_depth : (l : ℕ) → 1 ≤ l → l ≤ length (order_in I i)
        → four state_of (depth_place (length (front_in I i)) l) ≡ depth_in (scheme_in I) I.field (global_of (order_in I i) l)
    unfolding depth_in word_bytes
    state_depth l h k =
        let q : depth_place (length (front_in I i)) l ≡ length (front_in I i) + (2 + (32 + 4 * (l - 1))) = omega arith in
        let p : 1 + (l - 1) ≡ l = omega arith in
        let z : ◌≡◌ {A = ℕ} 32 (length (replicate {A = ℕ} 32 0)) = sym (length-replicate {A = ℕ} 32 0) in
        ap (four state_of) q
        ∙ four_past (front_in I i) behind (2 + (32 + 4 * (l - 1)))
        ∙ four_past (word_bytes 0) flags (32 + 4 * (l - 1))
        ∙ ap (λ n. four flags (n + 4 * (l - 1))) z
        ∙ four_past (replicate 32 0) (deep ++ tail) (4 * (l - 1))
        ∙ four_left deep tail (4 * (l - 1)) (omega (arith, deep_length))
        ∙ fours_at 1 (length (order_in I i)) depth_of_local (λ j h. length_four I.field _) (l - 1) (omega arith)
        ∙ ap depth_of_local p

  -- start leaves it, and after it the rest of the buffer
  pub start_is : (buffer : Bytes) → start_number I i buffer ≡ 0
      → start_state I i buffer ≡ state_of (drop (length (first_state I i)) buffer)
  unfolding start_state start_number first_state
  start_is buffer e =
      let first : Bytes = first_state I i in
      ap (λ t. cond t (over buffer 0 first) buffer) (eq-eqb _ 0 e)
      ∙ over_front buffer first
      ∙ simp append_assoc

  pub begin_good : (R : Ready I) (tail : Bytes) → Good (scheme_in I) I.field (lists_in (front_in I i)) (front_in I i) (length (front_in I i)) 0 (state_of tail)
  unfolding undivided
  begin_good R tail = record {
    place_is = state_dynamic tail;
    front_is = state_front tail;
    round_is = state_round tail;
    owned = λ l h k.
        let q : l ≤ length (order_in I i) = omega (arith, lists_owned I R i, order_length (split_in I.split) i) in
        state_depth tail l h q ∙ ap (depth_in (scheme_in I) I.field) (sym (lists_global I R i l h q));
    took = λ j t h k e p.
        let z : taken_place (length (front_in I i)) j ≡ length (front_in I i) + (2 + (j - 1)) = omega arith in
        let n : ◌≡◌ {A = ℕ} 0 1 = sym (state_flag tail (j - 1) (omega arith)) ∙ ap (λ o. byte_at (state_of tail) o) (sym z) ∙ e in
        let no : ⊥ = omega arith in absurd no;
  }

-- Laws of the lists of the parts: where owned and imported cells stand in a part's local order, that all in the reach of an owned cell is held,
-- and how long the lists are. Assumes nothing.
use Rattle.std.specs.Prelude.{◌≡◌, ◌⊎◌, ◌≢◌, Bool, false, ◌&&◌, ◌||◌, T, ltb}
use Rattle.std.proofs.Math.Path.{refl, sym, ap, ap₂, subst}
use Rattle.std.proofs.Common.{◌∙◌, inl, inr}
use Rattle.std.proofs.Math.Bool.{true, not}
use mathlib.Core.List.{List, [], ◌++◌, append_assoc}
use Prim.Native.Nat.{ℕ, ◌+◌, ◌-◌, ◌<◌, ◌≤◌}
use native.Mathlib.Omega.{arith}
use Rattle.std.proofs.Math.Dec.{eqb}
use Rattle.std.proofs.Math.ListN.{length, get_or, length-append, get_or-append}
use Rattle.std.proofs.Math.Seq.{get_or-append-add}
use borrow.Author.Tests.{eqb-true, eqb-false, eq-eqb, ne_eqb, ltb-true, ltb-false, not-false, not-true}
use Rattle.vocabulary.specs.Bytes.{Bytes}
use Rattle.vocabulary.proofs.ByteLaws.{Place, below, inside as within, above, place}
use Rattle.vocabulary.specs.Lists.{All, some_of, every_of, place_of, repeats}
use Rattle.vocabulary.proofs.ListLaws.{repeats_none, repeats_once, and_true, and_intro, and_left, and_right, or_false, every_of_at, every_of_true, All_map}
use Rattle.vocabulary.proofs.ListLaws.{All_append, All_get_or, All_intro, At, at_left, at_right, place_of_is, place_of_left, not_both, same_test, some_of_has}
use Rattle.vocabulary.specs.Intervals.{is_up_to, picked, blocks, total}
use Rattle.vocabulary.proofs.IntervalLaws.{picked_all, picked_in, picked_passes, picked_none, picked_cong, picked_rises, blocks_all, blocks_cases, blocks_at}
use Rattle.vocabulary.proofs.IntervalLaws.{blocks_have, blocks_length, up_to_true, total_fit}
use Rattle.vocabulary.proofs.CountLaws.{picked_halves, total_short, picked_shared}
use Rattle.vocabulary.specs.Tests.{Test, first_of}
use Rattle.vocabulary.proofs.TestLaws.{numbered, numbered_append, small, small_append, passed_by, passed_append, first_of_after, first_of_left}
use Rattle.layout.specs.Limits.{most_parts}
use Rattle.mesh.specs.Mesh.{top, first_cell, cell_count, mesh_tests, mesh_number}
use Rattle.mesh.proofs.MeshLaws.{mesh_numbered, mesh_small, mesh_parted}
use Rattle.mesh.specs.Walks.{bad10, bad13, reach}
use Rattle.mesh.proofs.WalkLaws.{reach_in, reach_own}
use Rattle.split.specs.Split.{Split, split_of, owner_at, owns, owned, reaches, holds, held, imports, exports, inside, interior, halo, locals, local_of, global_of}
use Rattle.split.specs.Lists.{bad8, bad9, bad12, map_tests, split_tests, size_tests, split_number, sizes_number, split_input}

-- ---- the tests of a mesh, a part map and a stencil, so that no other crate opens their lists

-- none of the tests up to 10 holds
pub record Fine (m : Bytes) (parts : ℕ) (owners : Bytes) (named : List ℕ) (st : Bytes) : Type 0 where
  pub mesh : mesh_number m ≡ 0
  pub map : bad8 m parts owners named ≡ false
  pub shares : bad9 (split_of m parts owners st) ≡ false
  pub stencil : bad10 (top m) st ≡ false

module _ (m : Bytes) (parts : ℕ) (owners : Bytes) (named : List ℕ) (st : Bytes) where
  pub split_numbered : T (numbered (split_tests (split_input m parts owners st) named))
  unfolding split_tests
  split_numbered = numbered_append (mesh_tests m) (map_tests (split_input m parts owners st) named) (mesh_numbered m) tt

  pub split_small : small (split_tests (split_input m parts owners st) named) ≡ true
  unfolding split_tests
  split_small = small_append (mesh_tests m) (map_tests (split_input m parts owners st) named) (mesh_small m) refl

  pub split_fine : split_number m parts owners named st ≡ 0 → Fine m parts owners named st
  unfolding split_number split_tests
  split_fine e =
      let ts : List Test = map_tests (split_input m parts owners st) named in
      let p = mesh_parted m ts e in
      record { mesh = p.0; map = passed_by 8 ts tt p.1; shares = passed_by 9 ts tt p.1; stencil = passed_by 10 ts tt p.1 }

  -- tests that come after them
  module _ (us : List Test) where
    pub split_parted : first_of (split_tests (split_input m parts owners st) named ++ us) ≡ 0 → (split_number m parts owners named st ≡ 0) × (first_of us ≡ 0)
    unfolding split_number
    split_parted e = passed_append (split_tests (split_input m parts owners st) named) us split_numbered e

    pub split_then : split_number m parts owners named st ≡ 0 → first_of (split_tests (split_input m parts owners st) named ++ us) ≡ first_of us
    unfolding split_number
    split_then e = first_of_after (split_tests (split_input m parts owners st) named) us split_numbered e

    pub split_refuses : split_number m parts owners named st ≢ 0 → first_of (split_tests (split_input m parts owners st) named ++ us) ≡ split_number m parts owners named st
    unfolding split_number
    split_refuses n = first_of_left (split_tests (split_input m parts owners st) named) us n

module _ (m : Bytes) (parts : ℕ) (owners st : Bytes) where
  pub sizes_numbered : T (numbered (size_tests (split_input m parts owners st)))
  unfolding size_tests
  sizes_numbered = tt

  pub sizes_small : small (size_tests (split_input m parts owners st)) ≡ true
  unfolding size_tests
  sizes_small = refl

  pub sizes_fine : sizes_number m parts owners st ≡ 0 → (bad12 (split_of m parts owners st) ≡ false) × (bad13 m st ≡ false)
  unfolding sizes_number size_tests
  sizes_fine e = (passed_by 12 (size_tests (split_input m parts owners st)) tt e, passed_by 13 (size_tests (split_input m parts owners st)) tt e)

  module _ (us : List Test) where
    pub sizes_parted : first_of (size_tests (split_input m parts owners st) ++ us) ≡ 0 → (sizes_number m parts owners st ≡ 0) × (first_of us ≡ 0)
    unfolding sizes_number
    sizes_parted e = passed_append (size_tests (split_input m parts owners st)) us sizes_numbered e

    pub sizes_then : sizes_number m parts owners st ≡ 0 → first_of (size_tests (split_input m parts owners st) ++ us) ≡ first_of us
    unfolding sizes_number
    sizes_then e = first_of_after (size_tests (split_input m parts owners st)) us sizes_numbered e

    pub sizes_refuse : sizes_number m parts owners st ≢ 0 → first_of (size_tests (split_input m parts owners st) ++ us) ≡ sizes_number m parts owners st
    unfolding sizes_number
    sizes_refuse n = first_of_left (size_tests (split_input m parts owners st)) us n

-- ---- a split whose reaches stay among the cells and whose cells belong to its parts

-- a cell of the split
abbrev pub SplitCell : Split → ℕ → Type 0
SplitCell S c = (S.first ≤ c) × (c < S.first + S.cells)

-- the owned cells in local order
abbrev pub own_cells : Split → ℕ → List ℕ
own_cells S i = interior S i ++ halo S i

module _ (S : Split) where
  pub own_count : (i : ℕ) → length (own_cells S i) ≡ length (owned S i)
  unfolding interior halo owned
  own_count i = length-append (interior S i) (halo S i) ∙ sym (picked_halves S.first S.cells (owns S i) (inside S i))

  pub order_is : (i : ℕ) → locals S i ≡ own_cells S i ++ blocks 1 S.parts (imports S i)
  unfolding locals
  order_is i = sym (append_assoc (interior S i) (halo S i) (blocks 1 S.parts (imports S i)))

  pub order_length : (i : ℕ) → length (locals S i) ≡ length (owned S i) + total 1 S.parts (λ j. length (imports S i j))
  order_length i =
      ap length (order_is i)
      ∙ length-append (own_cells S i) (blocks 1 S.parts (imports S i))
      ∙ ap₂ ◌+◌ (own_count i) (blocks_length 1 (imports S i) S.parts)

  own_all : (i : ℕ) → All (λ c. SplitCell S c × (S.owner c ≡ i)) (own_cells S i)
  unfolding interior halo owns
  own_all i =
      All_append (λ c. SplitCell S c × (S.owner c ≡ i)) (interior S i) (halo S i)
      (picked_all S.first (λ c. eqb (S.owner c) i && inside S i c) (λ c. SplitCell S c × (S.owner c ≡ i)) S.cells
      (λ k h e. ((omega arith, omega arith), eqb-true (S.owner (S.first + k)) i (and_true (eqb (S.owner (S.first + k)) i) (inside S i (S.first + k)) e).0)))
      (picked_all S.first (λ c. eqb (S.owner c) i && not (inside S i c)) (λ c. SplitCell S c × (S.owner c ≡ i)) S.cells
      (λ k h e. ((omega arith, omega arith), eqb-true (S.owner (S.first + k)) i (and_true (eqb (S.owner (S.first + k)) i) (not (inside S i (S.first + k))) e).0)))

  pub own_first : (i l : ℕ) → 1 ≤ l → l ≤ length (owned S i) → global_of (locals S i) l ≡ get_or (own_cells S i) (l - 1) 0
  unfolding global_of
  own_first i l h k =
      ap (λ xs. get_or xs (l - 1) 0) (order_is i)
      ∙ get_or-append (own_cells S i) (blocks 1 S.parts (imports S i)) 0 (l - 1) (omega (arith, own_count i))

  -- the first local numbers are the owned cells'
  pub own_is : (i l : ℕ) → 1 ≤ l → l ≤ length (owned S i) → SplitCell S (global_of (locals S i) l) × (S.owner (global_of (locals S i) l) ≡ i)
  own_is i l h k =
      subst (λ c. SplitCell S c × (S.owner c ≡ i)) (sym (own_first i l h k))
      (All_get_or (λ c. SplitCell S c × (S.owner c ≡ i)) (own_cells S i) (l - 1) 0 (own_all i) (omega (arith, own_count i)))

  pub own_has : (i c : ℕ) → SplitCell S c → S.owner c ≡ i → At c (own_cells S i)
  unfolding interior halo owns
  own_has i c h e = go (inside S i c) refl
    where
      mine : eqb (S.owner c) i ≡ true
      mine = eq-eqb (S.owner c) i e

      go : (b : Bool) → inside S i c ≡ b → At c (own_cells S i)
      go true q =
          at_left c (interior S i) (halo S i)
          (picked_in S.first (λ c. eqb (S.owner c) i && inside S i c) S.cells c h.0 h.1 (and_intro (eqb (S.owner c) i) (inside S i c) mine q))
      go false q =
          at_right c (interior S i) (halo S i)
          (picked_in S.first (λ c. eqb (S.owner c) i && not (inside S i c)) S.cells c h.0 h.1
          (and_intro (eqb (S.owner c) i) (not (inside S i c)) mine (ap not q)))

  -- an owned cell's local number, and back
  pub own_local : (i c : ℕ) → At c (own_cells S i) → (local_of (locals S i) c ≤ length (owned S i)) × (global_of (locals S i) (local_of (locals S i) c) ≡ c)
  unfolding local_of global_of
  own_local i c a =
      let e : place_of c (locals S i) ≡ place_of c (own_cells S i) =
      ap (place_of c) (order_is i) ∙ place_of_left c (own_cells S i) (blocks 1 S.parts (imports S i)) a in
      let p = place_of_is c (own_cells S i) a in
      let t = place_of_is c (own_cells S i ++ blocks 1 S.parts (imports S i)) (at_left c (own_cells S i) (blocks 1 S.parts (imports S i)) a) in
      let s : place_of c (locals S i) + 1 - 1 ≡ place_of c (locals S i) = omega arith in (
        omega (arith, p.0, own_count i),
        ap (λ n. get_or (locals S i) n 0) s ∙ subst (λ xs. get_or xs (place_of c xs) 0 ≡ c) (sym (order_is i)) t.1,
      )

  -- a local number, and back
  pub local_back : (i c : ℕ) → At c (locals S i) → (1 ≤ local_of (locals S i) c) × (local_of (locals S i) c ≤ length (locals S i)) × (global_of (locals S i) (local_of (locals S i) c) ≡ c)
  unfolding local_of global_of
  local_back i c a =
      let p = place_of_is c (locals S i) a in
      let s : place_of c (locals S i) + 1 - 1 ≡ place_of c (locals S i) = omega arith in
      (omega arith, omega (arith, p.0), ap (λ n. get_or (locals S i) n 0) s ∙ p.1)

  -- no owned cell stands twice, so a local number comes back as it was
  own_once : (i : ℕ) → repeats (own_cells S i) ≡ false
  unfolding interior halo
  own_once i = repeats_none (own_cells S i) (λ k l h q e. go k l h q e (place (length (interior S i)) (length (halo S i)) k) (place (length (interior S i)) (length (halo S i)) l))
    where
      in_first : (k : ℕ) → k < length (interior S i) → get_or (own_cells S i) k 0 ≡ get_or (interior S i) k 0
      in_first k h = get_or-append (interior S i) (halo S i) 0 k h

      in_second : (k t : ℕ) → k ≡ length (interior S i) + t → get_or (own_cells S i) k 0 ≡ get_or (halo S i) t 0
      in_second k t p = ap (λ n. get_or (own_cells S i) n 0) p ∙ get_or-append-add (interior S i) (halo S i) t 0

      go : (k l : ℕ) → k < l → l < length (own_cells S i) → get_or (own_cells S i) k 0 ≡ get_or (own_cells S i) l 0
          → Place (length (interior S i)) (length (halo S i)) k → Place (length (interior S i)) (length (halo S i)) l → ⊥
      go k l h q e (below a) (below b) =
          let r = picked_rises S.first (λ c. owns S i c && inside S i c) S.cells k l h b in
          omega (arith, in_first k a, in_first l b)
      go k l h q e (below a) (within t b p) =
          let x : ℕ = get_or (own_cells S i) k 0 in
          let u = picked_passes S.first (λ c. owns S i c && inside S i c) S.cells x (record { place = k; place_lt = a; place_is = sym (in_first k a) }) in
          let w = picked_passes S.first (λ c. owns S i c && not (inside S i c)) S.cells x (record { place = t; place_lt = b; place_is = sym (in_second l t p) ∙ sym e }) in
          not_both (inside S i x) (and_true (owns S i x) (inside S i x) u.2).1 (not-true (inside S i x) (and_true (owns S i x) (not (inside S i x)) w.2).1)
      go k l h q e (within s a o) (within t b p) =
          let r = picked_rises S.first (λ c. owns S i c && not (inside S i c)) S.cells s t (omega arith) b in
          omega (arith, in_second k s o, in_second l t p)
      go k l h q e (within s a o) (below b) = omega arith
      go k l h q e (above a) y = omega (arith, length-append (interior S i) (halo S i))
      go k l h q e (below a) (above b) = omega (arith, length-append (interior S i) (halo S i))
      go k l h q e (within s a o) (above b) = omega (arith, length-append (interior S i) (halo S i))

  pub own_number : (i l : ℕ) → 1 ≤ l → l ≤ length (owned S i) → local_of (locals S i) (global_of (locals S i) l) ≡ l
  unfolding local_of
  own_number i l h k =
      let q : l - 1 < length (own_cells S i) = omega (arith, own_count i) in
      let c : ℕ = get_or (own_cells S i) (l - 1) 0 in
      let a : At (get_or (own_cells S i) (l - 1) 0) (own_cells S i) = record { place = l - 1; place_lt = q; place_is = refl } in
      let p = place_of_is (get_or (own_cells S i) (l - 1) 0) (own_cells S i) a in
      let e : place_of (get_or (own_cells S i) (l - 1) 0) (own_cells S i) ≡ l - 1 = repeats_once (own_cells S i) _ (l - 1) (own_once i) p.0 q p.1 in
      let f : place_of (global_of (locals S i) l) (locals S i) ≡ place_of (get_or (own_cells S i) (l - 1) 0) (own_cells S i) =
      ap₂ place_of (own_first i l h k) (order_is i) ∙ place_of_left c (own_cells S i) (blocks 1 S.parts (imports S i)) a in
      omega arith

  -- all in the local order are cells
  pub order_cells : (i : ℕ) → All (λ c. SplitCell S c) (locals S i)
  unfolding imports
  order_cells i =
      subst (All (λ c. SplitCell S c)) (sym (order_is i))
      (All_append (λ c. SplitCell S c) (own_cells S i) (blocks 1 S.parts (imports S i)) (All_map (own_cells S i) (λ c h. h.0) (own_all i))
      (blocks_all 1 (imports S i) (λ c. SplitCell S c) S.parts
      (λ j h. picked_all S.first (λ c. not (eqb i (1 + j)) && owns S (1 + j) c && holds S i c) (λ c. SplitCell S c) S.cells (λ k q e. (omega arith, omega arith)))))

  -- a cell that is imported from j belongs to j, which is another part, and is held; and every such cell is imported
  pub import_facts : (i j c : ℕ) → At c (imports S i j) → SplitCell S c × (i ≢ j) × (S.owner c ≡ j) × (holds S i c ≡ true)
  unfolding imports owns
  import_facts i j c a =
      let w = picked_passes S.first (λ c. not (eqb i j) && eqb (S.owner c) j && holds S i c) S.cells c a in
      let u = and_true (not (eqb i j) && eqb (S.owner c) j) (holds S i c) w.2 in
      let v = and_true (not (eqb i j)) (eqb (S.owner c) j) u.0 in
      ((w.0, w.1), eqb-false i j (not-true _ v.0), eqb-true _ j v.1, u.1)

  pub import_has : (i j c : ℕ) → SplitCell S c → i ≢ j → S.owner c ≡ j → holds S i c ≡ true → At c (imports S i j)
  unfolding imports owns
  import_has i j c h ne o e =
      picked_in S.first (λ c. not (eqb i j) && eqb (S.owner c) j && holds S i c) S.cells c h.0 h.1
      (and_intro (not (eqb i j) && eqb (S.owner c) j) (holds S i c) (and_intro (not (eqb i j)) (eqb (S.owner c) j) (ap not (ne_eqb i j ne)) (eq-eqb (S.owner c) j o)) e)

  -- so the exporter owns them
  pub import_own : (i j : ℕ) → All (λ c. At c (own_cells S j)) (imports S i j)
  import_own i j =
      All_intro (λ c. At c (own_cells S j)) (imports S i j) 0
      (λ t h. let f = import_facts i j (get_or (imports S i j) t 0) (record { place = t; place_lt = h; place_is = refl }) in own_has j (get_or (imports S i j) t 0) f.0 f.2)

  -- the t-th cell imported from part j
  pub import_at : (i j t : ℕ) → 1 ≤ j → j ≤ S.parts → t < length (imports S i j)
      → global_of (locals S i) (length (owned S i) + total 1 (j - 1) (λ k. length (imports S i k)) + 1 + t) ≡ get_or (imports S i j) t 0
  unfolding global_of
  import_at i j t h k l =
      let bs : List ℕ = blocks 1 S.parts (imports S i) in
      let one : 1 + (j - 1) ≡ j = omega arith in
      let e : length (owned S i) + total 1 (j - 1) (λ k. length (imports S i k)) + 1 + t - 1 ≡ length (own_cells S i) + (length (blocks 1 (j - 1) (imports S i)) + t) =
      omega (arith, own_count i, blocks_length 1 (imports S i) (j - 1)) in
      ap₂ (λ xs n. get_or xs n 0) (order_is i) e
      ∙ get_or-append-add (own_cells S i) bs (length (blocks 1 (j - 1) (imports S i)) + t) 0
      ∙ blocks_at 1 (imports S i) S.parts (j - 1) t 0 (omega arith) (subst (λ x. t < length (imports S i x)) (sym one) l)
      ∙ ap (λ x. get_or (imports S i x) t 0) one

  -- its number is in the local order
  pub import_fits : (i j t : ℕ) → 1 ≤ j → j ≤ S.parts → t < length (imports S i j)
      → length (owned S i) + total 1 (j - 1) (λ k. length (imports S i k)) + 1 + t ≤ length (locals S i)
  import_fits i j t h k q =
      let p : 1 + (j - 1) ≡ j = omega arith in
      let f = total_fit 1 (λ k. length (imports S i k)) S.parts (j - 1) (omega arith) in
      let s : length (imports S i (1 + (j - 1))) ≡ length (imports S i j) = ap (λ x. length (imports S i x)) p in
      omega (arith, order_length i, f)

  -- a local number is an owned cell's or an imported one's
  pub local_cases : (i l : ℕ) → 1 ≤ l → l ≤ length (locals S i) → (l ≤ length (owned S i))
      ⊎ ((j : ℕ) × (1 ≤ j) × (j ≤ S.parts) × ((t : ℕ) × (t < length (imports S i j)) × (l ≡ length (owned S i) + total 1 (j - 1) (λ k. length (imports S i k)) + 1 + t)))
  local_cases i l h k = go (ltb (length (owned S i)) l) refl
    where
      go : (b : Bool) → ltb (length (owned S i)) l ≡ b → (l ≤ length (owned S i))
          ⊎ ((j : ℕ) × (1 ≤ j) × (j ≤ S.parts) × ((t : ℕ) × (t < length (imports S i j)) × (l ≡ length (owned S i) + total 1 (j - 1) (λ k. length (imports S i k)) + 1 + t)))
      go true e =
          let q : length (owned S i) < l = ltb-true _ _ e in
          let v = blocks_cases 1 (imports S i) S.parts (l - 1 - length (owned S i)) (omega (arith, order_length i, blocks_length 1 (imports S i) S.parts)) in
          let z : 1 + v.0 - 1 ≡ v.0 = omega arith in
          inr (
            1 + v.0,
            omega arith,
            omega (arith, v.1),
            (
              v.2.0,
              v.2.1,
              subst (λ n. l ≡ length (owned S i) + total 1 n (λ k. length (imports S i k)) + 1 + v.2.0) (sym z)
                  (omega (arith, v.2.2, blocks_length 1 (imports S i) v.0)),
            ),
          )
      go false e = inl (ltb-false _ _ e)

  -- an owned cell that is in its own reach is held
  pub own_held : ((c : ℕ) → SplitCell S c → reaches S c c ≡ true) → (i c : ℕ) → SplitCell S c → owns S i c ≡ true → holds S i c ≡ true
  unfolding holds owned
  own_held own_reach i c h e =
      let a = picked_in S.first (owns S i) S.cells c h.0 h.1 e in
      some_of_has (λ o. reaches S o c) (picked S.first S.cells (owns S i)) 0 a.place a.place_lt
      (subst (λ o. reaches S o c ≡ true) (sym a.place_is) (own_reach c h))

  module _ (reach_in : (c : ℕ) → SplitCell S c → All (λ e. SplitCell S e.cell) (S.reach c)) (owner_in : (c : ℕ) → SplitCell S c → (1 ≤ S.owner c) × (S.owner c ≤ S.parts)) where
    -- what is held stands in the local order
    pub held_has : (i x : ℕ) → SplitCell S x → holds S i x ≡ true → At x (locals S i)
    held_has i x h e = subst (At x) (sym (order_is i)) (go (eqb i (S.owner x)) refl)
      where
        go : (b : Bool) → eqb i (S.owner x) ≡ b → At x (own_cells S i ++ blocks 1 S.parts (imports S i))
        go true q = at_left x (own_cells S i) (blocks 1 S.parts (imports S i)) (own_has i x h (sym (eqb-true i (S.owner x) q)))
        go false q =
            let o = owner_in x h in
            let one : 1 + (S.owner x - 1) ≡ S.owner x = omega arith in
            at_right x (own_cells S i) (blocks 1 S.parts (imports S i))
            (blocks_have 1 (imports S i) S.parts (S.owner x - 1) x (omega arith)
            (subst (λ j. At x (imports S i j)) (sym one) (import_has i (S.owner x) x h (eqb-false i (S.owner x) q) refl e)))

    reach_holds : (i c : ℕ) → SplitCell S c → S.owner c ≡ i → (t : ℕ) → t < length (S.reach c) → holds S i (get_or (S.reach c) t (record { cell = 0; layer = 0 })).cell ≡ true
    unfolding holds owned owns reaches
    reach_holds i c h e t k =
        let x : ℕ = (get_or (S.reach c) t (record { cell = 0; layer = 0 })).cell in
        let a = picked_in S.first (λ c. eqb (S.owner c) i) S.cells c h.0 h.1 (eq-eqb (S.owner c) i e) in
        let r : some_of (S.reach c) (λ y. eqb y.cell x) ≡ true = some_of_has (λ y. eqb y.cell x) (S.reach c) (record { cell = 0; layer = 0 }) t k (eq-eqb x x refl) in
        some_of_has (λ c. some_of (S.reach c) (λ y. eqb y.cell x)) (picked S.first S.cells (λ c. eqb (S.owner c) i)) 0 a.place a.place_lt
        (subst (λ z. some_of (S.reach z) (λ y. eqb y.cell x) ≡ true) (sym a.place_is) r)

    -- all in the reach of an owned cell is held
    pub reach_held : (i c : ℕ) → SplitCell S c → S.owner c ≡ i → All (λ e. At e.cell (locals S i)) (S.reach c)
    reach_held i c h e =
        All_intro (λ e. At e.cell (locals S i)) (S.reach c) (record { cell = 0; layer = 0 })
        (λ t k.
        held_has i _ (All_get_or (λ e. SplitCell S e.cell) (S.reach c) t (record { cell = 0; layer = 0 }) (reach_in c h) k) (reach_holds i c h e t k))

    -- a number that is no part owns nothing, imports nothing and exports nothing
    pub owned_none : (j : ℕ) → S.parts < j → owned S j ≡ []
    unfolding owned owns
    owned_none j h =
        picked_none S.first (λ c. eqb (S.owner c) j) S.cells
        (λ k q. let o = owner_in (S.first + k) (omega arith, omega arith) in ne_eqb (S.owner (S.first + k)) j (λ e. let z : ⊥ = omega (arith, o.1) in z))

    pub imports_none : (i j : ℕ) → S.parts < j → imports S i j ≡ []
    unfolding imports owns
    imports_none i j h =
        picked_none S.first (λ c. not (eqb i j) && eqb (S.owner c) j && holds S i c) S.cells
        (λ k q.
        let o = owner_in (S.first + k) (omega arith, omega arith) in
        and_left (not (eqb i j) && eqb (S.owner (S.first + k)) j) (holds S i (S.first + k))
        (and_right (not (eqb i j)) (eqb (S.owner (S.first + k)) j) (ne_eqb (S.owner (S.first + k)) j (λ e. let z : ⊥ = omega (arith, o.1) in z))))

    pub exports_none : (i j : ℕ) → S.parts < j → exports S i j ≡ []
    unfolding exports imports holds some_of
    exports_none i j h =
        picked_none S.first (λ c. not (eqb j i) && owns S i c && some_of (owned S j) (λ o. reaches S o c)) S.cells
        (λ k q.
        and_right (not (eqb j i) && owns S i (S.first + k)) (some_of (owned S j) (λ o. reaches S o (S.first + k)))
        (ap (λ xs. some_of xs (λ o. reaches S o (S.first + k))) (owned_none j h)))

    -- so sixteen numbers say no more than the parts
    sixteen : (f : ℕ → List ℕ) → ((j : ℕ) → S.parts < j → f j ≡ []) → S.parts ≤ most_parts → total 1 most_parts (λ j. length (f j)) ≡ total 1 S.parts (λ j. length (f j))
    sixteen f none h =
        let e : S.parts + (most_parts - S.parts) ≡ most_parts = omega arith in
        ap (λ n. total 1 n (λ j. length (f j))) (sym e) ∙ total_short 1 S.parts (most_parts - S.parts) (λ j. length (f j)) (λ k l q. ap length (none (1 + k) (omega arith)))

    pub import_total : (i : ℕ) → S.parts ≤ most_parts → total 1 most_parts (λ j. length (imports S i j)) ≡ total 1 S.parts (λ j. length (imports S i j))
    import_total i = sixteen (imports S i) (imports_none i)

    pub export_total : (i : ℕ) → S.parts ≤ most_parts → total 1 most_parts (λ j. length (exports S i j)) ≡ total 1 S.parts (λ j. length (exports S i j))
    export_total i = sixteen (exports S i) (exports_none i)

    -- ---- what is held, where a cell is in its own reach: the owned cells and the imports

    module _ (own_reach : (c : ℕ) → SplitCell S c → reaches S c c ≡ true) where
      pub held_length : (i : ℕ) → length (held S i) ≡ length (owned S i) + total 1 S.parts (λ j. length (imports S i j))
      unfolding held owned imports owns
      held_length i =
          picked_halves S.first S.cells (holds S i) (λ c. eqb (S.owner c) i)
          ∙ ap₂ ◌+◌
          (ap length (picked_cong S.first (λ c. holds S i c && eqb (S.owner c) i) (λ c. eqb (S.owner c) i) S.cells
          (λ k h.
          same_test (holds S i (S.first + k) && eqb (S.owner (S.first + k)) i) (eqb (S.owner (S.first + k)) i)
          (λ e. (and_true (holds S i (S.first + k)) (eqb (S.owner (S.first + k)) i) e).1)
          (λ e. and_intro (holds S i (S.first + k)) (eqb (S.owner (S.first + k)) i) (own_held own_reach i (S.first + k) (omega arith, omega arith) e) e))))
          (picked_shared S.first S.cells S.parts (λ c. holds S i c && not (eqb (S.owner c) i))
          (λ j c. not (eqb i j) && eqb (S.owner c) j && holds S i c) S.owner
          (λ k h e.
          let c : ℕ = S.first + k in
          let o = owner_in (S.first + k) (omega arith, omega arith) in
          let r = and_true (holds S i (S.first + k)) (not (eqb (S.owner (S.first + k)) i)) e in
          let ne : S.owner (S.first + k) ≢ i = eqb-false _ _ (not-true _ r.1) in (
            o.0,
            o.1,
            and_intro (not (eqb i (S.owner c)) && eqb (S.owner c) (S.owner c)) (holds S i c)
                (and_intro (not (eqb i (S.owner c))) (eqb (S.owner c) (S.owner c)) (ap not (ne_eqb i (S.owner c) (λ z. ne (sym z)))) (eq-eqb (S.owner c) (S.owner c) refl)) r.0,
          ))
          (λ k j h e.
          let c : ℕ = S.first + k in
          let p = and_true (not (eqb i j) && eqb (S.owner c) j) (holds S i c) e in
          let q = and_true (not (eqb i j)) (eqb (S.owner c) j) p.0 in
          let own : S.owner c ≡ j = eqb-true _ _ q.1 in
          let ne : i ≢ j = eqb-false _ _ (not-true _ q.0) in (
            and_intro (holds S i c) (not (eqb (S.owner c) i)) p.1 (ap not (ne_eqb (S.owner c) i (λ z. ne (sym z ∙ own)))),
            sym own,
          )))

      pub local_held : (i : ℕ) → length (locals S i) ≡ length (held S i)
      local_held i = order_length i ∙ sym (held_length i)

-- ---- the split of a mesh, a part map and a stencil

-- an accepted part map, and the parts that a call names with it
pub record Mapped (m : Bytes) (parts : ℕ) (owners : Bytes) (named : List ℕ) : Type 0 where
  pub few : parts ≤ most_parts
  pub named_in : All (λ i. (1 ≤ i) × (i ≤ parts)) named
  pub owner_in : (k : ℕ) → k < cell_count m → (1 ≤ owner_at owners k) × (owner_at owners k ≤ parts)
  pub unnamed : bad8 m parts owners [] ≡ false

pub map_facts : (m : Bytes) (parts : ℕ) (owners : Bytes) (named : List ℕ) → bad8 m parts owners named ≡ false → Mapped m parts owners named
unfolding bad8 every_of
map_facts m parts owners named e =
    let a = not (is_up_to most_parts parts) in
    let b = not (every_of named (is_up_to parts)) in
    let c = not (eqb (length owners) (cell_count m)) in
    let d = not (every_of owners (is_up_to parts)) in
    let p = or_false (a || b || c) d e in
    let q = or_false (a || b) c p.0 in
    let r = or_false a b q.0 in
    let l : length owners ≡ cell_count m = eqb-true _ _ (not-false _ q.1) in
    record {
      few = (up_to_true most_parts parts (not-false _ r.0)).1;
      named_in = All_map named (λ i t. up_to_true parts i t) (every_of_true (is_up_to parts) named (not-false _ r.1));
      owner_in = λ k h. up_to_true parts (owner_at owners k) (every_of_at (is_up_to parts) owners 0 k (not-false _ p.1) (omega arith));
      unnamed = λ x. (r.0 x || false) || q.1 x || p.1 x;
    }

module _ (m : Bytes) (parts : ℕ) (owners st : Bytes) where
  pub split_reach : (c : ℕ) → SplitCell (split_of m parts owners st) c → All (λ e. SplitCell (split_of m parts owners st) e.cell) ((split_of m parts owners st).reach c)
  unfolding split_of
  split_reach c h = reach_in m st c

  pub split_own : (c : ℕ) → SplitCell (split_of m parts owners st) c → reaches (split_of m parts owners st) c c ≡ true
  unfolding split_of reaches
  split_own c h =
      let t = reach_own m st c h.0 h.1 in
      some_of_has (λ e. eqb e.cell c) (reach m st c) (record { cell = 0; layer = 0 }) t.0 t.1 (eq-eqb _ _ (ap (λ e. e.cell) t.2))

  pub split_owner : ((k : ℕ) → k < cell_count m → (1 ≤ owner_at owners k) × (owner_at owners k ≤ parts)) → (c : ℕ) → SplitCell (split_of m parts owners st) c
      → (1 ≤ (split_of m parts owners st).owner c) × ((split_of m parts owners st).owner c ≤ (split_of m parts owners st).parts)
  unfolding split_of
  split_owner f c h = f (c - first_cell m) (omega (arith, h.0, h.1))

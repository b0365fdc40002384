-- What a part holds is what its cells walk to, a lower element that it holds is in one range, and the copy theorem. Assumes nothing.
use mathlib.Core.Path.{◌≡◌, refl, sym, ap, ◌∙◌, subst}
use mathlib.Core.Logic.{◌≢◌}
use mathlib.Core.Bool.{Bool, true, false, not, ◌&&◌, cond, false≢true}
use mathlib.Core.List.{List, [], ◌∷◌}
use Prim.Native.Nat.{ℕ, ◌+◌, ◌-◌, ◌<◌, ◌≤◌}
use native.Mathlib.Omega.{arith}
use lib.Dec.{eqb, ltb}
use lib.ListN.{length, get_or, length-map}
use borrow.Author.Tests.{eqb-true, eq-eqb, ltb-true, lt-ltb}
use Rattle.vocabulary.specs.Bytes.{Bytes}
use Rattle.vocabulary.specs.Lists.{is_in}
use Rattle.vocabulary.proofs.ListLaws.{is_in_at, at_is_in, and_true, and_intro, same_test, All_get_or, get_or_map_any, some_of_has, some_of_witness}
use Rattle.vocabulary.specs.Intervals.{picked}
use Rattle.vocabulary.proofs.IntervalLaws.{picked_in, picked_passes}
use Rattle.vocabulary.specs.Tests.{first_of}
use Rattle.mesh.specs.Mesh.{top, counted, below, first_cell, cell_count}
use Rattle.mesh.specs.Accepted.{Accepted}
use Rattle.mesh.specs.Walks.{Near, incident, reach, layer, steps_to, steps, walked, bad10, cells_at}
use Rattle.split.specs.Split.{Split, split_of, owns, owned, reaches, holds, held, imports, locals, local_of, global_of, holds_lower, touches, another}
use Rattle.split.specs.Split.{is_copied, is_shared, is_exposed, is_private, range}
use Rattle.split.specs.Lists.{split_number, list_of}
use Rattle.split.specs.declared.Wanted.TheVariants.{Private, Exposed, Shared, Copied}
use Rattle.split.proofs.SplitLaws as Laws
use Rattle.split.proofs.SplitLaws.{SplitCell, import_facts, import_has, order_cells, local_back, own_held, held_has, map_facts, split_reach, split_own, split_owner}
use Rattle.split.proofs.PassedLaws.{twice, passed_facts}
use Rattle.split.proofs.OrderLaws.{local_number, order_held}
use Rattle.split_copies.specs.Copies.{is_of, is_cell, Walk, Reached, lists_with, CopyTheorem}
use Rattle.split_copies.proofs.WalkLaws.{of_numbers, numbers_of, walked_walk, walk_walked}

-- the four ranges are the cases of three tests: an element touches the part, touches another, is held by another
cases_add : (q t a b h : Bool) → (t ≡ true → h ≡ true)
    → cond (q && (t && not a && not b)) 1 0 + (cond (q && (t && not a && b)) 1 0 + (cond (q && (t && a)) 1 0 + (cond (q && (h && not t)) 1 0 + 0)))
    ≡ cond (q && h) 1 0
cases_add false t a b h f = refl
cases_add true true a b false f = absurd (false≢true (f refl))
cases_add true true true b true f = refl
cases_add true true false true true f = refl
cases_add true true false false true f = refl
cases_add true false a b true f = refl
cases_add true false a b false f = refl

one_of_four : (q t a b h : Bool) {w x y z : Bool} → (t ≡ true → h ≡ true)
    → w ≡ q && (t && not a && not b) → x ≡ q && (t && not a && b) → y ≡ q && (t && a) → z ≡ q && (h && not t)
    → cond w 1 0 + (cond x 1 0 + (cond y 1 0 + (cond z 1 0 + 0))) ≡ cond (q && h) 1 0
one_of_four q t a b h f ew ex ey ez = rw (ew, ex, ey, ez) (cases_add q t a b h f)

module _ (m : Bytes) (parts : ℕ) (owners : Bytes) (i : ℕ) (st : Bytes) (A : Accepted m) where
  abbrev S : Split
  S = split_of m parts owners st

  cell_of : (c : ℕ) → is_cell m c ≡ true → SplitCell S c
  unfolding split_of
  cell_of c e = of_numbers m A (top m) c (omega arith) e

  of_cell : (c : ℕ) → SplitCell S c → is_cell m c ≡ true
  unfolding split_of
  of_cell c h = numbers_of m A (top m) c (omega arith) h.0 h.1

  -- ---- held cells

  module _ (good : bad10 (top m) st ≡ false) where
    abbrev met : ℕ → ℕ → Bool
    met c x = ltb 0 (length (steps_to m st c x))

    abbrev near : ℕ → ℕ → Near
    near c x = record { cell = x; layer = layer m st c x }

    abbrev none : Near
    none = record { cell = 0; layer = 0 }

    -- what is in the reach of a cell is the end of a walk from it
    reaches_walk : (c x : ℕ) → is_cell m c ≡ true → reaches S c x ≡ true → (k : ℕ) × (k ≤ steps st) × Walk m st k c x
    unfolding split_of reaches reach steps_to
    reaches_walk c x h e =
        let xs : List ℕ = picked (first_cell m) (cell_count m) (met c) in
        let w = some_of_witness (λ e. eqb e.cell x) (reach m st c) none e in
        let l : w.0 < length xs = omega (arith, w.1, length-map xs (near c)) in
        let y : get_or xs w.0 0 ≡ x = sym (ap (λ e. e.cell) (get_or_map_any (near c) xs w.0 0 none l)) ∙ eqb-true _ x w.2 in
        let p = picked_passes (first_cell m) (met c) (cell_count m) x (record { place = w.0; place_lt = l; place_is = y }) in
        let k : ℕ = get_or (steps_to m st c x) 0 0 in
        let q = picked_passes 0 (λ k. is_in x (walked m st c k)) (steps st + 1) (get_or (steps_to m st c x) 0 0) (record { place = 0; place_lt = ltb-true 0 _ p.2; place_is = refl }) in
        let few : get_or (steps_to m st c x) 0 0 ≤ steps st = omega (arith, q.1) in
        (k, few, walked_walk m st A good c h k x few q.2)

    walk_reaches : (c x k : ℕ) → is_cell m x ≡ true → k ≤ steps st → Walk m st k c x → reaches S c x ≡ true
    unfolding split_of reaches reach steps_to
    walk_reaches c x k h few w =
        let xs : List ℕ = picked (first_cell m) (cell_count m) (met c) in
        let a = picked_in 0 (λ k. is_in x (walked m st c k)) (steps st + 1) k (omega arith) (omega arith) (walk_walked m st A good c w.from_cell k x few w) in
        let p = picked_in (first_cell m) (met c) (cell_count m) x (cell_of x h).0 (cell_of x h).1 (lt-ltb 0 (length (steps_to m st c x)) (omega (arith, a.place_lt))) in
        some_of_has (λ e. eqb e.cell x) (reach m st c) none p.place (omega (arith, p.place_lt, length-map xs (near c)))
        (eq-eqb _ x (ap (λ e. e.cell) (get_or_map_any (near c) xs p.place 0 none p.place_lt) ∙ p.place_is))

    holds_reached : (x : ℕ) → holds S i x ≡ true → Reached m st S i x
    unfolding holds owned owns
    holds_reached x e =
        let w = some_of_witness (λ c. reaches S c x) (owned S i) 0 e in
        let c : ℕ = get_or (owned S i) w.0 0 in
        let p = picked_passes S.first (λ c. eqb (S.owner c) i) S.cells c (record { place = w.0; place_lt = w.1; place_is = refl }) in
        let r = reaches_walk c x (of_cell c (p.0, p.1)) w.2 in
        record { cell = c; owned = eqb-true _ i p.2; count = r.0; count_high = omega (arith, r.1); walk = r.2 }

    reached_holds : (x : ℕ) → is_cell m x ≡ true → Reached m st S i x → holds S i x ≡ true
    unfolding holds owned owns
    reached_holds x h r =
        let c = cell_of r.cell r.walk.from_cell in
        let a = picked_in S.first (λ c. eqb (S.owner c) i) S.cells r.cell c.0 c.1 (eq-eqb _ i r.owned) in
        some_of_has (λ c. reaches S c x) (owned S i) 0 a.place a.place_lt
        (subst (λ c. reaches S c x ≡ true) (sym a.place_is) (walk_reaches r.cell x r.count h (omega (arith, r.count_high)) r.walk))

    copied_reached : (c j : ℕ) → is_in c (imports S i j) ≡ true → Reached m st S i c × (S.owner c ≢ i)
    copied_reached c j e = let f = import_facts S i j c (is_in_at c _ e) in (holds_reached c f.3, λ o. f.1 (sym o ∙ f.2))

    reached_copied : (c : ℕ) → is_cell m c ≡ true → Reached m st S i c → S.owner c ≢ i → is_in c (imports S i (S.owner c)) ≡ true
    reached_copied c h r ne = at_is_in c _ (import_has S i (S.owner c) c (cell_of c h) (λ e. ne (sym e)) refl (reached_holds c h r))

  -- ---- ranges

  -- what stands in a range of dimension k
  range_has : (k e : ℕ) (p : ℕ → Bool) → is_in e (range m k p) ≡ ltb k (top m) && is_of m k e && p e
  unfolding range
  range_has k e p = go (ltb k (top m)) refl
    where
      go : (b : Bool) → ltb k (top m) ≡ b → is_in e (cond b (picked (below m k + 1) (counted m k) p) []) ≡ b && is_of m k e && p e
      go true z =
          let h : k < top m = ltb-true k _ z in
          same_test (is_in e (picked (below m k + 1) (counted m k) p)) (is_of m k e && p e)
          (λ t. let q = picked_passes (below m k + 1) p (counted m k) e (is_in_at e _ t) in and_intro (is_of m k e) (p e) (numbers_of m A k e (omega arith) q.0 q.1) q.2)
          (λ t. let q = and_true (is_of m k e) (p e) t in let n = of_numbers m A k e (omega arith) q.0 in at_is_in e _ (picked_in (below m k + 1) p (counted m k) e n.0 n.1 q.1))
      go false z = unfold is_in in refl

  -- a part holds what it touches
  touched_held : (e : ℕ) → touches S e i ≡ true → holds_lower S i e ≡ true
  unfolding touches holds_lower split_of cells_at
  touched_held e t =
      let w = some_of_witness (owns S i) (S.around e) 0 t in
      let p = picked_passes S.first (incident m e) S.cells (get_or (S.around e) w.0 0) (record { place = w.0; place_lt = w.1; place_is = refl }) in
      some_of_has (holds S i) (S.around e) 0 w.0 w.1 (own_held S (split_own m parts owners st) i (get_or (S.around e) w.0 0) (p.0, p.1) w.2)

  one_range : (k e : ℕ)
      → lists_with e (list_of m S i (Private k) ∷ list_of m S i (Exposed k) ∷ list_of m S i (Shared k) ∷ list_of m S i (Copied k) ∷ [])
      ≡ cond (ltb k (top m) && is_of m k e && holds_lower S i e) 1 0
  unfolding lists_with list_of is_private is_exposed is_shared is_copied
  one_range k e =
      one_of_four (ltb k (top m) && is_of m k e) (touches S e i) (another S i (touches S e)) (another S i (λ j. holds_lower S j e)) (holds_lower S i e) (touched_held e)
      (range_has k e (is_private S i)) (range_has k e (is_exposed S i)) (range_has k e (is_shared S i)) (range_has k e (is_copied S i))

  -- ---- local numbers

  module _ (owner_in : (c : ℕ) → SplitCell S c → (1 ≤ S.owner c) × (S.owner c ≤ S.parts)) where
    count_same : length (locals S i) ≡ length (held S i)
    count_same = Laws.local_held S (split_reach m parts owners st) owner_in (split_own m parts owners st) i

    local_held : (l : ℕ) → 1 ≤ l → l ≤ length (held S i)
        → (is_in (global_of (locals S i) l) (held S i) ≡ true) × (local_of (locals S i) (global_of (locals S i) l) ≡ l)
    unfolding held global_of
    local_held l low high =
        let h : l ≤ length (locals S i) = omega (arith, count_same) in
        let c = All_get_or (λ c. SplitCell S c) (locals S i) (l - 1) 0 (order_cells S i) (omega arith) in (
          at_is_in _ (held S i) (picked_in S.first (holds S i) S.cells (global_of (locals S i) l) c.0 c.1 (order_held S i (split_own m parts owners st) l low h)),
          local_number S i l low h,
        )

    held_local : (c : ℕ) → is_in c (held S i) ≡ true
        → (1 ≤ local_of (locals S i) c) × (local_of (locals S i) c ≤ length (held S i)) × (global_of (locals S i) (local_of (locals S i) c) ≡ c)
    unfolding held
    held_local c e =
        let p = picked_passes S.first (holds S i) S.cells c (is_in_at c (held S i) e) in
        let b = local_back S i c (held_has S (split_reach m parts owners st) owner_in i c (p.0, p.1) p.2) in
        (b.0, omega (arith, b.1, count_same), b.2)

pub copy_theorem : CopyTheorem
unfolding CopyTheorem split_number
copy_theorem m parts owners i st e =
    let p = passed_facts m parts owners i i st (ap first_of (twice m parts owners i st) ∙ e) in
    let owner_in = split_owner m parts owners st (map_facts m parts owners [] p.map).owner_in in
    record {
      walk_ends = λ k c x h cell. (walked_walk m st p.mesh p.stencil c cell k x h, walk_walked m st p.mesh p.stencil c cell k x h);
      copied_exactly = λ c h. (
        λ t. copied_reached m parts owners i st p.mesh p.stencil c t.0 t.1,
        λ r. ((split_of m parts owners st).owner c, reached_copied m parts owners i st p.mesh p.stencil c h r.0 r.1),
      );
      import_owner = λ c j t.
          let f = import_facts (split_of m parts owners st) i j c (is_in_at c _ t) in
          (of_cell m parts owners i st p.mesh c f.0, f.2);
      one_range = one_range m parts owners i st p.mesh;
      local_count = count_same m parts owners i st p.mesh owner_in;
      local_held = local_held m parts owners i st p.mesh owner_in;
      held_local = held_local m parts owners i st p.mesh owner_in;
    }

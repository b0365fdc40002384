-- The lists of a part hang together: they rise, what one part imports the other exports, and interior, halo and imports are the held cells,
-- each once, so that local numbers and held cells go one to one. Assumes nothing.
use mathlib.Core.Path.{◌≡◌, refl, sym, ap, ◌∙◌, subst}
use mathlib.Core.Logic.{⊎_elim, ◌≢◌}
use mathlib.Core.Bool.{Bool, true, false}
use mathlib.Core.List.{List, []}
use Prim.Native.Nat.{ℕ, ◌+◌, ◌-◌, ◌≤◌, ◌<◌}
use native.Mathlib.Omega.{arith}
use lib.Dec.{ltb}
use lib.ListN.{length, get_or}
use borrow.Author.Tests.{eq-eqb}
use Rattle.vocabulary.specs.Bytes.{Bytes}
use Rattle.vocabulary.specs.Lists.{repeats, Rises}
use Rattle.vocabulary.proofs.ListLaws.{At, repeats_none, repeats_once, cond_has}
use Rattle.vocabulary.specs.Intervals.{picked, total}
use Rattle.vocabulary.proofs.IntervalLaws.{picked_rises, rises_once}
use Rattle.mesh.specs.Mesh.{top, counted, below}
use Rattle.split.specs.Split.{Split, owns, owned, reaches, holds, held, imports, exports, interior, halo, locals, local_of, global_of, range}
use Rattle.split.proofs.SplitLaws.{SplitCell, own_is, own_number, local_back, local_cases, import_facts, import_at, own_held}

-- ---- rising lists

module _ (S : Split) (i : ℕ) where
  pub cells_rise : Rises (owned S i) × Rises (held S i) × Rises (interior S i) × Rises (halo S i) × ((j : ℕ) → Rises (imports S i j))
  unfolding owned held interior halo imports
  cells_rise = (rise (owns S i), rise (holds S i), rise _, rise _, λ j. rise _)
    where
      rise : (p : ℕ → Bool) → Rises (picked S.first S.cells p)
      rise p = picked_rises S.first p S.cells

  -- "j exports the same list to i"
  pub exports_same : (j : ℕ) → exports S j i ≡ imports S i j
  unfolding exports
  exports_same j = refl

  pub exports_rise : (j : ℕ) → Rises (exports S i j)
  unfolding exports imports
  exports_rise j = picked_rises S.first _ S.cells

pub range_rises : (m : Bytes) (k : ℕ) (p : ℕ → Bool) → Rises (range m k p)
unfolding range picked
range_rises m k p =
    cond_has (λ (xs : List ℕ). Rises xs) (ltb k (top m)) (picked (below m k + 1) (counted m k) p) [] (λ e. picked_rises (below m k + 1) p (counted m k))
    (λ e. picked_rises 0 p 0)

-- ---- the local order has each cell once

module _ (S : Split) (i : ℕ) where
  -- what the t-th cell imported from j has
  facts_at : (j t : ℕ) → t < length (imports S i j)
      → SplitCell S (get_or (imports S i j) t 0) × (i ≢ j) × (S.owner (get_or (imports S i j) t 0) ≡ j) × (holds S i (get_or (imports S i j) t 0) ≡ true)
  facts_at j t h = import_facts S i j (get_or (imports S i j) t 0) (record { place = t; place_lt = h; place_is = refl })

  abbrev Imported : ℕ → Type 0
  Imported l = (j : ℕ) × (1 ≤ j) × (j ≤ S.parts) × ((t : ℕ) × (t < length (imports S i j)) × (l ≡ length (owned S i) + total 1 (j - 1) (λ k. length (imports S i k)) + 1 + t))

  abbrev number : ℕ → ℕ → ℕ
  number j t = length (owned S i) + total 1 (j - 1) (λ k. length (imports S i k)) + 1 + t

  imported_is : (l : ℕ) (v : Imported l) → global_of (locals S i) l ≡ get_or (imports S i v.0) v.3.0 0
  imported_is l v = ap (global_of (locals S i)) v.3.2 ∙ import_at S i v.0 v.3.0 v.1 v.2 v.3.1

  not_own : (k l : ℕ) → 1 ≤ k → k ≤ length (owned S i) → (v : Imported l) → global_of (locals S i) k ≡ global_of (locals S i) l → ⊥
  not_own k l low high v e =
      let f = facts_at v.0 v.3.0 v.3.1 in
      f.1 (sym (own_is S i k low high).1 ∙ ap S.owner (e ∙ imported_is l v) ∙ f.2)

  same_import : (j j' t t' : ℕ) → j ≡ j' → t < length (imports S i j) → t' < length (imports S i j') → get_or (imports S i j) t 0 ≡ get_or (imports S i j') t' 0 → number j t ≡ number j' t'
  same_import j j' t t' e h h' f =
      let h2 : t < length (imports S i j') = subst (λ x. t < length (imports S i x)) e h in
      let q : t ≡ t' = repeats_once (imports S i j') t t' (rises_once (imports S i j') ((cells_rise S i).4 j')) h2 h' (ap (λ x. get_or (imports S i x) t 0) (sym e) ∙ f) in
      ap (λ x. number x t) e ∙ ap (number j') q

  -- a cell has one local number
  pub local_once : (k l : ℕ) → 1 ≤ k → k ≤ length (locals S i) → 1 ≤ l → l ≤ length (locals S i) → global_of (locals S i) k ≡ global_of (locals S i) l → k ≡ l
  local_once k l kl kh ll lh e = ⊎_elim left right (local_cases S i k kl kh)
    where
      left : k ≤ length (owned S i) → k ≡ l
      left a =
          ⊎_elim (λ b. sym (own_number S i k kl a) ∙ ap (local_of (locals S i)) e ∙ own_number S i l ll b)
          (λ v. absurd (not_own k l kl a v e)) (local_cases S i l ll lh)

      right : Imported k → k ≡ l
      right u =
          ⊎_elim (λ b. absurd (not_own l k ll b u (sym e)))
          (λ (v : Imported l).
          let g : get_or (imports S i u.0) u.3.0 0 ≡ get_or (imports S i v.0) v.3.0 0 = sym (imported_is k u) ∙ e ∙ imported_is l v in
          let o : u.0 ≡ v.0 = sym (facts_at u.0 u.3.0 u.3.1).2 ∙ ap S.owner g ∙ (facts_at v.0 v.3.0 v.3.1).2 in
          u.3.2 ∙ same_import u.0 v.0 u.3.0 v.3.0 o u.3.1 v.3.1 g ∙ sym v.3.2) (local_cases S i l ll lh)

  global_at : (k : ℕ) → global_of (locals S i) (k + 1) ≡ get_or (locals S i) k 0
  unfolding global_of
  global_at k = let q : k + 1 - 1 ≡ k = omega arith in ap (λ n. get_or (locals S i) n 0) q

  pub order_once : repeats (locals S i) ≡ false
  order_once =
      repeats_none (locals S i) (λ k l h q e.
      let z : k + 1 ≡ l + 1 = local_once (k + 1) (l + 1) (omega arith) (omega arith) (omega arith) (omega arith) (global_at k ∙ e ∙ sym (global_at l)) in
      omega arith)

  -- a local number comes back as it was; `local_back` is the other way
  pub local_number : (l : ℕ) → 1 ≤ l → l ≤ length (locals S i) → local_of (locals S i) (global_of (locals S i) l) ≡ l
  local_number l low high =
      let a : At (global_of (locals S i) l) (locals S i) = record { place = l - 1; place_lt = omega arith; place_is = unfold global_of in refl } in
      let b = local_back S i (global_of (locals S i) l) a in
      local_once _ l b.0 b.1 low high b.2

  -- what stands in the local order is held; `held_has` is the other way
  module _ (own_reach : (c : ℕ) → SplitCell S c → reaches S c c ≡ true) where
    pub order_held : (l : ℕ) → 1 ≤ l → l ≤ length (locals S i) → holds S i (global_of (locals S i) l) ≡ true
    order_held l low high = ⊎_elim mine theirs (local_cases S i l low high)
      where
        mine : l ≤ length (owned S i) → holds S i (global_of (locals S i) l) ≡ true
        mine a =
            let o = own_is S i l low a in
            held_own o.0 (unfold owns in eq-eqb _ i o.1)
          where
            held_own : SplitCell S (global_of (locals S i) l) → owns S i (global_of (locals S i) l) ≡ true → holds S i (global_of (locals S i) l) ≡ true
            held_own c e = own_held S own_reach i (global_of (locals S i) l) c e

        theirs : Imported l → holds S i (global_of (locals S i) l) ≡ true
        theirs v = subst (λ x. holds S i x ≡ true) (sym (imported_is l v)) (facts_at v.0 v.3.0 v.3.1).3

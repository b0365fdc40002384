-- The elements of the chains met one chain after another: test 5. Assumes nothing.
use mathlib.Core.Path.{◌≡◌, refl, sym, ap, ◌∙◌}
use mathlib.Core.Bool.{Bool, true, false, ◌||◌}
use mathlib.Core.List.{List, [], ◌∷◌}
use Prim.Native.Nat.{ℕ, ◌+◌, ◌-◌, ◌≤◌, ◌<◌}
use native.Mathlib.Omega.{arith}
use lib.Dec.{eqb, ltb}
use lib.ListN.{length-set, length, get_or, set, replicate, length-replicate}
use lib.Seq.{get_or-set_same, get_or-set_other, set_out}
use borrow.Author.Tests.{ltb-true, ltb-false, eqb-true, eqb-false}
use Rattle.vocabulary.specs.Intervals.{is_up_to, some}
use Rattle.vocabulary.proofs.IntervalLaws.{some_in, some_at, some_none, some_witness}
use Rattle.vocabulary.proofs.ScanLaws.{some_stop_from, some_turn_from, some_end_from}
use Rattle.vocabulary.specs.Lists.{repeats, some_of}
use Rattle.vocabulary.proofs.ListLaws.{some_of_cong, All_intro, zeros_at}
use Rattle.layout.specs.Limits.{most_elements}
use Rattle.mesh.specs.Mesh.{top, counted, elements, below, dimension, chain, bad_item, bad_chain, bad5}
use Rattle.mesh.specs.Meet.{Met, met, meet}
use Rattle.mesh.proofs.WalkLaws.{below_grows}
use Rattle.mesh.proofs.MeetLaws.{outside, marks, fresh_tells}
use Rattle.mesh.proofs.DimensionLaws.{below_next, lower_right, after_below, below_after, dimension_le}
use Rattle.mesh.proofs.AcceptedLaws.{bare_point}
use Rattle.mesh_chains.specs.Written.{MarksBelow, Written}

-- marks in zeros, above what they hold, and after some were set

pub no_marks : (n k : ℕ) → n < k → MarksBelow n 1 (replicate k 0)
no_marks n k h = record { long = omega (arith, length-replicate {A = ℕ} k 0); each = λ i. omega (arith, zeros_at k i) }

pub marks_higher : (n v w : ℕ) (s : List ℕ) → v ≤ w → MarksBelow n v s → MarksBelow n w s
marks_higher n v w s h M = record { long = M.long; each = λ i. omega (arith, M.each i) }

pub set_marks : (n v i : ℕ) (s : List ℕ) → MarksBelow n (v + 1) s → MarksBelow n (v + 1) (set s i v)
set_marks n v i s M = record { long = omega (arith, length-set s i v, M.long); each = λ j. go j (eqb j i) refl (ltb i (length s)) refl }
  where
    go : (j : ℕ) (b : Bool) → eqb j i ≡ b → (c : Bool) → ltb i (length s) ≡ c → get_or (set s i v) j 0 < v + 1
    go j true e true h = let z : get_or (set s i v) j 0 ≡ v = ap (λ x. get_or (set s i v) x 0) (eqb-true j i e) ∙ get_or-set_same s i v 0 (ltb-true _ _ h) in omega arith
    go j true e false h = let z : get_or (set s i v) j 0 ≡ get_or s j 0 = ap (λ (l : List ℕ). get_or l j 0) (set_out s i v (ltb-false _ _ h)) in omega (arith, M.each j)
    go j false e c h = let z : get_or (set s i v) j 0 ≡ get_or s j 0 = get_or-set_other s i j v 0 (eqb-false j i e) in omega (arith, M.each j)

meet_marks : (n v r : ℕ) (s xs : List ℕ) → MarksBelow n (v + 1) s → MarksBelow n (v + 1) (marks (meet v r s xs))
unfolding meet
meet_marks n v r s [] M = M
meet_marks n v r s (i ∷ is) M = go (is_up_to r i) (eqb (get_or s i 0) v) (meet_marks n v r (set s i v) is (set_marks n v i s M))
  where
    go : (b c : Bool) → MarksBelow n (v + 1) (marks (meet v r (set s i v) is))
        → MarksBelow n (v + 1) (marks (elim b as (λ _. Met) [ true ↦ elim c as (λ _. Met) [ true ↦ met true s | false ↦ meet v r (set s i v) is ] | false ↦ met true s ]))
    go false c ih = M
    go true true ih = M
    go true false ih = ih

module _ (m items ends : List ℕ) (W : Written m items ends) where
  pub few_elements : elements m ≤ most_elements
  few_elements = W.sizes.n_high

  -- ---- the elements of dimension k, above points: `low` elements are of a lower one

  module _ (k : ℕ) (kl : 1 ≤ k) (kh : k ≤ top m) (low count : ℕ) (le : low ≡ below m k) (ce : count ≡ counted m k) where
    pub dimension_in : low + count ≤ elements m
    dimension_in = omega (arith, below_next m k, below_grows m (k + 1) 4 (omega (arith, W.sizes.d_high)))

    module _ (e : ℕ) (l : low + 1 ≤ e) where
      pub marks_all : (s : List ℕ) → MarksBelow (elements m) e s → e ≤ low + 1 + count → MarksBelow (elements m) (below m (k + 1) + 1) s
      marks_all s u g = marks_higher _ e _ s (omega (arith, below_next m k)) u

      pub wrong_none : some (low + 1) (e - (low + 1)) (bad_chain m) ≡ false → e ≤ low + 1 + count → low + 1 + count ≤ e → false ≡ some (low + 1) (counted m k) (bad_chain m)
      wrong_none i g h = rw ce at (some_end_from (low + 1) (bad_chain m) count e i g h)

      module _ (g : e < low + 1 + count) where
        dimension_is : dimension m e ≡ k
        dimension_is = go (ltb k (dimension m e)) refl
          where
            least : k ≤ dimension m e
            least = after_below m e k kl kh (omega arith)

            go : (b : Bool) → ltb k (dimension m e) ≡ b → dimension m e ≡ k
            go true t =
                let h : k < dimension m e = ltb-true _ _ t in
                let z : ⊥ = omega (arith, below_after m e (k + 1) (omega arith) (omega (arith, dimension_le m e)) (omega arith), below_next m k) in absurd z
            go false t = omega (arith, least, ltb-false k (dimension m e) t)

        pub row_here : (1 ≤ e) × (e ≤ elements m)
        row_here = (omega arith, omega (arith, dimension_in))

        module _ (row : List ℕ) (re : row ≡ chain m e) (s t : List ℕ) (b : Bool) (u : MarksBelow (elements m) e s) (f : met b t ≡ meet e low s row) where
          chain_told : b ≡ bad_chain m e
          unfolding bad_chain
          chain_told =
              fresh_tells e low s (chain m e) t b (λ i q. let y : ⊥ = omega (arith, u.each i) in y) (omega (arith, dimension_in, u.long))
              (f ∙ ap (meet e low s) re)
              ∙ ap (λ x. x || repeats (chain m e))
              (ap (λ x. some_of (chain m e) (outside x)) (le ∙ ap (below m) (sym dimension_is))
              ∙ some_of_cong _ _ (chain m e) (All_intro _ (chain m e) 0 (λ j q. lower_right m e (get_or (chain m e) j 0) W.sizes.d_high)))

          marks_turn : MarksBelow (elements m) (e + 1) t
          marks_turn = rw (ap marks f) (meet_marks _ e low s _ (marks_higher _ e _ s (omega arith) u))

          pub marks_found : MarksBelow (elements m) (below m (k + 1) + 1) t
          marks_found = marks_higher _ (e + 1) _ t (omega (arith, below_next m k)) marks_turn

          pub wrong_found : b ≡ true → true ≡ some (low + 1) (counted m k) (bad_chain m)
          wrong_found q = rw ce at (some_stop_from (low + 1) (bad_chain m) count e b chain_told q l g)

          pub wrong_turn : some (low + 1) (e - (low + 1)) (bad_chain m) ≡ false → b ≡ false → MarksBelow (elements m) (e + 1) t × (some (low + 1) (e + 1 - (low + 1)) (bad_chain m) ≡ false)
          wrong_turn i q = (marks_turn, some_turn_from (low + 1) (bad_chain m) e b l i chain_told q)

  -- ---- one dimension after another

  pub points_marks : (low : ℕ) (s : List ℕ) → MarksBelow (elements m) 1 s → MarksBelow (elements m) (low + 1) s
  points_marks low s u = marks_higher _ 1 _ s (omega arith) u

  pub points_below : (low : ℕ) → low ≡ counted m 0 → low ≡ below m 1
  unfolding below
  points_below low e = omega arith

  pub points_few : (low : ℕ) → low ≡ counted m 0 → low ≤ most_elements
  points_few low e = omega (arith, points_below low e, below_grows m 1 4 (omega arith), few_elements)

  -- points have no chains
  pub points_right : (low : ℕ) → low ≡ counted m 0 → some 1 low (bad_chain m) ≡ false
  unfolding bad_chain some_of repeats
  points_right low e =
      some_none 1 (bad_chain m) low (λ i h. ap (λ xs. some_of xs (bad_item m (1 + i)) || repeats xs) (bare_point m W.four (1 + i) (omega arith) (omega arith)))

  module _ (d : ℕ) (de : d ≡ top m) (k low : ℕ) (kl : 1 ≤ k) (le : low ≡ below m k) (i : some 1 low (bad_chain m) ≡ false) where
    pub lower_end : k ≤ 1 + d → 1 + d ≤ k → false ≡ bad5 m
    unfolding bad5
    lower_end g h =
        let q : k ≡ top m + 1 = omega arith in
        sym i ∙ ap (λ x. some 1 x (bad_chain m)) (le ∙ ap (below m) q ∙ W.sizes.n_last)

    pub lower_marks : (s : List ℕ) → MarksBelow (elements m) (low + 1) s → k ≤ 1 + d → 1 + d ≤ k → MarksBelow (elements m) (elements m + 1) s
    lower_marks s u g h =
        let q : k ≡ top m + 1 = omega arith in
        marks_higher _ (low + 1) _ s (omega (arith, ap (below m) q, W.sizes.n_last)) u

    module _ (b : Bool) (f : b ≡ some (low + 1) (counted m k) (bad_chain m)) where
      pub lower_found : k < 1 + d → b ≡ true → true ≡ bad5 m
      unfolding bad5
      lower_found g q =
          let w = some_witness (low + 1) (bad_chain m) (counted m k) (sym f ∙ q) in
          sym (some_in 1 (bad_chain m) (elements m) (low + 1 + w.0) (omega arith) (omega (arith, w.1, dimension_in k kl (omega arith) low (counted m k) le refl)) w.2)

      pub lower_turn : (c : ℕ) → c ≡ counted m k → b ≡ false → some 1 (low + c) (bad_chain m) ≡ false
      lower_turn c ce q = some_none 1 (bad_chain m) (low + c) (λ j h. go j h (ltb j low) refl)
        where
          go : (j : ℕ) → j < low + c → (x : Bool) → ltb j low ≡ x → bad_chain m (1 + j) ≡ false
          go j h true t = some_at 1 (bad_chain m) low j i (ltb-true j low t)
          go j h false t =
              let y : low ≤ j = ltb-false j low t in
              let p : low + 1 + (j - low) ≡ 1 + j = omega arith in
              rw p at (some_at (low + 1) (bad_chain m) (counted m k) (j - low) (sym f ∙ q) (omega arith))

    pub next_few : (c : ℕ) → c ≡ counted m k → k < 1 + d → low + c ≤ most_elements
    next_few c ce h = omega (arith, dimension_in k kl (omega arith) low c le ce, few_elements)

    pub next_marks : (c : ℕ) (s : List ℕ) → c ≡ counted m k → MarksBelow (elements m) (below m (k + 1) + 1) s → MarksBelow (elements m) (low + c + 1) s
    next_marks c s ce u = marks_higher _ (below m (k + 1) + 1) _ s (omega (arith, below_next m k)) u

    pub next_below : (c : ℕ) → c ≡ counted m k → low + c ≡ below m (k + 1)
    next_below c ce = omega (arith, below_next m k)

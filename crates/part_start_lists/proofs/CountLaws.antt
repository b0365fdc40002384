-- The arrays of counts: the cells of each class in a row, what a part exports to each part, and the lists of that. Assumes nothing.
use mathlib.Core.Path.{◌≡◌, refl, sym, ap, ap₂, ◌∙◌, subst}
use mathlib.Core.Bool.{Bool, true, false, ◌&&◌, cond}
use mathlib.Core.List.{List, [], ◌∷◌, ◌++◌, append-nil}
use Prim.Native.Nat.{ℕ, zero, suc, ◌+◌, ◌-◌, ◌≤◌, ◌<◌}
use native.Mathlib.Nat.{zero-add, add-zero}
use native.Mathlib.Omega.{arith}
use lib.Dec.{eqb, ltb}
use lib.ListN.{get_or-eq_default, length, get_or, set, take, replicate, length-set, length-replicate}
use lib.Seq.{get_or-set_same, get_or-set_other}
use borrow.Author.Tests.{eqb-true, eqb-false, eq-eqb, ne_eqb, ltb-true, ltb-false}
use Rattle.vocabulary.specs.Bytes.{Bytes, byte_at}
use Rattle.std.proofs.lemmas.List.{get_or_past}
use Rattle.vocabulary.proofs.ListLaws.{zeros_at, and_left, and_right}
use Rattle.vocabulary.specs.Intervals.{some, blocks, total}
use Rattle.vocabulary.proofs.IntervalLaws.{at_last, blocks_empty, blocks_length, blocks_start, blocks_turn, blocks_cong, some_none, total_cong, total_start, total_turn, total_grows}
use Rattle.split.specs.Split.{owner_at}
use Rattle.split.specs.Numbering.{numbering}
use Rattle.split.specs.Owners.{owns_at}
use Rattle.split_classes.specs.Classes.{inside_at, reach_has, reached_at, class_at, class_count, part_cells, Classed, Few, Appended}
use Rattle.split_classes.specs.Groups.{group, Grouped}
use Rattle.layout.specs.Limits.{element_places, most_elements, most_parts}
use Rattle.split_cells.proofs.AddLaws.{add_none, add_both, count_start, count_turn, place_one, place_none, class_count_lem, class_few}
use Rattle.split_cells.proofs.ClassLists.{row_cells}
use Rattle.part_start_lists.specs.Starting.{numbers_of, count_at, ends_by, Tallied, Got, Sent, OwnersFew, sent_ends, sent_list, exported_at, export_tally, Stamped, reached_from, class_among}
use Rattle.part_start_lists.proofs.FollowLaws.{group_stamps, group_among}

cleared : (n k : ℕ) (counts : List ℕ) → counts ≡ replicate n 0 → count_at counts k ≡ 0
unfolding count_at
cleared n k counts e = ap (λ (l : List ℕ). get_or l k 0) e ∙ zeros_at n k

-- nothing is counted past the end
past : (k n : ℕ) (counts : List ℕ) → length counts ≡ n → n ≤ k → count_at counts k ≡ 0
unfolding count_at
past k n counts e h = get_or-eq_default counts 0 {n = k} (omega arith)

-- ---- the classes of a row

module _ (class : Bytes) where
  pub tally_start : (counts : List ℕ) → counts ≡ replicate 19 0 → Tallied class 0 counts
  tally_start counts e = record { size = ap length e ∙ length-replicate {A = ℕ} 19 0; each = λ k h. cleared 19 k counts e ∙ count_start class k }

  -- no more than there are cells
  tally_few : (q k : ℕ) (counts : List ℕ) → Tallied class q counts → count_at counts k ≤ q
  tally_few q k counts T = go (ltb k 19) refl
    where
      go : (b : Bool) → ltb k 19 ≡ b → count_at counts k ≤ q
      go true e = omega (arith, T.each k (ltb-true k 19 e), class_count_lem class k 0 q, class_few class 0 q k)
      go false e = omega (arith, past k 19 counts T.size (ltb-false k 19 e))

  pub tally_room : (q k n cells : ℕ) (counts : List ℕ) → Tallied class q counts → n ≡ get_or counts k 0 → q < cells → cells ≤ most_elements → n + 1 < 65536
  unfolding count_at
  tally_room q k n cells counts T e h l = omega (arith, tally_few q k counts T)

  pub tally_turn : (q k n : ℕ) (counts after : List ℕ) → Tallied class q counts → k ≡ byte_at class q → n ≡ get_or counts k 0 → after ≡ set counts k (n + 1) → Tallied class (q + 1) after
  unfolding count_at
  tally_turn q k n counts after T ke ne e = record {
    size = ap length e ∙ length-set counts k (n + 1) ∙ T.size;
    each = λ x h. ap (λ (l : List ℕ). get_or l x 0) e ∙ told x h (eqb k x) refl;
  }
    where
      told : (x : ℕ) → x < 19 → (b : Bool) → eqb k x ≡ b → get_or (set counts k (n + 1)) x 0 ≡ class_count class (q + 1) x
      told x h true w =
          let p : k ≡ x = eqb-true k x w in
          ap (λ y. get_or (set counts k (n + 1)) y 0) (sym p)
          ∙ get_or-set_same counts k (n + 1) 0 (omega (arith, T.size))
          ∙ count_turn class x q n 1 (ne ∙ ap (λ y. get_or counts y 0) p ∙ T.each x h) (place_one class x q k ke p)
      told x h false w =
          let no : k ≡ x → ⊥ = eqb-false k x w in
          get_or-set_other counts k x (n + 1) 0 (λ p. no (sym p))
          ∙ (let z : get_or counts x 0 ≡ get_or counts x 0 + 0 = omega arith in z)
          ∙ count_turn class x q (get_or counts x 0) 0 (T.each x h) (place_none class x q k ke no)

  pub tally_end : (q cells : ℕ) (counts : List ℕ) → q ≤ cells → cells ≤ q → Tallied class q counts → Tallied class cells counts
  tally_end q cells counts g h T = at_last (λ k. Tallied class k counts) q cells g h T

-- ---- imports and exports

module _ (owners table : Bytes) (ends : List ℕ) (i cells : ℕ) where
  -- what a row counts
  row_told : (j first k n : ℕ) (class : Bytes) → cells ≤ most_elements → Classed owners table ends j cells class → n ≡ class_count class cells k
      → n ≡ length (part_cells owners table ends j first cells k)
  row_told j first k n class few C e = e ∙ sym (class_count_lem class k first cells) ∙ ap length (row_cells owners table ends j first cells k class few C)

  pub got_told : (class : Bytes) (got : List ℕ) → cells ≤ most_elements → Classed owners table ends i cells class → Tallied class cells got → Got owners table ends i cells got
  got_told class got few C T = record { each = λ first k low high. row_told i first k (count_at got k) class few C (T.each k (omega arith)) }

  -- how many they are does not depend on where the cells' numbers begin
  cells_many : (j first k : ℕ) → length (part_cells owners table ends j first cells k) ≡ length (part_cells owners table ends j 0 cells k)
  unfolding part_cells
  cells_many j first k =
      blocks_length 0 (λ q. cond (eqb (class_at owners table ends j cells q) k) ((first + q) ∷ []) []) cells
      ∙ total_cong 0 (λ q. length (cond (eqb (class_at owners table ends j cells q) k) ((first + q) ∷ []) []))
      (λ q. length (cond (eqb (class_at owners table ends j cells q) k) ((0 + q) ∷ []) [])) cells (λ q h. one (0 + q) (eqb (class_at owners table ends j cells (0 + q)) k))
      ∙ sym (blocks_length 0 (λ q. cond (eqb (class_at owners table ends j cells q) k) ((0 + q) ∷ []) []) cells)
    where
      one : (q : ℕ) (b : Bool) → length (cond b ((first + q) ∷ []) []) ≡ length (cond b ((0 + q) ∷ []) [])
      one q true = refl
      one q false = refl

  -- in its own row no cell has the part's number
  own_class : 1 ≤ i → i ≤ most_parts → (q : ℕ) → eqb (class_at owners table ends i cells q) i ≡ false
  unfolding class_at owns_at
  own_class low high q = go (eqb (byte_at owners q) i) refl (ltb q cells) (inside_at owners table ends i q) (reached_at owners table ends i cells q)
    where
      go : (a : Bool) → eqb (byte_at owners q) i ≡ a → (l s r : Bool) → eqb (cond a (cond l (cond s 17 18) 0) (cond r (byte_at owners q) 0)) i ≡ false
      go true e true true r = ne_eqb 17 i (λ z. let no : ⊥ = omega arith in no)
      go true e true false r = ne_eqb 18 i (λ z. let no : ⊥ = omega arith in no)
      go true e false s r = ne_eqb 0 i (λ z. let no : ⊥ = omega arith in no)
      go false e l s true = e
      go false e l s false = ne_eqb 0 i (λ z. let no : ⊥ = omega arith in no)

  own_none : (j first : ℕ) → 1 ≤ i → i ≤ most_parts → j ≡ i → part_cells owners table ends j first cells i ≡ []
  unfolding part_cells
  own_none j first low high e =
      ap (λ x. part_cells owners table ends x first cells i) e
      ∙ blocks_empty 0 (λ q. cond (eqb (class_at owners table ends i cells q) i) ((first + q) ∷ []) []) cells
      (λ q h. ap (λ b. cond b ((first + (0 + q)) ∷ []) []) (own_class low high (0 + q)))

  pub sent_start : (sent : List ℕ) → sent ≡ replicate (most_parts + 1) 0 → Sent owners table ends i cells 0 sent
  sent_start sent e = record {
    size = ap length e ∙ length-replicate {A = ℕ} (most_parts + 1) 0;
    each = λ first k low high. let no : ⊥ = omega arith in absurd no;
    rest = λ k h. cleared (most_parts + 1) k sent e;
  }

  pub sent_turn : (j parts n : ℕ) (sent after : List ℕ) → j < parts → parts ≤ most_parts → Sent owners table ends i cells j sent → n ≡ length (part_cells owners table ends (j + 1) 0 cells i)
      → after ≡ set sent (j + 1) n → Sent owners table ends i cells (j + 1) after
  unfolding count_at
  sent_turn j parts n sent after h few X ne e = record {
    size = ap length e ∙ length-set sent (j + 1) n ∙ X.size;
    each = λ first k low high. ap (λ (l : List ℕ). get_or l k 0) e ∙ told first k low high (eqb (j + 1) k) refl;
    rest = λ k l. ap (λ (l : List ℕ). get_or l k 0) e ∙ get_or-set_other sent (j + 1) k n 0 (λ p. let no : ⊥ = omega arith in no) ∙ X.rest k (omega arith);
  }
    where
      told : (first k : ℕ) → 1 ≤ k → k ≤ j + 1 → (b : Bool) → eqb (j + 1) k ≡ b → get_or (set sent (j + 1) n) k 0 ≡ length (part_cells owners table ends k first cells i)
      told first k low high true w =
          let p : j + 1 ≡ k = eqb-true (j + 1) k w in
          ap (λ x. get_or (set sent (j + 1) n) x 0) (sym p)
          ∙ get_or-set_same sent (j + 1) n 0 (omega (arith, X.size))
          ∙ ne
          ∙ sym (cells_many (j + 1) first i)
          ∙ ap (λ x. length (part_cells owners table ends x first cells i)) p
      told first k low high false w =
          let no : j + 1 ≡ k → ⊥ = eqb-false (j + 1) k w in
          get_or-set_other sent (j + 1) k n 0 (λ p. no (sym p)) ∙ X.each first k low (omega arith)

  module _ (parts : ℕ) (M : OwnersFew owners cells parts) (k : ℕ) (h : parts < k) where
    -- a number above that of the parts owns nothing, holds nothing and takes nothing
    owns_none : (q : ℕ) → q < cells → owns_at owners k q ≡ false
    unfolding owns_at
    owns_none q l = ne_eqb (byte_at owners q) k (λ e. let no : ⊥ = omega (arith, M.each q l) in no)

    class_none : (q : ℕ) → q < cells → class_at owners table ends k cells q ≡ 0
    unfolding class_at reached_at
    class_none q l =
        let r : some 0 cells (λ x. owns_at owners k x && reach_has table ends x q) ≡ false =
        some_none 0 (λ x. owns_at owners k x && reach_has table ends x q) cells (λ x w. ap (λ b. b && reach_has table ends (0 + x) q) (owns_none (0 + x) (omega arith))) in
        simp (owns_none q l, r)

    cells_none : (first : ℕ) → 1 ≤ i → part_cells owners table ends k first cells i ≡ []
    unfolding part_cells
    cells_none first low =
        blocks_empty 0 (λ q. cond (eqb (class_at owners table ends k cells q) i) ((first + q) ∷ []) []) cells
        (λ q l. ap (λ b. cond b ((first + (0 + q)) ∷ []) []) (ap (λ x. eqb x i) (class_none (0 + q) (omega arith)) ∙ ne_eqb 0 i (λ e. let no : ⊥ = omega arith in no)))

  pub sent_end : (parts j : ℕ) (sent : List ℕ) → j ≤ parts → parts ≤ j → 1 ≤ i → parts ≤ most_parts → OwnersFew owners cells parts → Sent owners table ends i cells j sent
      → Sent owners table ends i cells most_parts sent
  sent_end parts j sent g h low few M X = record {
    size = X.size;
    each = λ first k a b. told first k a b (ltb parts k) refl;
    rest = λ k l. past k (most_parts + 1) sent X.size (omega arith);
  }
    where
      told : (first k : ℕ) → 1 ≤ k → k ≤ most_parts → (b : Bool) → ltb parts k ≡ b → count_at sent k ≡ length (part_cells owners table ends k first cells i)
      told first k a b true w = X.rest k (omega (arith, ltb-true parts k w)) ∙ sym (ap length (cells_none parts M k (ltb-true parts k w) first low))
      told first k a b false w = X.each first k a (omega (arith, ltb-false parts k w))

-- ---- sums and ends

module _ (counts : List ℕ) where
  sum_turn : (k n x : ℕ) → n ≡ total 1 k (count_at counts) → x ≡ get_or counts (k + 1) 0 → n + x ≡ total 1 (k + 1) (count_at counts)
  unfolding count_at
  sum_turn k n x e f =
      let p : k + 1 ≡ 1 + k = omega arith in
      ap₂ ◌+◌ e (f ∙ ap (λ y. get_or counts y 0) p) ∙ sym (total_turn 1 (count_at counts) k)

  module _ (base : ℕ) where
    pub ends_start : base ≡ ends_by counts base 0
    unfolding ends_by total
    ends_start = let e : base ≡ base + 0 = omega arith in e

    pub ends_turn : (k e x : ℕ) → e ≡ ends_by counts base k → x ≡ get_or counts (k + 1) 0 → e + x ≡ ends_by counts base (k + 1)
    unfolding ends_by
    ends_turn k e x p q = omega (arith, p, sum_turn k (total 1 k (count_at counts)) x refl q)

    module _ (small : ends_by counts base most_parts < 65536) where
      pub ends_base : base < 65536
      unfolding ends_by
      ends_base = omega (arith, small)

      pub ends_small : (k e x : ℕ) → k < most_parts → e ≡ ends_by counts base k → x ≡ get_or counts (k + 1) 0 → e + x < 65536
      ends_small k e x h p q =
          let g : ends_by counts base (k + 1) ≤ ends_by counts base most_parts = unfold ends_by in omega (arith, total_grows 1 (count_at counts) (k + 1) most_parts (omega arith)) in
          omega (arith, small, ends_turn k e x p q)

-- ---- how many cells are exported

module _ (owners holders : Bytes) (i : ℕ) where
  module _ (q o : ℕ) (oe : o ≡ owner_at owners q) where
    pub exported_other : (o ≡ i → ⊥) → 0 ≡ exported_at owners holders i q
    unfolding exported_at owns_at
    exported_other ne = sym (ap (λ b. cond b (byte_at holders q - 1) 0) (ne_eqb (owner_at owners q) i (λ e. ne (oe ∙ e))))

    module _ (x : ℕ) (own : o ≡ i) (xe : x ≡ byte_at holders q) where
      pub exported_own : x - 1 ≡ exported_at owners holders i q
      unfolding exported_at owns_at
      exported_own = ap (λ y. y - 1) xe ∙ sym (ap (λ b. cond b (byte_at holders q - 1) 0) (eq-eqb (owner_at owners q) i (sym oe ∙ own)))

      pub exported_none : x ≡ 0 → 0 ≡ exported_at owners holders i q
      exported_none z = (let n : 0 ≡ x - 1 = omega arith in n) ∙ exported_own

  pub exports_start : 0 ≡ export_tally owners holders i 0
  unfolding export_tally
  exports_start = sym (total_start 0 (exported_at owners holders i))

  pub exports_turn : (q n x : ℕ) → n ≡ export_tally owners holders i q → x ≡ exported_at owners holders i q → n + x ≡ export_tally owners holders i (q + 1)
  unfolding export_tally
  exports_turn q n x e f = ap₂ ◌+◌ e (f ∙ ap (exported_at owners holders i) (sym (zero-add q))) ∙ sym (total_turn 0 (exported_at owners holders i) q)

  pub exports_end : (q cells n : ℕ) → q ≤ cells → cells ≤ q → n ≡ export_tally owners holders i q → n ≡ export_tally owners holders i cells
  exports_end q cells n g h e = at_last (λ k. n ≡ export_tally owners holders i k) q cells g h e

-- ---- the exports by stamps

-- lists of which the later ones are empty
blocks_short : (a n k : ℕ) (g : ℕ → List ℕ) → ((x : ℕ) → n ≤ x → x < n + k → g (a + x) ≡ []) → blocks a (n + k) g ≡ blocks a n g
unfolding blocks
blocks_short a n zero g f = ap (λ x. blocks a x g) (add-zero n)
blocks_short a n (suc k) g f =
    let e : n + suc k ≡ suc (n + k) = omega arith in
    ap (λ x. blocks a x g) e ∙ ap₂ ◌++◌ (blocks_short a n k g (λ x l h. f x l (omega arith))) (f (n + k) (omega arith) (omega arith)) ∙ append-nil (blocks a n g)

-- those after n, if the first n have all the members of the first n + k
blocks_full : (a n k : ℕ) (g : ℕ → List ℕ) → total a n (λ x. length (g x)) ≡ total a (n + k) (λ x. length (g x)) → (x : ℕ) → n ≤ x → x < n + k → g (a + x) ≡ []
blocks_full a n k g e x l h =
    none (g (a + x))
    (omega (
      arith,
      e,
      total_grows a (λ y. length (g y)) n x l,
      total_turn a (λ y. length (g y)) x,
      total_grows a (λ y. length (g y)) (x + 1) (n + k) (omega arith),
    ))
  where
    none : (xs : List ℕ) → length xs ≡ 0 → xs ≡ []
    none [] z = refl
    none (y ∷ ys) z = let no : ⊥ = omega (arith, z) in absurd no

module _ (owners table : Bytes) (ends : List ℕ) (i first cells : ℕ) where
  pub sent_begin : (list : List ℕ) → Appended list list 0 0 (sent_list owners table ends i first cells 0)
  unfolding sent_list
  sent_begin list = subst (Appended list list 0 0) (sym (blocks_start 1 (λ j. part_cells owners table ends j first cells i))) (add_none list 0)

  pub sent_all : (parts k n : ℕ) (a b : List ℕ) → k ≤ parts → parts ≤ k → 1 ≤ i → parts ≤ most_parts → OwnersFew owners cells parts → Appended a b 0 n (sent_list owners table ends i first cells k)
      → Appended a b 0 n (sent_list owners table ends i first cells most_parts)
  unfolding sent_list
  sent_all parts k n a b g h low few M X =
      let z : parts + (most_parts - parts) ≡ most_parts = omega arith in
      let e : k ≡ parts = omega arith in
      subst (Appended a b 0 n)
      (ap (λ x. blocks 1 x (λ j. part_cells owners table ends j first cells i)) e
      ∙ sym (blocks_short 1 parts (most_parts - parts) (λ j. part_cells owners table ends j first cells i) (λ x l w. cells_none owners table ends i cells parts M (1 + x) (omega arith) first low))
      ∙ ap (λ x. blocks 1 x (λ j. part_cells owners table ends j first cells i)) z) X

  -- once all exports are listed, the later parts take none
  module _ (parts k n : ℕ) (a b : List ℕ) (l : k < parts) (few : parts ≤ most_parts) (e : n ≡ sent_ends owners table ends i first cells most_parts)
      (X : Appended a b 0 n (sent_list owners table ends i first cells k)) where
    later_none : (x : ℕ) → k ≤ x → x < k + (most_parts - k) → part_cells owners table ends (1 + x) first cells i ≡ []
    unfolding sent_ends sent_list
    later_none =
        let z : k + (most_parts - k) ≡ most_parts = omega arith in
        blocks_full 1 k (most_parts - k) (λ j. part_cells owners table ends j first cells i)
        (sym (blocks_length 1 (λ j. part_cells owners table ends j first cells i) k)
        ∙ (let c : length (blocks 1 k (λ j. part_cells owners table ends j first cells i)) ≡ n = omega (arith, X.count) in c)
        ∙ e
        ∙ ap (λ y. total 1 y (λ j. length (part_cells owners table ends j first cells i))) (sym z))

    pub sent_full : Appended a b 0 n (sent_list owners table ends i first cells most_parts)
    unfolding sent_list
    sent_full =
        let z : k + (most_parts - k) ≡ most_parts = omega arith in
        subst (Appended a b 0 n)
        (sym (blocks_short 1 k (most_parts - k) (λ j. part_cells owners table ends j first cells i) later_none)
        ∙ ap (λ x. blocks 1 x (λ j. part_cells owners table ends j first cells i)) z) X

    pub sent_filled : (sent : List ℕ) → Sent owners table ends i cells k sent → Sent owners table ends i cells most_parts sent
    sent_filled sent Y = record {
      size = Y.size;
      each = λ f j low high. told f j low high (ltb k j) refl;
      rest = λ j h. past j (most_parts + 1) sent Y.size (omega arith);
    }
      where
        told : (f j : ℕ) → 1 ≤ j → j ≤ most_parts → (c : Bool) → ltb k j ≡ c → count_at sent j ≡ length (part_cells owners table ends j f cells i)
        told f j low high true w =
            let p : 1 + (j - 1) ≡ j = omega arith in
            let g : k < j = ltb-true k j w in
            Y.rest j g
            ∙ sym (ap length (later_none (j - 1) (omega arith) (omega arith)))
            ∙ ap (λ x. length (part_cells owners table ends x first cells i)) p
            ∙ cells_many owners table ends i cells j first i
            ∙ sym (cells_many owners table ends i cells j f i)
        told f j low high false w = Y.each f j low (omega (arith, ltb-false k j w))

  -- to itself the part exports nothing
  module _ (low : 1 ≤ i) (high : i ≤ most_parts) (k : ℕ) (own : k + 1 ≡ i) where
    pub sent_pass : (n : ℕ) (a b : List ℕ) → Appended a b 0 n (sent_list owners table ends i first cells k) → Appended a b 0 n (sent_list owners table ends i first cells (k + 1))
    unfolding sent_list
    sent_pass n a b X =
        let z : 1 + k ≡ k + 1 = omega arith in
        subst (Appended a b 0 n)
        (sym (append-nil (blocks 1 k (λ j. part_cells owners table ends j first cells i)))
        ∙ ap (λ (xs : List ℕ). blocks 1 k (λ j. part_cells owners table ends j first cells i) ++ xs) (sym (own_none owners table ends i cells (1 + k) first low high (z ∙ own)))
        ∙ sym (blocks_turn 1 (λ j. part_cells owners table ends j first cells i) k)) X

    pub sent_passed : (sent : List ℕ) → Sent owners table ends i cells k sent → Sent owners table ends i cells (k + 1) sent
    sent_passed sent X = record {
      size = X.size;
      each = λ f j a b. told f j a b (ltb k j) refl;
      rest = λ j h. X.rest j (omega arith);
    }
      where
        told : (f j : ℕ) → 1 ≤ j → j ≤ k + 1 → (c : Bool) → ltb k j ≡ c → count_at sent j ≡ length (part_cells owners table ends j f cells i)
        told f j a b true w =
            let g : k < j = ltb-true k j w in
            X.rest j g ∙ sym (ap length (own_none owners table ends i cells j f low high (omega arith)))
        told f j a b false w = X.each f j a (omega (arith, ltb-false k j w))

  -- one part more, which is another
  module _ (low : 1 ≤ i) (high : i ≤ most_parts) (few : cells ≤ most_elements) (k : ℕ) (small : k < most_parts) (ne : k + 1 ≡ i → ⊥) (start next : List ℕ) (G : Grouped owners cells start next)
      (own other : ℕ) (oe : own ≡ get_or start i 0) (te : other ≡ get_or start (k + 1) 0) (s s₁ : Bytes) (F : Few k s)
      (P : Stamped (k + 1) s s₁ (reached_from table ends (group next cells other))) where
    reached : Stamped (k + 1) s s₁ (reached_at owners table ends (k + 1) cells)
    reached = group_stamps owners cells start next G (k + 1) other (omega arith) te table ends (k + 1) s s₁ P

    pub stamps_few : Few (k + 1) s₁
    stamps_few = record { room = P.room; each = λ x. go x (ltb x most_elements) refl }
      where
        most : (b : Bool) (x : ℕ) → x ≤ k → cond b (k + 1) x ≤ k + 1
        most true x l = omega arith
        most false x l = omega arith

        go : (x : ℕ) (t : Bool) → ltb x most_elements ≡ t → byte_at s₁ x ≤ k + 1
        go x true e = omega (arith, reached.each x (ltb-true x most_elements e), most (reached_at owners table ends (k + 1) cells x) (byte_at s x) (F.each x))
        go x false e = let l : most_elements ≤ x = ltb-false x most_elements e in omega (arith, get_or_past s₁ x 0 (omega (arith, P.room)))

    -- of the cells that are not its own, part k + 1 imports those from i that part i owns and it reaches
    imports_one : (o : ℕ) (l t r : Bool) → eqb (cond (eqb o (k + 1)) (cond l (cond t 17 18) 0) (cond r o 0)) i ≡ eqb o i && r
    imports_one o l t r = go (eqb o (k + 1)) refl r
      where
        own_class : (l t : Bool) → eqb (cond l (cond t 17 18) 0) i ≡ false
        own_class true true = ne_eqb 17 i (λ z. let no : ⊥ = omega arith in no)
        own_class true false = ne_eqb 18 i (λ z. let no : ⊥ = omega arith in no)
        own_class false t = ne_eqb 0 i (λ z. let no : ⊥ = omega arith in no)

        all : (b : Bool) → b ≡ b && true
        all true = refl
        all false = refl

        go : (a : Bool) → eqb o (k + 1) ≡ a → (r : Bool) → eqb (cond a (cond l (cond t 17 18) 0) (cond r o 0)) i ≡ eqb o i && r
        go true e r = own_class l t ∙ sym (and_left (eqb o i) r (ne_eqb o i (λ z. ne (sym (eqb-true o (k + 1) e) ∙ z))))
        go false e true = all (eqb o i)
        go false e false = ne_eqb 0 i (λ z. let no : ⊥ = omega arith in no) ∙ sym (and_right (eqb o i) false refl)

    stamped_is : (q : ℕ) → q < cells → eqb (byte_at s₁ q) (k + 1) ≡ reached_at owners table ends (k + 1) cells q
    stamped_is q l = ap (λ x. eqb x (k + 1)) (reached.each q (omega arith)) ∙ go (reached_at owners table ends (k + 1) cells q)
      where
        go : (b : Bool) → eqb (cond b (k + 1) (byte_at s q)) (k + 1) ≡ b
        go true = eq-eqb (k + 1) (k + 1) refl
        go false = ne_eqb (byte_at s q) (k + 1) (λ e. let no : ⊥ = omega (arith, F.each q) in no)

    stamped_cells : class_among s₁ first (k + 1) (group next cells own) ≡ part_cells owners table ends (k + 1) first cells i
    unfolding part_cells class_at owns_at
    stamped_cells =
        group_among owners cells start next G i own (omega arith) oe s₁ first (k + 1)
        ∙ blocks_cong 0 (λ q. cond (eqb (owner_at owners q) i && eqb (byte_at s₁ q) (k + 1)) ((first + q) ∷ []) [])
        (λ q. cond (eqb (cond (eqb (owner_at owners q) (k + 1)) (cond (ltb q cells) (cond (inside_at owners table ends (k + 1) q) 17 18) 0)
        (cond (reached_at owners table ends (k + 1) cells q) (owner_at owners q) 0)) i) ((first + q) ∷ []) []) cells
        (λ q l.
        ap (λ b. cond b ((first + (0 + q)) ∷ []) [])
        (ap (λ b. eqb (owner_at owners (0 + q)) i && b) (stamped_is (0 + q) (omega arith))
        ∙ sym (imports_one (owner_at owners (0 + q)) (ltb (0 + q) cells) (inside_at owners table ends (k + 1) (0 + q)) (reached_at owners table ends (k + 1) cells (0 + q)))))

    module _ (n t : ℕ) (b c : List ℕ) (Y : Appended b c n t (class_among s₁ first (k + 1) (group next cells own))) where
      pub sent_more : (a : List ℕ) → Appended a b 0 n (sent_list owners table ends i first cells k) → Appended a c 0 t (sent_list owners table ends i first cells (k + 1))
      unfolding sent_list
      sent_more a X =
          let z : k + 1 ≡ 1 + k = omega arith in
          subst (Appended a c 0 t)
          (ap (λ (xs : List ℕ). blocks 1 k (λ j. part_cells owners table ends j first cells i) ++ xs) (stamped_cells ∙ ap (λ j. part_cells owners table ends j first cells i) z)
          ∙ sym (blocks_turn 1 (λ j. part_cells owners table ends j first cells i) k))
          (add_both a b c 0 n t (blocks 1 k (λ j. part_cells owners table ends j first cells i)) (class_among s₁ first (k + 1) (group next cells own)) X Y)

      pub sent_counted : (parts : ℕ) (sent after : List ℕ) → k < parts → parts ≤ most_parts → Sent owners table ends i cells k sent → after ≡ set sent (k + 1) (t - n)
          → Sent owners table ends i cells (k + 1) after
      sent_counted parts sent after l most X e =
          sent_turn owners table ends i cells k parts (t - n) sent after l most X
          (omega (arith, Y.count, ap length stamped_cells, cells_many owners table ends i cells (k + 1) first i)) e

-- ---- local numbers, from a cleared array

pub order_numbered : (order : List ℕ) (n : ℕ) (list empty local : List ℕ) → length list ≡ element_places → empty ≡ replicate (length list) 0 → local ≡ numbering 0 (take n order) empty
    → local ≡ numbers_of order n
order_numbered order n list empty local l f e = e ∙ ap (numbering 0 (take n order)) (f ∙ ap (λ k. replicate k 0) l)

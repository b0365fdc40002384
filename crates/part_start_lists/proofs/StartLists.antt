-- The lists of a part's state, put together from their pieces, and the depths behind them. Assumes nothing.
use mathlib.Core.Path.{◌≡◌, sym, ap, ap₂, ◌∙◌, subst}
use mathlib.Core.List.{List, [], ◌∷◌, ◌++◌, map, append_assoc}
use Prim.Native.Nat.{ℕ, ◌+◌, ◌-◌, ◌*◌, ◌≤◌, ◌<◌}
use native.Mathlib.Nat.{zero-add}
use native.Mathlib.Omega.{arith}
use lib.ListN.{length, get_or, take, drop, length-append}
use lib.Seq.{length-take-le, take-append_seam}
use Rattle.vocabulary.specs.Bytes.{Bytes, over}
use Rattle.vocabulary.proofs.ByteLaws.{over_front}
use Rattle.vocabulary.specs.Intervals.{listed, blocks, total}
use Rattle.vocabulary.proofs.IntervalLaws.{listed_cong, listed_length, blocks_cong, blocks_length, total_agree}
use Rattle.layout.specs.Words.{word_at}
use Rattle.layout.specs.Limits.{most_elements, most_parts, most_records}
use Rattle.split_classes.specs.Classes.{Classed, class_cells, part_cells, class_order, Appended}
use Rattle.split_cells.proofs.ClassLists.{row_cells}
use Rattle.split_cells.proofs.AddLaws.{added_fits, added_take, class_count_lem}
use Rattle.depths.specs.Depths.{four}
use Rattle.depths.proofs.DepthLaws.{length_four, fours_store}
use Rattle.part_state.specs.State.{import_word, reach_word, exports_word}
use Rattle.part_state.specs.Checks.{Small, point_start, word_count}
use Rattle.part_state.specs.declared.places.Sizes.{Sizes}
use Rattle.word_lists.specs.Putting.{Put}
use Rattle.part_start_lists.specs.Starting.{local_in, numbers_of, start_words, got_ends, sent_ends, sent_list, sent_words, row_ends, row_words, numbered_words}
use Rattle.part_start_lists.specs.Starting.{start_depth, FieldCells, got_from, sent_from, count_at, ends_by, Tallied, Got, Sent, Fit, TablesFit, Drawn}
use Rattle.part_start_lists.specs.Starting.{part_order, part_owned}
use Rattle.part_calls.proofs.OpenedLaws.{four_cut}
use Rattle.word_lists.proofs.PutLaws.{put_as, put_both}
use Rattle.word_lists.proofs.RegionLaws.{joined_length, joined_append, regions_two, regions_three, regions_four}
use Rattle.part_start_lists.proofs.StartCounts.{rows_long, all_long, sent_mapped}

-- the words before the tables
pub head_count : (long i steps kind first cells : ℕ) (v a b : Bytes) (t : ℕ) → Put a b 0 t ((long ∷ i ∷ steps ∷ kind ∷ []) ++ (listed 0 5 (word_at v) ++ (first ∷ cells ∷ []))) → t ≡ import_word
head_count long i steps kind first cells v a b t P = omega (arith, P.count, length-append (listed 0 5 (word_at v)) (first ∷ cells ∷ []), listed_length 0 (word_at v) 5)

-- ---- the tables of ends by the arrays of counts

module _ (owners table : Bytes) (ends : List ℕ) (i first cells : ℕ) where
  pub got_is : (got : List ℕ) → Got owners table ends i cells got → (owned j : ℕ) → j ≤ most_parts → ends_by got owned j ≡ got_ends owners table ends i first cells owned j
  unfolding ends_by got_ends
  got_is got G owned j h = ap (λ x. owned + x) (total_agree (count_at got) (λ k. length (got_from owners table ends i first cells k)) most_parts j h (λ k l q. G.each first k l q))

  pub sent_total : (sent : List ℕ) → Sent owners table ends i cells most_parts sent → (j : ℕ) → j ≤ most_parts → total 1 j (count_at sent) ≡ sent_ends owners table ends i first cells j
  unfolding sent_ends
  sent_total sent X j h = total_agree (count_at sent) (λ k. length (sent_from owners table ends i first cells k)) most_parts j h (λ k l q. X.each first k l q)

  pub sent_is : (sent : List ℕ) → Sent owners table ends i cells most_parts sent → (j : ℕ) → j ≤ most_parts → ends_by sent 0 j ≡ sent_ends owners table ends i first cells j
  unfolding ends_by
  sent_is sent X j h = zero-add _ ∙ sent_total sent X j h

  borders_are : (got sent : List ℕ) (owned : ℕ) → Got owners table ends i cells got → Sent owners table ends i cells most_parts sent
      → listed 0 (most_parts + 1) (ends_by got owned) ++ listed 0 (most_parts + 1) (ends_by sent 0) ≡ listed 0 (most_parts + 1) (got_ends owners table ends i first cells owned) ++ listed 0
      (most_parts + 1) (sent_ends owners table ends i first cells)
  borders_are got sent owned G X =
      ap₂ ◌++◌ (listed_cong 0 (ends_by got owned) (got_ends owners table ends i first cells owned) (most_parts + 1) (λ k h. got_is got G owned (0 + k) (omega arith)))
      (listed_cong 0 (ends_by sent 0) (sent_ends owners table ends i first cells) (most_parts + 1) (λ k h. sent_is sent X (0 + k) (omega arith)))

pub front_count : (long i steps kind first cells : ℕ) (v : Bytes) (owned : ℕ) (got sent : List ℕ) (a b : Bytes) (t : ℕ)
    → Put a b 0 t (((long ∷ i ∷ steps ∷ kind ∷ []) ++ (listed 0 5 (word_at v) ++ (first ∷ cells ∷ []))) ++
    (listed 0 (most_parts + 1) (ends_by got owned) ++ listed 0 (most_parts + 1) (ends_by sent 0))) → t ≡ reach_word 0
front_count long i steps kind first cells v owned got sent a b t P =
    omega (
      arith,
      P.count,
      length-append ((long ∷ i ∷ steps ∷ kind ∷ []) ++ (listed 0 5 (word_at v) ++ (first ∷ cells ∷ []))) (listed 0 (most_parts + 1) (ends_by got owned) ++ listed 0 (most_parts + 1) (ends_by sent 0)),
      length-append (listed 0 5 (word_at v)) (first ∷ cells ∷ []),
      listed_length 0 (word_at v) 5,
      length-append (listed 0 (most_parts + 1) (ends_by got owned)) (listed 0 (most_parts + 1) (ends_by sent 0)),
      listed_length 0 (ends_by got owned) (most_parts + 1),
      listed_length 0 (ends_by sent 0) (most_parts + 1),
    )

-- the exports stand at the front of their list
sent_taken : (a b ws : List ℕ) (n k : ℕ) → Appended a b 0 n ws → k ≡ length ws → k ≤ length a → take k b ≡ ws
sent_taken a b ws n k X e h =
    ap₂ (λ j (xs : List ℕ). take j xs) e (X.text (omega (arith, X.count)) ∙ over_front a ws) ∙ take-append_seam ws (drop (length ws) a)

sent_length : (owners table : Bytes) (ends : List ℕ) (i first cells : ℕ) → length (sent_list owners table ends i first cells most_parts) ≡ sent_ends owners table ends i first cells most_parts
unfolding sent_list sent_ends
sent_length owners table ends i first cells = blocks_length 1 (λ j. part_cells owners table ends j first cells i) most_parts

-- ---- all pieces

module _ (owners table : Bytes) (ends : List ℕ) (i first cells : ℕ) (order : List ℕ) where
  module _ (n : ℕ) (local : List ℕ) (owned long steps kind : ℕ) (v : Bytes) where
    -- what comes after the two tables
    abbrev later : List ℕ
    later =
        take n order
        ++ (listed 0 (owned + 1) (row_ends table ends first order)
        ++ (blocks 1 owned (row_words table ends first order local)
        ++ blocks 1 most_parts (sent_words owners table ends i first cells local)))

    words_are : ((long ∷ i ∷ steps ∷ kind ∷ []) ++ (listed 0 5 (word_at v) ++ (first ∷ cells ∷ [])))
        ++ ((listed 0 (most_parts + 1) (got_ends owners table ends i first cells owned) ++ listed 0 (most_parts + 1) (sent_ends owners table ends i first cells)) ++ later)
        ≡ numbered_words owners table ends i first cells order n local owned long steps kind v
    unfolding numbered_words
    words_are =
        let G = listed 0 (most_parts + 1) (got_ends owners table ends i first cells owned) in
        let E = listed 0 (most_parts + 1) (sent_ends owners table ends i first cells) in
        let R = listed 0 (owned + 1) (row_ends table ends first order) in
        let N = blocks 1 owned (row_words table ends first order local) in
        let X = blocks 1 most_parts (sent_words owners table ends i first cells local) in
        ap₂ ◌++◌ (regions_three _ (listed 0 5 (word_at v)) (first ∷ cells ∷ []))
        (ap₂ ◌++◌ (regions_two G E) (regions_four (take n order) R N X) ∙ sym (joined_append (G ∷ E ∷ []) (take n order ∷ R ∷ N ∷ X ∷ [])))
        ∙ sym (joined_append (_ ∷ listed 0 5 (word_at v) ∷ (first ∷ cells ∷ []) ∷ []) (G ∷ E ∷ take n order ∷ R ∷ N ∷ X ∷ []))

    pub words_long : (at : ℕ) → at ≡ exports_word n owned (row_ends table ends first order owned) + sent_ends owners table ends i first cells most_parts → n ≤ length order
        → length (numbered_words owners table ends i first cells order n local owned long steps kind v) ≡ at
    unfolding numbered_words
    words_long at e h =
        joined_length _
        ∙ omega (
          arith,
          e,
          listed_length 0 (word_at v) 5,
          listed_length 0 (got_ends owners table ends i first cells owned) (most_parts + 1),
          listed_length 0 (sent_ends owners table ends i first cells) (most_parts + 1),
          listed_length 0 (row_ends table ends first order) (owned + 1),
          length-take-le n order h,
          rows_long table ends first order local owned,
          all_long owners table ends i first cells local,
        )

    pub lists_put : (got sent before list : List ℕ) (x k : ℕ) (a b c : Bytes) (t u : ℕ) → Got owners table ends i cells got → Sent owners table ends i cells most_parts sent
        → Appended before list 0 x (sent_list owners table ends i first cells most_parts) → k ≡ sent_ends owners table ends i first cells most_parts → k ≤ length before → 2 * reach_word 0 ≤ length a
        → Put a b 0 t (((long ∷ i ∷ steps ∷ kind ∷ []) ++ (listed 0 5 (word_at v) ++ (first ∷ cells ∷ [])))
        ++ (listed 0 (most_parts + 1) (ends_by got owned) ++ listed 0 (most_parts + 1) (ends_by sent 0)))
        → Put b c t u (take n order ++ (listed 0 (owned + 1) (row_ends table ends first order) ++ (blocks 1 owned (row_words table ends first order local) ++ map (local_in local) (take k list))))
        → Put a c 0 u (numbered_words owners table ends i first cells order n local owned long steps kind v)
    lists_put got sent before list x k a b c t u G X Y ke there room P Q =
        let e = sent_taken before list (sent_list owners table ends i first cells most_parts) x k Y (ke ∙ sym (sent_length owners table ends i first cells)) there in
        put_as a c 0 u _ _
        (append_assoc ((long ∷ i ∷ steps ∷ kind ∷ []) ++ (listed 0 5 (word_at v) ++ (first ∷ cells ∷ []))) (listed 0 (most_parts + 1) (ends_by got owned)
        ++ listed 0 (most_parts + 1) (ends_by sent 0)) _
        ∙ ap₂ (λ (bs : List ℕ) (xs : List ℕ). ((long ∷ i ∷ steps ∷ kind ∷ []) ++ (listed 0 5 (word_at v) ++ (first ∷ cells ∷ []))) ++ (bs ++ (take n order
        ++ (listed 0 (owned + 1) (row_ends table ends first order) ++ (blocks 1 owned (row_words table ends first order local) ++ xs)))))
        (borders_are owners table ends i first cells got sent owned G X) (ap (map (local_in local)) e ∙ sent_mapped owners table ends i first cells local most_parts)
        ∙ words_are)
        (put_both a b c 0 t u _ _ P Q (omega (arith, front_count long i steps kind first cells v owned got sent a b t P)))

-- the lists by the local numbers of the order
pub lists_numbered : (a b : Bytes) (s t : ℕ) (owners table : Bytes) (ends : List ℕ) (i first cells : ℕ) (order : List ℕ) (n owned long steps kind : ℕ) (v : Bytes) (local : List ℕ)
    → local ≡ numbers_of order n → Put a b s t (numbered_words owners table ends i first cells order n local owned long steps kind v)
    → Put a b s t (start_words owners table ends i first cells order n owned long steps kind v)
lists_numbered a b s t owners table ends i first cells order n owned long steps kind v local e P =
    put_as a b s t _ _ (ap (λ l. numbered_words owners table ends i first cells order n l owned long steps kind v) e) P

-- ---- the plan by the tables

-- a row tells the order that the tables tell
pub row_order : (owners table : Bytes) (ends : List ℕ) (i first cells parts : ℕ) (class : Bytes) → cells ≤ most_elements → Classed owners table ends i cells class
    → class_order class first cells parts ≡ part_order owners table ends i first cells parts
unfolding class_order part_order
row_order owners table ends i first cells parts class few C =
    ap₂ ◌++◌ (row_cells owners table ends i first cells 17 class few C)
    (ap₂ ◌++◌ (row_cells owners table ends i first cells 18 class few C)
    (blocks_cong 1 (class_cells class first cells) (part_cells owners table ends i first cells) parts (λ j h. row_cells owners table ends i first cells (1 + j) class few C)))

-- the counts of a part are small
pub plan_small : (z : Sizes) → z.held ≤ most_elements → z.owned ≤ z.held → z.reached < 65536 → z.sent ≤ 512000 → z.points ≤ most_elements → z.around ≤ most_records → Small z
plan_small z h o r s p a = record {
  held_small = omega arith;
  owned_small = omega arith;
  reached_small = r;
  sent_small = omega arith;
  points_small = omega arith;
  around_small = omega arith;
}

module _ (owners table : Bytes) (ends : List ℕ) (i first cells parts : ℕ) (F : TablesFit owners table ends i first cells parts) (class : Bytes) (C : Classed owners table ends i cells class)
    (a order : List ℕ) (n : ℕ) (X : Appended a order 0 n (class_order class first cells parts)) (room : most_elements ≤ length a) where
  order_same : class_order class first cells parts ≡ part_order owners table ends i first cells parts
  order_same = row_order owners table ends i first cells parts class F.cells_few C

  few : length (class_order class first cells parts) ≤ most_elements
  few = omega (arith, ap length order_same, F.order_few)

  there : n ≤ length order
  there = added_fits a order n (class_order class first cells parts) X room few

  order_is : take n order ≡ part_order owners table ends i first cells parts
  order_is = added_take a order n (class_order class first cells parts) X room few ∙ order_same

  module _ (got : List ℕ) (T : Tallied class cells got) (inner outer : ℕ) (ie : inner ≡ get_or got 17 0) (oe : outer ≡ get_or got 18 0) where
    owned_is : inner + outer ≡ part_owned owners table ends i first cells
    unfolding count_at part_owned
    owned_is =
        ap₂ ◌+◌ (ie ∙ T.each 17 (omega arith) ∙ sym (class_count_lem class 17 first cells) ∙ ap length (row_cells owners table ends i first cells 17 class F.cells_few C))
        (oe ∙ T.each 18 (omega arith) ∙ sym (class_count_lem class 18 first cells) ∙ ap length (row_cells owners table ends i first cells 18 class F.cells_few C))

    pub plan_fit : Fit owners table ends i first cells order n (inner + outer)
    plan_fit = subst (Fit owners table ends i first cells order n) (sym owned_is) (F.fit order n there order_is)

    module _ (z : Sizes) (he : z.held ≡ n) (we : z.owned ≡ inner + outer) (re : z.reached ≡ row_ends table ends first order (inner + outer)) where
      pub plan_drawn : (at long : ℕ) → at ≡ point_start z → long ≡ word_count z → Drawn owners table ends i first cells parts order n (inner + outer) z.sent z.points z.around at long
      plan_drawn at long ae le = record {
        there = there;
        order_is = order_is;
        owned_is = owned_is;
        at_is = omega (arith, ae, he, we, re);
        long_is = omega (arith, ae, le);
      }

-- ---- the depths

depth_four : (f : Bytes) (first : ℕ) (order : List ℕ) (l : ℕ) → length (start_depth f first order l) ≡ 4
unfolding start_depth
depth_four f first order l = length_four f _

module _ (f : Bytes) (first : ℕ) (order : List ℕ) (n : ℕ) (C : FieldCells f first order n) (l : ℕ) (h : 1 ≤ l) (k : l < n + 1) where
  pub held_low : first ≤ get_or order (l - 1) 0
  held_low = omega (arith, (C.each l h (omega arith)).0)

  module _ (q : ℕ) (qe : q ≡ get_or order (l - 1) 0 - first) where
    pub held_room : 4 * q + 4 ≤ length f
    held_room = omega (arith, (C.each l h (omega arith)).0, (C.each l h (omega arith)).1)

    depth_is : four f (4 * q) ≡ start_depth f first order (1 + (l - 1))
    unfolding start_depth
    depth_is = let p : 1 + (l - 1) - 1 ≡ l - 1 = omega arith in ap (λ x. four f (4 * x)) (qe ∙ ap (λ j. get_or order j 0 - first) (sym p))

    pub held_turn : (b x y : Bytes) (at : ℕ) → at + 4 * n ≤ length b → x ≡ over b at (blocks 1 (l - 1) (start_depth f first order)) → y ≡ over x (at + 4 * (l - 1)) (take 4 (drop (4 * q) f))
        → y ≡ over b at (blocks 1 (l + 1 - 1) (start_depth f first order))
    held_turn b x y at room e w =
        let p : l - 1 + 1 ≡ l + 1 - 1 = omega arith in
        w
        ∙ ap₂ (λ (u : Bytes) (w : Bytes). over u (at + 4 * (l - 1)) w) e (four_cut f (4 * q) held_room ∙ depth_is)
        ∙ fours_store 1 (l - 1) (start_depth f first order) (λ t c. depth_four f first order (1 + t)) b at (omega arith)
        ∙ ap (λ m. over b at (blocks 1 m (start_depth f first order))) p

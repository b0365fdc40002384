-- The plan of a part, the state that is written by it, and what start and state size answer. Assumes nothing.
use mathlib.Core.Path.{◌≡◌, refl, sym, ap, ap₂, ◌∙◌, subst, subst₂}
use mathlib.Core.Bool.{Bool, true, false, cond}
use mathlib.Core.List.{List, [], ◌∷◌, ◌++◌, map, append_assoc, reverse}
use Prim.Native.Nat.{ℕ, ◌+◌, ◌-◌, ◌*◌, ◌≤◌, ◌<◌}
use native.Mathlib.Nat.{zero-add}
use native.Mathlib.Omega.{arith}
use lib.ListN.{length, take, drop, replicate, length-append, length-map, length-reverse, length-replicate}
use lib.Seq.{length-take-le, take-take, drop_at, take-append-le}
use borrow.Author.Tests.{lt-ltb, le-ltb}
use Rattle.vocabulary.specs.Bytes.{Bytes, byte_at, over}
use Rattle.vocabulary.proofs.ByteLaws.{over_length, over_more}
use Rattle.vocabulary.specs.Intervals.{listed, blocks}
use Rattle.vocabulary.proofs.IntervalLaws.{listed_at, listed_length, blocks_cong, blocks_length, total_cong}
use Rattle.vocabulary.specs.Tests.{Test, refuse, first_of}
use Rattle.layout.specs.Words.{word_at, word_bytes, bytes_of}
use Rattle.layout.proofs.WordLaws.{length_bytes_of, bytes_of_append}
use Rattle.depths.specs.Depths.{four}
use Rattle.layout.specs.Answers.{answer}
use Rattle.layout.proofs.AnswerLaws.{answer_done, answer_refused, refuses, accepts}
use Rattle.layout.specs.Answers.{Answer}
use Rattle.layout.specs.Answers.{Done, Refused}
use Rattle.layout.specs.Limits.{most_elements, most_parts, most_records}
use Rattle.split.proofs.PointLaws.{points_few, point_cells_few}
use Rattle.mesh.specs.Mesh.{first_cell, cell_count, counted}
use Rattle.mesh.specs.Walks.{steps, bad13}
use Rattle.round_rule.specs.Rules.{bad11}
use Rattle.round.specs.Rounds.{scheme_of, depth_in, bad14}
use Rattle.split.specs.Split.{split_of, interior, halo, locals, global_of, points_of, points_in, around_of, point_ends, bad29}
use Rattle.split.proofs.SplitLaws.{own_count, split_then, split_refuses, sizes_fine, sizes_then, sizes_refuse, map_facts}
use Rattle.split.specs.Lists.{bad12, size_tests, split_number, sizes_number, split_input}
use Rattle.split.specs.Owners.{owns_at}
use Rattle.split_classes.specs.Classes.{holder_count, class_at, Classed, Prepared, Appended}
use Rattle.split_classes.proofs.HoldLaws.{exports_told}
use Rattle.split.proofs.PassedLaws.{Passed, twice, passed_facts}
use Rattle.split_cells.proofs.ClassLists.{row_cells, interior_is, halo_is, order_is as cells_order, locals_few}
use Rattle.part_start_plan.specs.Start.{owned_in, export_ends, lists_long, state_size, size_number, size_answer, first_state, last_tests, start_number, start_answer, start_state, inputs, Inputs}
use Rattle.word_lists.specs.Putting.{Put}
use Rattle.word_lists.proofs.PutLaws.{put_as}
use Rattle.part_state.specs.State.{exports_word, depths_place, state_length}
use Rattle.part_start_lists.specs.Starting.{local_in, numbers_of, row_ends, row_words, sent_ends, sent_list, ends_by, numbered_words, start_words, start_depth}
use Rattle.part_start_lists.specs.Starting.{Got, Sent, Fit, FieldCells, exported_at, export_tally, part_order, part_owned, TablesFit, Drawn}
use Rattle.part_start_lists.specs.declared.inner.Plan.{Plan}
use Rattle.part_start_points.specs.Points.{points_on, size_ends, point_words, word_count, cell_words, part_words}
use Rattle.part_start_points.specs.Outside.{some_outside}
use Rattle.part_start_points.proofs.SplitOutside.{outside_told}
use Rattle.part_start_points.proofs.SplitPoints.{points_counted, cells_counted, words_counted, words_told}
use Rattle.walk_incidence.specs.declared.inner.Incidence.{Incidence}
use Rattle.walk_incidence.specs.Links.{Inverted}
use Rattle.part_start_plan.specs.Planning.{Planned, PointsFit, PointRoom}
use Rattle.part_start_lists.proofs.StartLists.{row_order, words_long, lists_put, lists_numbered}
use Rattle.part_start_plan.proofs.StartFit.{fit_from, cells_from}
use Rattle.part_start_plan.proofs.StartWords.{start_words_lem, front_is, front_few, order_at, sent_ends_lem, sent_few, exports_sixteen}
use Rattle.mesh.proofs.AcceptedLaws.{cells_few, cells_fit}

-- ---- the plan

module _ (m : Bytes) (parts : ℕ) (owners : Bytes) (i : ℕ) (st table : Bytes) (ends : List ℕ) (holders : Bytes) (sn : split_number m parts owners (i ∷ i ∷ []) st ≡ 0)
    (zn : sizes_number m parts owners st ≡ 0) (R : Prepared m parts owners st table ends holders) where
  P : Passed m parts owners i i st
  P = passed_facts m parts owners i i st sn

  twelve : bad12 (split_of m parts owners st) ≡ false
  twelve = (sizes_fine m parts owners st zn).0

  thirteen : bad13 m st ≡ false
  thirteen = (sizes_fine m parts owners st zn).1

  -- a row with the classes that the tables tell
  row : Bytes
  row = listed 0 most_elements (class_at owners table ends i (cell_count m))

  row_classed : Classed owners table ends i (cell_count m) row
  unfolding row
  row_classed = record {
    room = listed_length 0 (class_at owners table ends i (cell_count m)) most_elements;
    each = λ x h. listed_at 0 (class_at owners table ends i (cell_count m)) most_elements x 0 h ∙ ap (class_at owners table ends i (cell_count m)) (zero-add x);
  }

  few : cell_count m ≤ most_elements
  few = cells_few m (cell_count m) P.mesh refl

  order_told : part_order owners table ends i (first_cell m) (cell_count m) parts ≡ locals (split_of m parts owners st) i
  order_told =
      sym (row_order owners table ends i (first_cell m) (cell_count m) parts row few row_classed)
      ∙ cells_order m parts owners st table ends holders R i (first_cell m) (cell_count m) refl refl row row_classed

  owned_told : part_owned owners table ends i (first_cell m) (cell_count m) ≡ owned_in (split_of m parts owners st) i
  unfolding part_owned
  owned_told =
      ap₂ ◌+◌
      (ap length (sym (row_cells owners table ends i (first_cell m) (cell_count m) 17 row few row_classed)
      ∙ interior_is m parts owners st table ends holders R i (first_cell m) (cell_count m) refl refl row row_classed))
      (ap length (sym (row_cells owners table ends i (first_cell m) (cell_count m) 18 row few row_classed)
      ∙ halo_is m parts owners st table ends holders R i (first_cell m) (cell_count m) refl refl row row_classed))
      ∙ sym (length-append (interior (split_of m parts owners st) i) (halo (split_of m parts owners st) i))
      ∙ own_count (split_of m parts owners st) i

  module _ (order : List ℕ) (n owned : ℕ) (there : n ≤ length order) (oe : take n order ≡ part_order owners table ends i (first_cell m) (cell_count m) parts)
      (we : owned ≡ part_owned owners table ends i (first_cell m) (cell_count m)) where
    order_is : take n order ≡ locals (split_of m parts owners st) i
    order_is = oe ∙ order_told

    held_is : n ≡ length (locals (split_of m parts owners st) i)
    held_is = sym (length-take-le n order there) ∙ ap length order_is

    fits : Fit owners table ends i (first_cell m) (cell_count m) order n owned
    fits =
        fit_from m parts owners st table ends holders R i P.i_in.0 P.i_in.1 (first_cell m) (cell_count m) refl refl order n owned order_is held_is (we ∙ owned_told) there
        twelve thirteen

  fitting : TablesFit owners table ends i (first_cell m) (cell_count m) parts
  fitting = record {
    cells_fit = cells_fit m (first_cell m) (cell_count m) P.mesh refl refl;
    cells_few = few;
    parts_few = P.few;
    order_few = omega (arith, ap length order_told, locals_few m parts owners st table ends holders R i);
    fit = λ order n there oe. fits order n (part_owned owners table ends i (first_cell m) (cell_count m)) there oe refl;
  }

  sent_told : export_tally owners holders i (cell_count m) ≡ sent_ends owners table ends i (first_cell m) (cell_count m) most_parts
  unfolding export_tally exported_at
  sent_told =
      total_cong 0 (λ q. cond (owns_at owners i q) (byte_at holders q - 1) 0) (λ q. cond (owns_at owners i q) (holder_count (split_of m parts owners st) (first_cell m + q) - 1) 0) (cell_count m)
      (λ q h. ap (λ x. cond (owns_at owners i (0 + q)) (x - 1) 0) (R.held (0 + q) (omega arith)))
      ∙ sym (exports_told m parts owners st i P.i_in.0 P.i_high)
      ∙ sym (exports_sixteen m parts owners st table ends holders R i)
      ∙ sym (unfold export_ends in sent_ends_lem m parts owners st table ends holders R i P.i_in.0 P.i_in.1 (first_cell m) (cell_count m) refl refl most_parts (omega arith))

  -- by the numbers that the code has
  module _ (part count first cells : ℕ) (pe : part ≡ i) (qe : count ≡ parts) (fe : first ≡ first_cell m) (ce : cells ≡ cell_count m) where
    pub plan_fitting : TablesFit owners table ends part first cells count
    plan_fitting =
        subst₂ (λ x y. TablesFit owners table ends x first cells y) (sym pe) (sym qe)
        (subst₂ (λ x y. TablesFit owners table ends i x y parts) (sym fe) (sym ce) fitting)

  -- the points by the trails
  module _ (inc : Incidence) (G : Inverted m inc) (part first all points around : ℕ) (pe : part ≡ i) (fe : first ≡ first_cell m) (ae : all ≡ counted m 0)
      (ve : points ≡ length (points_on inc owners first part all))
      (se : around ≡ size_ends inc (points_on inc owners first part all) (length (points_on inc owners first part all))) where
    points_is : points ≡ points_in (split_of m parts owners st) i
    points_is = points_counted m parts owners st inc G i first all fe ae points (ve ∙ ap (λ x. length (points_on inc owners first x all)) pe)

    around_is : around ≡ point_ends (split_of m parts owners st) i (points_in (split_of m parts owners st) i)
    around_is =
        cells_counted m parts owners st inc G i first all fe ae around
        (se ∙ ap (λ x. let ps = points_on inc owners first x all in size_ends inc ps (length ps)) pe)

    pub plan_points : points ≤ most_elements
    plan_points = omega (arith, points_is, points_few m P.mesh parts owners st i)

    pub plan_around : around ≤ most_records
    unfolding point_ends
    plan_around = omega (arith, around_is, point_cells_few m P.mesh parts owners st i)

    module _ (p : Plan) (parts_is : p.asked.parts ≡ parts) (part_is : p.asked.part ≡ i) (first_is : p.asked.first ≡ first_cell m) (cells_are : p.asked.cells ≡ cell_count m) (order got : List ℕ)
        (D : Drawn owners table ends p.asked.part p.asked.first p.asked.cells p.asked.parts order p.held p.owned p.sent points around p.front p.long)
        (T : Got owners table ends p.asked.part p.asked.cells got) (sent_told' : p.sent ≡ export_tally owners holders i (cell_count m)) where
      abbrev n : ℕ
      n = p.held

      drawn : Drawn owners table ends i (first_cell m) (cell_count m) parts order p.held p.owned p.sent points around p.front p.long
      drawn =
          subst₂ (λ x y. Drawn owners table ends i x y parts order p.held p.owned p.sent points around p.front p.long) first_is cells_are
          (subst₂ (λ x y. Drawn owners table ends x p.asked.first p.asked.cells y order p.held p.owned p.sent points around p.front p.long) part_is parts_is D)

      order_here : take p.held order ≡ locals (split_of m parts owners st) i
      order_here = order_is order p.held p.owned drawn.there drawn.order_is drawn.owned_is

      held_here : p.held ≡ length (locals (split_of m parts owners st) i)
      held_here = held_is order p.held p.owned drawn.there drawn.order_is drawn.owned_is

      sent_here : p.sent ≡ sent_ends owners table ends p.asked.part p.asked.first p.asked.cells most_parts
      sent_here =
          sent_told' ∙ sent_told
          ∙ ap₂ (λ x y. sent_ends owners table ends i x y most_parts) (sym first_is) (sym cells_are)
          ∙ ap (λ x. sent_ends owners table ends x p.asked.first p.asked.cells most_parts) (sym part_is)

      pub plan_made : Planned m parts owners i st table ends order got p
      plan_made = record {
        part_is = part_is;
        first_is = first_is;
        cells_are = cells_are;
        part_low = omega (arith, P.i_in.0);
        parts_few = omega (arith, P.few);
        owners_few = record { each = λ q h. omega (arith, ((map_facts m parts owners [] R.map).owner_in q (omega arith)).1) };
        order_is = order_here;
        held_is = held_here;
        owned_is = drawn.owned_is ∙ owned_told;
        got_are = T;
        sent_is = sent_here;
        sent_few =
            omega (
              arith,
              sent_told',
              sent_told,
              sent_few m parts owners st table ends holders R i P.i_in.0 P.i_in.1 (first_cell m) (cell_count m) refl refl twelve most_parts (omega arith),
            );
        fit =
            subst (λ x. Fit owners table ends x p.asked.first p.asked.cells order p.held p.owned) (sym part_is)
            (subst₂ (λ x y. Fit owners table ends i x y order p.held p.owned) (sym first_is) (sym cells_are)
            (fits order p.held p.owned drawn.there drawn.order_is drawn.owned_is));
        front_is = D.at_is ∙ ap (λ x. exports_word p.held p.owned (row_ends table ends p.asked.first order p.owned) + x) sent_here;
        long_is = omega (arith, D.long_is, points_is, around_is);
        long_few =
            omega (
              arith,
              drawn.at_is,
              sent_told',
              sent_told,
              drawn.long_is,
              plan_points,
              plan_around,
              front_few m parts owners st table ends holders R i P.i_in.0 P.i_in.1 (first_cell m) (cell_count m) refl refl order p.held p.owned order_here held_here
                  (drawn.owned_is ∙ owned_told) twelve thirteen,
            );
      }

-- ---- the bytes

pub rest_put : (b x y : Bytes) (at n : ℕ) (f : Bytes) (first : ℕ) (order : List ℕ) → state_length at n ≤ length b → x ≡ over b at (replicate (depths_place 0) 0)
    → y ≡ over x (depths_place at) (blocks 1 n (start_depth f first order)) → y ≡ over b at (replicate (depths_place 0) 0 ++ blocks 1 n (start_depth f first order))
rest_put b x y at n f first order room xe ye =
    let q : depths_place at ≡ at + length (replicate {A = ℕ} (depths_place 0) 0) = omega arith in
    ye
    ∙ ap₂ (λ (u : Bytes) o. over u o (blocks 1 n (start_depth f first order))) xe q
    ∙ over_more b at (replicate (depths_place 0) 0) (omega arith) (blocks 1 n (start_depth f first order))

-- the words before the points end where the points begin
lists_end : (owners table : Bytes) (ends : List ℕ) (i first cells : ℕ) (order : List ℕ) (n : ℕ) (local : List ℕ) (owned long steps kind : ℕ) (v a b : Bytes) (t front : ℕ)
    → Put a b 0 t (numbered_words owners table ends i first cells order n local owned long steps kind v)
    → front ≡ exports_word n owned (row_ends table ends first order owned) + sent_ends owners table ends i first cells most_parts → n ≤ length order → t ≡ front
lists_end owners table ends i first cells order n local owned long steps kind v a b t front P e h =
    omega (arith, P.count, words_long owners table ends i first cells order n local owned long steps kind v front e h)

-- a piece that is put before another one after it
over_under : (b : Bytes) (at : ℕ) (xs ys : Bytes) → at + length xs ≤ length b → over (over b (at + length xs) ys) at xs ≡ over b at (xs ++ ys)
unfolding over
over_under b at xs ys h =
    let n : ℕ = at + length xs in
    let r : Bytes = ys ++ drop (n + length ys) b in
    let l : length (take n b) ≡ n = length-take-le n b h in
    let f : n + length ys ≡ at + length (xs ++ ys) = omega (arith, length-append xs ys) in
    let t : take at (take n b ++ r) ≡ take at b = take-append-le at (take n b) r (omega arith) ∙ take-take at n b (omega arith) in
    ap₂ (λ (u : Bytes) (w : Bytes). u ++ (xs ++ w)) t (drop_at (take n b) r n l)
    ∙ ap (λ w. take at b ++ w) (sym (append_assoc xs ys (drop (n + length ys) b)))
    ∙ ap (λ k. take at b ++ ((xs ++ ys) ++ drop k b)) f

-- the words before the points, then what stands behind all words, then the points' words
state_put : (b x y z : Bytes) (t s u long : ℕ) (ws ps : List ℕ) (rest : Bytes) → t ≡ s → 2 * long ≤ length b → s + length ps ≡ long → Put b x 0 t ws → y ≡ over x (2 * long) rest
    → Put y z s u ps → z ≡ over b 0 (bytes_of (ws ++ ps) ++ rest)
state_put b x y z t s u long ws ps rest se room le P ye Q =
    let l : length (bytes_of ws) ≡ 2 * length ws = length_bytes_of ws in
    let k : length (bytes_of ps) ≡ 2 * length ps = length_bytes_of ps in
    let e : 2 * 0 ≡ 0 = omega arith in
    let te : 2 * s ≡ 0 + length (bytes_of ws) = omega (arith, P.count) in
    let we : 2 * long ≡ 2 * s + length (bytes_of ps) = omega (arith, P.count) in
    let xe : x ≡ over b 0 (bytes_of ws) = P.text ∙ ap (λ o. over b o (bytes_of ws)) e in
    let xl : length x ≡ length b = ap length xe ∙ over_length b 0 (bytes_of ws) (omega arith) in
    Q.text
    ∙ ap (λ r. over r (2 * s) (bytes_of ps)) (ye ∙ ap (λ o. over x o rest) we)
    ∙ over_under x (2 * s) (bytes_of ps) rest (omega (arith, xl, P.count))
    ∙ ap₂ (λ (r : Bytes) o. over r o (bytes_of ps ++ rest)) xe te
    ∙ over_more b 0 (bytes_of ws) (omega arith) (bytes_of ps ++ rest)
    ∙ ap (over b 0) (sym (append_assoc (bytes_of ws) (bytes_of ps) rest) ∙ ap (λ r. r ++ rest) (sym (bytes_of_append ws ps)))

-- ---- the words of the points

module _ (m : Bytes) (parts : ℕ) (owners st : Bytes) (i part first all : ℕ) (pe : part ≡ i) (fe : first ≡ first_cell m) (ae : all ≡ counted m 0) where
  abbrev count : ℕ
  count = points_in (split_of m parts owners st) i

  abbrev many : ℕ
  many = point_ends (split_of m parts owners st) i count

  on_count : (inc : Incidence) → Inverted m inc → let ps : List ℕ = points_on inc owners first part all in
      word_count inc ps (length ps) ≡ 2 * count + 2 + many
  on_count inc G =
      ap (λ x. let ps = points_on inc owners first x all in word_count inc ps (length ps)) pe ∙ words_counted m parts owners st inc G i first all fe ae

  pub point_room : (b : Bytes) (s long : ℕ) → long ≡ s + 2 + 2 * count + many → long ≤ 40144 → 2 * long ≤ length b → PointsFit m owners b s part first all
  point_room b s long le few room = record {
    there = λ inc G. omega (arith, on_count inc G);
    few = λ inc G. omega (arith, on_count inc G);
  }

  around_count : (outside : Bool) (local : List ℕ) (k : ℕ) → length (cell_words (split_of m parts owners st) i local outside k) ≡ length (around_of (split_of m parts owners st) i k)
  unfolding cell_words
  around_count true local k = length-replicate {A = ℕ} (length (around_of (split_of m parts owners st) i k)) 0
  around_count false local k =
      length-map (reverse (around_of (split_of m parts owners st) i k)) (local_in local) ∙ length-reverse (around_of (split_of m parts owners st) i k)

  words_count : (outside : Bool) (local : List ℕ) → length (part_words (split_of m parts owners st) i local outside) ≡ 2 * count + 2 + many
  unfolding part_words point_ends
  words_count outside local =
      let table = listed 0 (count + 1) (point_ends (split_of m parts owners st) i) in
      let rows = blocks 1 count (cell_words (split_of m parts owners st) i local outside) in
      omega (
        arith,
        length-append (count ∷ points_of (split_of m parts owners st) i) (table ++ rows),
        length-append table rows,
        listed_length 0 (point_ends (split_of m parts owners st) i) (count + 1),
        blocks_length 1 (cell_words (split_of m parts owners st) i local outside) count,
        total_cong 1 (λ k. length (cell_words (split_of m parts owners st) i local outside k)) (λ k. length (around_of (split_of m parts owners st) i k)) count
            (λ k h. around_count outside local (1 + k)),
      )

  -- the points' words as they are put, and how many there are
  points_put : (inc : Incidence) → Inverted m inc → (local numbers : List ℕ) (outside : Bool) → local ≡ numbers → (y z : Bytes) (t u : ℕ)
      → Put y z t u (point_words inc (cond outside [] local) (points_on inc owners first part all) (length (points_on inc owners first part all)))
      → Put y z t u (part_words (split_of m parts owners st) i numbers outside) × (length (part_words (split_of m parts owners st) i numbers outside) ≡ 2 * count + 2 + many)
  points_put inc G local numbers outside e y z t u P = (
    words_told m parts owners st inc G i first all fe ae numbers outside y z t u
        (put_as y z t u _ _
        (ap₂ (λ (xs : List ℕ) x. let ps = points_on inc owners first x all in point_words inc (cond outside [] xs) ps (length ps)) e pe) P),
    words_count outside numbers,
  )

-- room whatever lists have the chains turned round is room whatever arrays have them
pub fit_turned : (m owners b : Bytes) (s part first points : ℕ) → PointsFit m owners b s part first points → PointRoom m owners b s part first points
fit_turned m owners b s part first points F = record {
  there = λ w T. F.there w T.inverted;
  few = λ w T. F.few w T.inverted;
}

-- 29 of the part, by its own number
pub outside_is : (m : Bytes) (parts : ℕ) (owners st table : Bytes) (ends : List ℕ) (holders : Bytes) → Prepared m parts owners st table ends holders
    → (inc : Incidence) → Inverted m inc → (b : Bool) (first n part cells i : ℕ) → b ≡ some_outside m inc owners table ends first n part cells
    → part ≡ i → first ≡ first_cell m → n ≡ counted m 0 → cells ≡ cell_count m → b ≡ bad29 (split_of m parts owners st) i
outside_is m parts owners st table ends holders R inc G b first n part cells i e pe fe ne ce =
    e
    ∙ ap (λ x. some_outside m inc owners table ends first n x cells) pe
    ∙ outside_told m parts owners st table ends holders R inc G first n cells i fe ne ce

-- ---- one part named twice is one part named

module _ (m : Bytes) (parts : ℕ) (owners : Bytes) (i : ℕ) (st : Bytes) where
  number_once : split_number m parts owners (i ∷ i ∷ []) st ≡ split_number m parts owners (i ∷ []) st
  unfolding split_number
  number_once = ap first_of (twice m parts owners i st)

  -- ---- state size

  pub size_split : (n : ℕ) → n ≡ split_number m parts owners (i ∷ i ∷ []) st → (n ≡ 0 → ⊥) → Refused n ≡ size_answer (split_input m parts owners st) i
  unfolding size_answer size_number
  size_split n e z =
      let q : n ≡ split_number m parts owners (i ∷ []) st = e ∙ number_once in
      answer_refused n (state_size (split_input m parts owners st) i) z
      ∙ ap (λ k. answer k (state_size (split_input m parts owners st) i)) (q ∙ sym (split_refuses m parts owners (i ∷ []) st (size_tests (split_input m parts owners st)) (λ w. z (q ∙ w))))

  module _ (sn : split_number m parts owners (i ∷ i ∷ []) st ≡ 0) where
    pub size_sizes : (n : ℕ) → n ≡ sizes_number m parts owners st → (n ≡ 0 → ⊥) → Refused n ≡ size_answer (split_input m parts owners st) i
    unfolding size_answer size_number sizes_number
    size_sizes n e z =
        answer_refused n (state_size (split_input m parts owners st) i) z
        ∙ ap (λ k. answer k (state_size (split_input m parts owners st) i)) (e ∙ sym (split_then m parts owners (i ∷ []) st (size_tests (split_input m parts owners st)) (sym number_once ∙ sn)))

    module _ (zn : sizes_number m parts owners st ≡ 0) (table : Bytes) (ends : List ℕ) (holders : Bytes) (R : Prepared m parts owners st table ends holders) (order got : List ℕ) (p : Plan)
        (Q : Planned m parts owners i st table ends order got p) where
      I : (1 ≤ i) × (i ≤ most_parts)
      I = (passed_facts m parts owners i i st sn).i_in

      pub long_is : p.long ≡ lists_long (split_of m parts owners st) i (locals (split_of m parts owners st) i)
      unfolding lists_long
      long_is =
          omega (
            arith,
            Q.long_is,
            Q.front_is,
            ap (λ x. sent_ends owners table ends x p.asked.first p.asked.cells most_parts) Q.part_is,
            front_is m parts owners st table ends holders R i I.0 I.1 p.asked.first p.asked.cells Q.first_is Q.cells_are order p.held p.owned Q.order_is Q.held_is Q.owned_is,
          )

      size_is : state_length (2 * p.long) p.held ≡ state_size (split_input m parts owners st) i
      unfolding state_size
      size_is = omega (arith, long_is, Q.held_is)

      pub size_done : Done (state_length (2 * p.long) p.held) ≡ size_answer (split_input m parts owners st) i
      unfolding size_answer size_number sizes_number
      size_done =
          ap Done size_is
          ∙ answer_done _ (state_size (split_input m parts owners st) i)
          (split_then m parts owners (i ∷ []) st (size_tests (split_input m parts owners st)) (sym number_once ∙ sn) ∙ zn)

-- ---- start

module _ (m : Bytes) (parts : ℕ) (owners : Bytes) (i : ℕ) (st : Bytes) (kind : ℕ) (v f b : Bytes) where
  -- what the call is given
  abbrev pub given : Inputs
  given = inputs m parts owners st kind v f

  abbrev pub Answered : Answer → Bytes → Type 0
  Answered r x = (r ≡ start_answer given i b) × (x ≡ start_state given i b)

  refused : (n : ℕ) → start_number given i b ≡ n → (n ≡ 0 → ⊥) → Answered (Refused n) b
  unfolding start_answer start_state
  refused = refuses (start_number given i b) (state_size (split_input m parts owners st) i) (over b 0 (first_state given i)) b

  done : start_number given i b ≡ 0 → Answered (Done (state_size (split_input m parts owners st) i)) (over b 0 (first_state given i))
  unfolding start_answer start_state
  done = accepts (start_number given i b) (state_size (split_input m parts owners st) i) (over b 0 (first_state given i)) b

  -- the tests after 13, and those after 10
  abbrev rest : List Test
  rest = last_tests given i b

  abbrev later : List Test
  later = refuse 11 (bad11 kind (steps st) v) ∷ size_tests (split_input m parts owners st) ++ rest

  number_split : (n : ℕ) → n ≡ split_number m parts owners (i ∷ []) st → (n ≡ 0 → ⊥) → start_number given i b ≡ n
  unfolding start_number
  number_split n q z = split_refuses m parts owners (i ∷ []) st later (λ w. z (q ∙ w)) ∙ sym q

  pub start_split : (n : ℕ) → n ≡ split_number m parts owners (i ∷ i ∷ []) st → (n ≡ 0 → ⊥) → Answered (Refused n) b
  start_split n e z = refused n (number_split n (e ∙ number_once m parts owners i st) z) z

  module _ (sn : split_number m parts owners (i ∷ i ∷ []) st ≡ 0) where
    in_later : start_number given i b ≡ first_of later
    unfolding start_number
    in_later = split_then m parts owners (i ∷ []) st later (sym (number_once m parts owners i st) ∙ sn)

    pub start_11 : (u : Bool) → u ≡ bad11 kind (length st - 1) v → u ≡ true → Answered (Refused 11) b
    unfolding steps
    start_11 u ue ut = refused 11 (in_later ∙ ap (λ t. cond t 11 (first_of (size_tests (split_input m parts owners st) ++ rest))) (sym ue ∙ ut)) (λ z. omega (arith, z))

    module _ (eleven : bad11 kind (steps st) v ≡ false) where
      in_sizes : start_number given i b ≡ first_of (size_tests (split_input m parts owners st) ++ rest)
      in_sizes = in_later ∙ ap (λ t. cond t 11 (first_of (size_tests (split_input m parts owners st) ++ rest))) eleven

      number_sizes : (n : ℕ) → n ≡ sizes_number m parts owners st → (n ≡ 0 → ⊥) → start_number given i b ≡ n
      number_sizes n e z = in_sizes ∙ sizes_refuse m parts owners st rest (λ w. z (e ∙ w)) ∙ sym e

      pub start_sizes : (n : ℕ) → n ≡ sizes_number m parts owners st → (n ≡ 0 → ⊥) → Answered (Refused n) b
      start_sizes n e z = refused n (number_sizes n e z) z

      module _ (zn : sizes_number m parts owners st ≡ 0) (cells : ℕ) (ce : cells ≡ cell_count m) (u : Bool) (ue : u ≡ bad14 cells f) where
        in_rest : start_number given i b ≡ first_of rest
        in_rest = in_sizes ∙ sizes_then m parts owners st rest zn

        fourteen : bad14 (cell_count m) f ≡ u
        fourteen = ap (λ k. bad14 k f) (sym ce) ∙ sym ue

        pub start_14 : u ≡ true → Answered (Refused 14) b
        start_14 t = refused 14 (in_rest ∙ simp (fourteen, t)) (λ z. omega (arith, z))

        module _ (uf : u ≡ false) (table : Bytes) (ends : List ℕ) (holders : Bytes) (R : Prepared m parts owners st table ends holders) (order got : List ℕ) (p : Plan)
            (Q : Planned m parts owners i st table ends order got p) where
          size : state_length (2 * p.long) p.held ≡ state_size (split_input m parts owners st) i
          size = size_is m parts owners i st sn zn table ends holders R order got p Q

          I₂ : (1 ≤ i) × (i ≤ most_parts)
          I₂ = (passed_facts m parts owners i i st sn).i_in

          pub start_16 : length b < state_length (2 * p.long) p.held → Answered (Refused 16) b
          start_16 h = refused 16 (in_rest ∙ simp (fourteen, uf, lt-ltb (length b) (state_size (split_input m parts owners st) i) (omega (arith, size)))) (λ z. omega (arith, z))

          pub start_cells : FieldCells f p.asked.first order p.held
          start_cells =
              cells_from m parts owners st table ends holders R i I₂.0 I₂.1 p.asked.first cells Q.first_is ce order p.held p.owned Q.order_is Q.held_is
              Q.owned_is f (sym ue ∙ uf)

          -- the depths of the held cells
          depth_is : (l : ℕ) → 1 ≤ l → l ≤ p.held → start_depth f p.asked.first order l ≡ depth_in (scheme_of m st kind v) f (global_of (locals (split_of m parts owners st) i) l)
          unfolding start_depth depth_in scheme_of global_of
          depth_is l h k =
              ap₂ (λ x y. four f (4 * (x - y)))
              (order_at m parts owners st table ends holders R i I₂.0 I₂.1 p.asked.first cells Q.first_is ce order p.held p.owned Q.order_is Q.held_is
              Q.owned_is (l - 1) (omega arith))
              Q.first_is

          -- the words of the points
          abbrev points : List ℕ
          points = part_words (split_of m parts owners st) i (numbers_of order p.held) (bad29 (split_of m parts owners st) i)

          state_is : bytes_of (start_words owners table ends p.asked.part p.asked.first p.asked.cells order p.held p.owned p.long (steps st) kind v ++ points) ++
              (replicate (depths_place 0) 0 ++ blocks 1 p.held (start_depth f p.asked.first order)) ≡ first_state given i
          unfolding first_state word_bytes
          state_is =
              ap₂ (λ (ws : List ℕ) (ds : Bytes). bytes_of ws ++ (replicate (depths_place 0) 0 ++ ds))
              (ap (λ x. start_words owners table ends x p.asked.first p.asked.cells order p.held p.owned p.long (steps st) kind v ++ points) Q.part_is
              ∙ start_words_lem m parts owners st table ends holders R i I₂.0 I₂.1 p.asked.first p.asked.cells Q.first_is Q.cells_are order p.held p.owned
              Q.order_is Q.held_is Q.owned_is kind p.long v (long_is m parts owners i st sn zn table ends holders R order got p Q))
              (blocks_cong 1 (start_depth f p.asked.first order) (λ l. depth_in (scheme_of m st kind v) f (global_of (locals (split_of m parts owners st) i) l)) p.held
              (λ k h. depth_is (1 + k) (omega arith) (omega arith))
              ∙ ap (λ k. blocks 1 k (λ l. depth_in (scheme_of m st kind v) f (global_of (locals (split_of m parts owners st) i) l))) Q.held_is)

          start_done : (outside : Bool) → outside ≡ bad29 (split_of m parts owners st) i → state_length (2 * p.long) p.held ≤ length b → (y : Bytes)
              → y ≡ over b 0 (bytes_of (start_words owners table ends p.asked.part p.asked.first p.asked.cells order p.held p.owned p.long (length st - 1) kind v
              ++ part_words (split_of m parts owners st) i (numbers_of order p.held) outside)
              ++ (replicate (depths_place 0) 0 ++ blocks 1 p.held (start_depth f p.asked.first order)))
              → Answered (Done (state_length (2 * p.long) p.held)) y
          unfolding steps
          start_done outside o h y e =
              let a = done (in_rest ∙ simp (fourteen, uf, le-ltb (length b) (state_size (split_input m parts owners st) i) (omega (arith, size)))) in
              let ws : List ℕ = start_words owners table ends p.asked.part p.asked.first p.asked.cells order p.held p.owned p.long (length st - 1) kind v in
              let ds : Bytes = replicate (depths_place 0) 0 ++ blocks 1 p.held (start_depth f p.asked.first order) in (
                ap Done size ∙ a.0,
                e ∙ ap (λ x. over b 0 (bytes_of (ws ++ part_words (split_of m parts owners st) i (numbers_of order p.held) x) ++ ds)) o ∙ ap (over b 0) state_is ∙ a.1,
              )

          -- all that is written, step by step
          pub start_written : (sent before list local : List ℕ) (x s t u : ℕ) (b₁ b₂ b₃ b₄ : Bytes) (inc : Incidence) (outside : Bool) (part first all : ℕ)
              → Sent owners table ends p.asked.part p.asked.cells most_parts sent
              → Appended before list 0 x (sent_list owners table ends p.asked.part p.asked.first p.asked.cells most_parts) → p.sent ≤ length before
              → Put b b₁ 0 s (((p.long ∷ p.asked.part ∷ (length st - 1) ∷ kind ∷ []) ++ (listed 0 5 (word_at v) ++ (p.asked.first ∷ p.asked.cells ∷ [])))
              ++ (listed 0 (most_parts + 1) (ends_by got p.owned) ++ listed 0 (most_parts + 1) (ends_by sent 0)))
              → Put b₁ b₂ s t (take p.held order ++ (listed 0 (p.owned + 1) (row_ends table ends p.asked.first order)
              ++ (blocks 1 p.owned (row_words table ends p.asked.first order local) ++ map (local_in local) (take p.sent list))))
              → local ≡ numbers_of order p.held → b₃ ≡ over b₂ (2 * p.long) (replicate (depths_place 0) 0 ++ blocks 1 p.held (start_depth f p.asked.first order))
              → Inverted m inc
              → Put b₃ b₄ p.front u (point_words inc (cond outside [] local) (points_on inc owners first part all) (length (points_on inc owners first part all)))
              → part ≡ i → first ≡ first_cell m → all ≡ counted m 0 → outside ≡ bad29 (split_of m parts owners st) i → state_length (2 * p.long) p.held ≤ length b
              → Answered (Done (state_length (2 * p.long) p.held)) b₄
          start_written sent before list local x s t u b₁ b₂ b₃ b₄ inc outside part first all T A fits P₁ P₂ le re G P₃ pe fe ae o room =
              let lists =
              lists_put owners table ends p.asked.part p.asked.first p.asked.cells order p.held local p.owned p.long (length st - 1) kind v got sent before list x p.sent b b₁ b₂ s t
              Q.got_are T A Q.sent_is fits (omega (arith, Q.front_is, Q.long_is)) P₁ P₂ in
              let words =
              lists_numbered b b₂ 0 t owners table ends p.asked.part p.asked.first p.asked.cells order p.held p.owned p.long (length st - 1) kind v local le lists in
              let end =
              lists_end owners table ends p.asked.part p.asked.first p.asked.cells order p.held (numbers_of order p.held) p.owned p.long (length st - 1) kind v b b₂ t p.front words
              Q.front_is Q.fit.order_there in
              let points = points_put m parts owners st i part first all pe fe ae inc G local (numbers_of order p.held) outside le b₃ b₄ p.front u P₃ in
              start_done outside o room b₄
              (state_put b b₂ b₃ b₄ t p.front u p.long _ _ _ end (omega arith) (omega (arith, Q.long_is, points.1)) words re points.0)

-- The words that the code writes are those of the reaches. Assumes nothing.
use mathlib.Core.Path.{◌≡◌, refl, sym, ap, ap₂, ◌∙◌, subst}
use mathlib.Core.Bool.{Bool, true, false, cond}
use mathlib.Core.List.{List, [], ◌∷◌, ◌++◌, map, append_assoc}
use Prim.Native.Nat.{ℕ, zero, suc, ◌+◌, ◌-◌, ◌*◌, ◌/◌, ◌≤◌, ◌<◌}
use native.Mathlib.Nat.{zero-add}
use native.Mathlib.Omega.{arith}
use lib.Dec.{eqb, ltb}
use borrow.Author.Tests.{eqb-true, eqb-false, eq-eqb, ne_eqb, lt-ltb, ltb-true, ltb-false}
use lib.Seq.{get_or-set_same, get_or-set_other}
use lib.ListN.{length, get_or, set, length-append}
use Rattle.vocabulary.specs.Bytes.{Bytes, byte_at, over}
use Rattle.layout.specs.Words.{bytes_of}
use Rattle.vocabulary.specs.Intervals.{picked, blocks, total}
use Rattle.vocabulary.proofs.IntervalLaws.{blocks_turn, total_grows, picked_cong, blocks_part}
use Rattle.vocabulary.specs.Lists.{is_in, joined, Zeros}
use Rattle.vocabulary.proofs.ListLaws.{map_append}
use Rattle.layout.specs.Limits.{element_places, most_reached, table_bytes}
use Rattle.mesh.specs.Meet.{Under}
use Rattle.mesh.specs.Mesh.{top, first_cell, cell_count}
use Rattle.mesh.specs.Walks.{bad13, Near, steps_to, layer, reach, step_to, walked}
use Rattle.walk_incidence.specs.declared.inner.Incidence.{Incidence}
use Rattle.walk_steps.specs.declared.steps.Space.{Space}
use Rattle.walk_steps.specs.Walking.{Ground, first_mark, layer_mark, walked_from, WalkDone, Within}
use Rattle.walk_near_cells.specs.NearCells.{NearGround, Layered, WalksReady}
use Rattle.walk_near_cells.proofs.RowLaws.{under_more}
use Rattle.walk_steps.proofs.WalkLaws.{cell_layer, steps_is}
use Rattle.mesh.proofs.WalkLaws.{stencil_parts}
use Rattle.std.proofs.Common.{Option, None, Some, MatchOption}
use Rattle.std.proofs.lemmas.Option.{none-some}
use Rattle.mesh.specs.Accepted.{Accepted, Cell}
use Rattle.walk_reach_table.specs.Tables.{placed_words, reach_entries, table_words, entry_count, row, Cleared, Emitted, EndTable, Tabled}
use Rattle.walk_reach_table.proofs.TableLaws.{emit_none, emit_both, over_both}
use Rattle.walk_reach_table.proofs.SizeLaws.{entries_refused}

pub joined_append : {A : Type 0} (xs ys : List (List A)) → joined (xs ++ ys) ≡ joined xs ++ joined ys
unfolding joined
joined_append [] ys = refl
joined_append (x ∷ xs) ys = ap (λ r. x ++ r) (joined_append xs ys) ∙ sym (append_assoc x (joined xs) (joined ys))

module _ (m st : Bytes) (c first : ℕ) (layers : List ℕ) (cells : ℕ) (marked : (j : ℕ) → j < cells → get_or layers (first + j) 0 ≡ first_mark (steps_to m st c (first + j))) where
  abbrev near : ℕ → Near
  near x = record { cell = x; layer = layer m st c x }

  abbrev reached : ℕ → Bool
  reached x = ltb 0 (length (steps_to m st c x))

  -- the words at one place, by the numbers of steps that reach it
  by_steps : (j l : ℕ) (ks : List ℕ) → get_or ks 0 0 ≡ l → cond (eqb (first_mark ks) 0) [] (j ∷ (first_mark ks - 1) ∷ [])
      ≡ cond (ltb 0 (length ks)) (j ∷ l ∷ []) []
  unfolding first_mark
  by_steps j l [] e = refl
  by_steps j l (k ∷ ks) e =
      let q : k + 1 - 1 ≡ k = omega arith in
      ap (λ b. cond b [] (j ∷ (k + 1 - 1) ∷ [])) (ne_eqb (k + 1) 0 (omega arith)) ∙ ap (λ x. j ∷ x ∷ []) (q ∙ e)
      ∙ sym (ap (λ b. cond b (j ∷ l ∷ []) []) (lt-ltb 0 (suc (length ks)) (omega arith)))

  one_row : (j : ℕ) → j < cells → row layers first j ≡ joined (map (placed_words first) (map near (cond (reached (first + j)) ((first + j) ∷ []) [])))
  unfolding row layer joined placed_words
  one_row j h =
      ap (λ x. cond (eqb x 0) [] (j ∷ (x - 1) ∷ [])) (marked j h)
      ∙ by_steps j (layer m st c (first + j)) (steps_to m st c (first + j)) refl
      ∙ go (reached (first + j))
    where
      p : first + j - first ≡ j
      p = omega arith

      go : (b : Bool) → cond b (j ∷ layer m st c (first + j) ∷ []) [] ≡ joined (map (placed_words first) (map near (cond b ((first + j) ∷ []) [])))
      go true = ap (λ x. x ∷ layer m st c (first + j) ∷ []) (sym p)
      go false = refl

  rows_are : (j : ℕ) → j ≤ cells → blocks 0 j (row layers first) ≡ joined (map (placed_words first) (map near (picked first j reached)))
  unfolding blocks picked joined
  rows_are zero h = refl
  rows_are (suc j) h =
      ap₂ ◌++◌ (rows_are j (omega arith)) (ap (row layers first) (zero-add j) ∙ one_row j (omega arith))
      ∙ sym (joined_append (map (placed_words first) (map near (picked first j reached))) (map (placed_words first) (map near (cond (reached (first + j)) ((first + j) ∷ []) []))))
      ∙ ap joined (sym (ap (map (placed_words first)) (map_append near (picked first j reached) _) ∙ map_append (placed_words first) (map near (picked first j reached)) _))

-- walks from one cell
one_start : (m st : Bytes) (c k : ℕ) → walked_from m st (c ∷ []) k ≡ walked m st c k
unfolding walked_from walked
one_start m st c zero = refl
one_start m st c (suc k) = ap (step_to m (byte_at st (suc k))) (one_start m st c k)

-- what the walk step by step leaves
pub layered_by : (m st : Bytes) (single : Bool) (cs : List ℕ) (c k v n met : ℕ) (s : Space) → cs ≡ c ∷ [] → WalkDone m st single cs k v s n met → Layered m st (c ∷ []) k s.layers
layered_by m st single cs c k v n met s one W = record { size = W.size; each = λ z. W.layered z ∙ ap (λ cs. layer_mark m st cs k z) one }

-- a cell's walks done, its words are written
module _ (m st : Bytes) (w : Incidence) (c low high first : ℕ) (layers : List ℕ) (G : Ground m st w) (C : Cell m c) (W : Layered m st (c ∷ []) (length st - 1) layers)
    (I : Within m layers low high) (fe : first ≡ first_cell m) where
  abbrev n : ℕ
  n = length st - 1

  h : n + 1 ≡ length st
  h = omega (arith, (stencil_parts (top m) st G.stencil).0)

  mark : (j : ℕ) → j < cell_count m → get_or layers (first + j) 0 ≡ first_mark (steps_to m st c (first + j))
  mark j l =
      let z : ℕ = first + j in
      W.each z
      ∙ cell_layer m st w (c ∷ []) n z G (C, tt) (omega (arith, h)) (record { low = omega arith; high = omega arith })
      ∙ (unfold steps_to in ap first_mark (picked_cong 0 _ _ (n + 1) (λ j h. ap (is_in z) (one_start m st c (0 + j))) ∙ ap (λ x. picked 0 (x + 1) (λ j. is_in z (walked m st c j))) (steps_is st n h)))

  words_are : blocks (low - first) (high - low) (row layers first) ≡ reach_entries m st c
  unfolding reach_entries reach
  words_are =
      sym (blocks_part (row layers first) (low - first) (high - low) (cell_count m) fits (λ i h. bare i (I.before (first + i) (omega (arith, I.starts))))
      (λ i h l. bare i (I.after (first + i) (omega (arith, I.starts)))))
      ∙ rows_are m st c first layers (cell_count m) mark (cell_count m) (omega arith)
      ∙ ap (λ a. joined (map (placed_words a) (map (λ x. record { cell = x; layer = layer m st c x }) (picked a (cell_count m) (λ x. ltb 0 (length (steps_to m st c x))))))) fe
    where
      fits : low - first + (high - low) ≤ cell_count m
      fits = omega (arith, I.stops, I.starts, I.ends)

      bare : (i : ℕ) → get_or layers (first + i) 0 ≡ 0 → row layers first i ≡ []
      bare i e = unfold row in ap (λ b. cond b [] (i ∷ (get_or layers (first + i) 0 - 1) ∷ [])) (eq-eqb (get_or layers (first + i) 0) 0 e)

  pub emitted_cell : (s : ℕ) (t : Option ℕ) (before after : Bytes) {Q Q' : ℕ → Type 0} → ((u : ℕ) → Q u → Q' u)
      → MatchOption t (most_reached < s + length (blocks (low - first) (high - low) (row layers first)) / 2)
      (λ u. Emitted before after s (blocks (low - first) (high - low) (row layers first)) u × Q u)
      → MatchOption t (most_reached < s + length (reach_entries m st c) / 2) (λ u. Emitted before after s (reach_entries m st c) u × Q' u)
  emitted_cell s None before after g h = subst (λ ws. most_reached < s + length ws / 2) words_are h
  emitted_cell s (Some u) before after g h = (subst (λ ws. Emitted before after s ws u) words_are h.0, g u h.1)

-- and its layers are cleared
pub all_clear : (m : Bytes) (low high : ℕ) (layers after : List ℕ) → length layers ≡ element_places → Within m layers low high → Cleared low high layers after → Zeros element_places after
all_clear m low high layers after r I C = record { size = C.size ∙ r; each = λ z. go z (ltb z low) refl (ltb z high) refl }
  where
    go : (z : ℕ) (a : Bool) → ltb z low ≡ a → (b : Bool) → ltb z high ≡ b → get_or after z 0 ≡ 0
    go z true p b q = let l : z < low = ltb-true z low p in C.lower z l ∙ I.before z l
    go z false p true q = C.inside z (ltb-false z low p) (ltb-true z high q)
    go z false p false q = let l : high ≤ z = ltb-false z high q in C.upper z l ∙ I.after z l

-- ---- ready for the next cell

pub ready_by_rows : (m st : Bytes) (r : Option ℕ) (w v n : ℕ) (s s' : Space) → r ≡ Some w → WalksReady m st r v s → s'.marks ≡ s.marks → s'.layers ≡ s.layers → Zeros element_places s'.from
    → WalksReady m st r (v + n) s'
ready_by_rows m st r w v n s s' e R me le K = record {
  marks_low = under_more v (v + n) s'.marks (omega arith) (subst (Under v) (sym me) R.marks_low);
  rows = λ x i. (subst (λ l. NearGround m st l x) (sym le) (R.rows x i).0, K);
  steps = λ i. absurd (none-some w (sym i ∙ e));
}

pub ready_by_steps : (m st : Bytes) (r : Option ℕ) (v : ℕ) (s : Space) → r ≡ None → Under v s.marks → Zeros element_places s.layers → WalksReady m st r v s
ready_by_steps m st r v s e U K = record {
  marks_low = U;
  rows = λ w i. absurd (none-some w (sym e ∙ i));
  steps = λ _. K;
}

words_length : (first : ℕ) (es : List Near) → length (joined (map (placed_words first) es)) ≡ 2 * length es
unfolding joined placed_words
words_length first [] = refl
words_length first (e ∷ es) = omega (arith, words_length first es)

pub cell_count_lem : (m st : Bytes) (c : ℕ) → length (reach_entries m st c) ≡ 2 * length (reach m st c)
unfolding reach_entries
cell_count_lem m st c = words_length (first_cell m) (reach m st c)

pub table_count : (m st : Bytes) (n : ℕ) → length (table_words m st n) ≡ 2 * entry_count m st n
unfolding table_words entry_count blocks total
table_count m st zero = refl
table_count m st (suc n) = omega (
  arith,
  length-append (blocks (first_cell m) n (reach_entries m st)) (reach_entries m st (first_cell m + n)),
  cell_count_lem m st (first_cell m + n),
  table_count m st n,
)

-- ---- what the calls suppose

pub first_small : (m : Bytes) (first : ℕ) → Accepted m → first ≡ first_cell m → first < 65536
first_small m first A e = omega (arith, A.cells_in, A.sizes.n_high)

pub high_small : (m : Bytes) (layers : List ℕ) (low high : ℕ) → Accepted m → Within m layers low high → high ≤ element_places
high_small m layers low high A I = omega (arith, I.stops, A.cells_in, A.sizes.n_high)

-- ---- the loop over the cells

pub table_start : (m st b : Bytes) → Emitted b b 0 (table_words m st 0) 0
unfolding table_words blocks
table_start m st b = emit_none b 0 (omega arith)

pub ends_start : (m st : Bytes) (ends after : List ℕ) → length ends ≡ element_places → after ≡ set ends 0 0 → EndTable m st after 0
ends_start m st ends after r f =
    record {
      each = λ j h. let z : j
          ≡ 0 = omega arith in subst (λ k. get_or after k 0 ≡ entry_count m st k) (sym z) (ap (λ (l : List ℕ). get_or l 0 0) f ∙ get_or-set_same ends 0 0 0 (omega arith) ∙ none);
    }
  where
    none : 0 ≡ entry_count m st 0
    none = unfold entry_count total in refl

-- how many entries were written
counted : (m st a b : Bytes) (s j : ℕ) → Emitted a b 0 (table_words m st j) s → s ≡ entry_count m st j
counted m st a b s j E = omega (arith, E.count, table_count m st j)

module _ (m st : Bytes) (first q c : ℕ) (fe : first ≡ first_cell m) (ce : c ≡ first + q) where
  next : table_words m st (q + 1) ≡ table_words m st q ++ reach_entries m st c
  unfolding table_words
  next = let p : first_cell m + q ≡ c = omega arith in blocks_turn (first_cell m) (reach_entries m st) q ∙ ap (λ c. blocks (first_cell m) q (reach_entries m st) ++ reach_entries m st c) p

  pub table_turn : (a b d : Bytes) (t s : ℕ) → length a ≡ table_bytes → Emitted a b 0 (table_words m st q) t → Emitted b d t (reach_entries m st c) s → Emitted a d 0 (table_words m st (q + 1)) s
  table_turn a b d t s r E F = subst (λ ws. Emitted a d 0 ws s) (sym next) (emit_both a b d 0 t s _ _ r E F)

  pub ends_turn : (a b : Bytes) (s : ℕ) (ends after : List ℕ) (cells : ℕ) → Accepted m → cells ≡ cell_count m → q < cells → length ends ≡ element_places
      → Emitted a b 0 (table_words m st (q + 1)) s → EndTable m st ends q → after ≡ set ends (q + 1) s → EndTable m st after (q + 1)
  ends_turn a b s ends after cells A ke h re E N f = record { each = λ j k. ap (λ (q : List ℕ). get_or q j 0) f ∙ go j k (eqb j (q + 1)) refl }
    where
      go : (j : ℕ) → j ≤ q + 1 → (d : Bool) → eqb j (q + 1) ≡ d → get_or (set ends (q + 1) s) j 0 ≡ entry_count m st j
      go j k true e =
          let p : j ≡ q + 1 = eqb-true j (q + 1) e in
          subst (λ i. get_or (set ends (q + 1) s) i 0 ≡ entry_count m st i) (sym p)
          (get_or-set_same ends (q + 1) s 0 (omega (arith, A.cells_in, A.sizes.n_high)) ∙ counted m st a b s (q + 1) E)
      go j k false e = let n : j ≡ q + 1 → ⊥ = eqb-false j (q + 1) e in get_or-set_other ends (q + 1) j s 0 n ∙ N.each j (omega arith)

  -- too many already
  pub table_over : (a b : Bytes) (t cells : ℕ) → cells ≡ cell_count m → q < cells → Emitted a b 0 (table_words m st q) t → most_reached < t + length (reach_entries m st c) / 2
      → bad13 m st ≡ true
  table_over a b t cells ke h E o = entries_refused m st (omega (arith, here, grows))
    where
      here : most_reached < entry_count m st (q + 1)
      here = omega (arith, over_both a b 0 t _ _ E o, ap length next, table_count m st (q + 1))

      grows : entry_count m st (q + 1) ≤ entry_count m st (cell_count m)
      grows = unfold entry_count in total_grows (first_cell m) (λ c. length (reach m st c)) (q + 1) (cell_count m) (omega arith)

pub table_end : (m st : Bytes) (cells q t : ℕ) (a b : Bytes) (ends : List ℕ) → cells ≡ cell_count m → q ≤ cells → cells ≤ q
    → Emitted a b 0 (table_words m st q) t → EndTable m st ends q → Tabled m st a b ends t
table_end m st cells q t a b ends ce g h E N = let all : q ≡ cell_count m = omega arith in record {
  count = counted m st a b t q E ∙ ap (entry_count m st) all;
  few = E.few;
  text = E.text ∙ ap (λ k. over a 0 (bytes_of (table_words m st k))) all;
  ended = subst (EndTable m st ends) all N;
}

-- The undivided round by the rows of the table of the reaches, and its number by the tests that the code makes one after the other.
-- Assumes nothing.
use mathlib.Core.Path.{◌≡◌, sym, ap, ap₂, ◌∙◌}
use mathlib.Core.Bool.{Bool, true, false, cond}
use mathlib.Core.List.{List, map}
use Prim.Native.Nat.{ℕ, ◌+◌, ◌-◌, ◌*◌, ◌%◌, ◌≤◌, ◌<◌}
use native.Mathlib.Nat.{zero-add}
use native.Mathlib.Omega.{arith}
use lib.Dec.{ltb}
use lib.ListN.{length, get_or, length-map}
use borrow.Author.Tests.{lt-ltb, le-ltb}
use Rattle.vocabulary.specs.Bytes.{Bytes, over}
use Rattle.vocabulary.proofs.ListLaws.{All_get_or, get_or_map_any}
use Rattle.vocabulary.specs.Intervals.{listed, blocks}
use Rattle.vocabulary.proofs.IntervalLaws.{listed_back, blocks_moved}
use Rattle.depths.specs.Depths.{four, value_bytes}
use Rattle.depths.proofs.DepthLaws.{length_four, fours_store}
use Rattle.depths.specs.declared.Value.{Value}
use Rattle.layout.proofs.AnswerLaws.{refuses, accepts}
use Rattle.layout.specs.Answers.{Answer}
use Rattle.layout.specs.Answers.{Done, Refused}
use Rattle.layout.specs.Limits.{table_bytes}
use Rattle.mesh.specs.Mesh.{top, first_cell, cell_count, mesh_number}
use Rattle.mesh.proofs.MeshLaws.{mesh_then, mesh_refuses}
use Rattle.mesh.specs.Walks.{Near, reach, steps, bad10, bad13}
use Rattle.mesh.proofs.WalkLaws.{steps_few, reach_in, reach_layers}
use Rattle.walk_reach_table.specs.Tables.{Tabled}
use Rattle.walk_reach_table.proofs.SizeLaws.{table_made}
use Rattle.walk_reach_table.proofs.EntryLaws.{row_fits, row_size, row_cell, row_layer, table_length}
use Rattle.round_rule.specs.Rules.{new_depth, bad11}
use Rattle.round_rule.specs.Kinds.{kind_number, rule_of}
use Rattle.round_rule.specs.declared.Kind.{Kind}
use Rattle.std.specs.Prelude.{Result, Ok, Err}
use Rattle.layout.specs.declared.refusal.Refusal.{Refusal}
use Rattle.round_rule.proofs.KindLaws.{known_number}
use Rattle.round_rule.proofs.Refusals.{known_rule, unknown_rule}
use Rattle.round_rule.proofs.RuleLaws.{new_length}
use Rattle.round.specs.Rounds.{RoundInput, Scheme, scheme_of, depth_in, new_in, round, bad14, round_number, round_answer, round_out, round_input}
use Rattle.round.proofs.RoundLaws.{field_length, field_ranged, placed, olds_placed}
use Rattle.round_update.specs.Update.{table_entry, table_entries, olds_at, UpdateReady}
use Rattle.round_update.proofs.UpdateLaws.{ready_from}
use Rattle.round.specs.Rows.{row_new, Row, Rows}

-- ---- one row

module _ (kind : ℕ) (v table : Bytes) (ends : List ℕ) (f : Bytes) (j from to : ℕ) (fe : from ≡ get_or ends j 0) (te : to ≡ get_or ends (j + 1) 0) where
  pub row_ready : Row kind v table ends f j → UpdateReady kind v table (4 * from) (to - from) f 0 j
  row_ready r = rw (fe, te) r.ready

  -- x is what the update gave
  pub row_returned : (x : Value) → value_bytes x ≡ new_depth kind v (four f (0 + 4 * j)) (olds_at f 0 (table_entries table (4 * from) (to - from)))
      → value_bytes x ≡ row_new kind v table ends f j
  unfolding row_new
  row_returned x e = rw (fe, te) at e

-- ---- the rows, one after the other

pub row_each : (kind : ℕ) (v table : Bytes) (ends : List ℕ) (cells : ℕ) (f : Bytes) (j : ℕ) → Rows kind v table ends cells f → j < cells → Row kind v table ends f j
row_each kind v table ends cells f j r h = r.each j h

module _ (kind : ℕ) (v table : Bytes) (ends : List ℕ) (f : Bytes) (b : Bytes) (cells : ℕ) (room : 4 * cells ≤ length b) where
  row_four : (j : ℕ) → length (row_new kind v table ends f j) ≡ 4
  unfolding row_new
  row_four j = new_length kind v _ _ (length_four f (0 + 4 * j))

  -- n is what `new_at` gave
  pub renew_turn : (x y : Bytes) (j : ℕ) (n : Value) → j < cells → x ≡ over b 0 (blocks 0 j (row_new kind v table ends f)) → value_bytes n ≡ row_new kind v table ends f j
      → y ≡ over x (4 * j) (value_bytes n) → y ≡ over b 0 (blocks 0 (j + 1) (row_new kind v table ends f))
  renew_turn x y j n h e p q =
      q
      ∙ ap₂ (λ (w : Bytes) (d : Bytes). over w (4 * j) d) e p
      ∙ ap₂ (λ o i. over (over b 0 (blocks 0 j (row_new kind v table ends f))) o (row_new kind v table ends f i)) (sym (zero-add (4 * j))) (sym (zero-add j))
      ∙ fours_store 0 j (row_new kind v table ends f) (λ k l. row_four (0 + k)) b 0 (omega arith)

-- ---- the rows of the table that the walks made

module _ (m st : Bytes) (kind : ℕ) (v f before table : Bytes) (ends : List ℕ) (r : ℕ) (made : Tabled m st before table ends r) (room : length before ≡ table_bytes) where
  module _ (j : ℕ) (h : j < cell_count m) where
    size : get_or ends (j + 1) 0 - get_or ends j 0 ≡ length (reach m st (first_cell m + j))
    size = omega (arith, row_size m st before table ends r made room j h)

    entry_is : (t : ℕ) → t < length (reach m st (first_cell m + j))
        → table_entry table (4 * get_or ends j 0) t ≡ placed (first_cell m) (get_or (reach m st (first_cell m + j)) t (record { cell = 0; layer = 0 }))
    entry_is t k =
        ap₂ (λ a b. record { cell = a; layer = b })
        (row_cell m st before table ends r made room j t (record { cell = 0; layer = 0 }) h k)
        (row_layer m st before table ends r made room j t (record { cell = 0; layer = 0 }) h k)

    row_entries : table_entries table (4 * get_or ends j 0) (get_or ends (j + 1) 0 - get_or ends j 0) ≡ map (placed (first_cell m)) (reach m st (first_cell m + j))
    unfolding table_entries
    row_entries =
        let es : List Near = reach m st (first_cell m + j) in
        let l : length (map (placed (first_cell m)) es) ≡ length es = length-map es (placed (first_cell m)) in
        ap (λ n. listed 0 n (table_entry table (4 * get_or ends j 0))) (size ∙ sym l)
        ∙ listed_back 0 (table_entry table (4 * get_or ends j 0)) (map (placed (first_cell m)) es) (record { cell = 0; layer = 0 })
        (λ i k.
        let q : i < length es = omega arith in
        ap (table_entry table (4 * get_or ends j 0)) (zero-add i)
        ∙ entry_is i q
        ∙ sym (get_or_map_any (placed (first_cell m)) es i (record { cell = 0; layer = 0 }) (record { cell = 0; layer = 0 }) q))

    -- the new depth by the row is the new depth of the cell
    row_new_lem : row_new kind v table ends f j ≡ new_in (scheme_of m st kind v) f (first_cell m + j)
    unfolding row_new new_in scheme_of depth_in
    row_new_lem =
        let S : Scheme = scheme_of m st kind v in
        let p : 0 + 4 * j ≡ 4 * (first_cell m + j - first_cell m) = omega arith in
        ap₂ (λ x os. new_depth kind v x os) (ap (four f) p) (ap (olds_at f 0) row_entries ∙ olds_placed S f (reach m st (first_cell m + j)))

  pub rows_round : blocks 0 (cell_count m) (row_new kind v table ends f) ≡ round (scheme_of m st kind v) f
  unfolding round scheme_of
  rows_round =
      blocks_moved 0 (first_cell m) (row_new kind v table ends f) (new_in (scheme_of m st kind v) f) (cell_count m)
      (λ i h. ap (row_new kind v table ends f) (zero-add i) ∙ row_new_lem i h)

  module _ (stencil : bad10 (top m) st ≡ false) (rule : bad11 kind (steps st) v ≡ false) where
    row_is_ready : bad14 (cell_count m) f ≡ false → (j : ℕ) → j < cell_count m → Row kind v table ends f j
    row_is_ready field j h =
        let es : List Near = reach m st (first_cell m + j) in
        let z : get_or ends (j + 1) 0 - get_or ends j 0 ≡ length es = size j h in
        record {
          rises = omega (arith, row_size m st before table ends r made room j h);
          ready = ready_from kind v table (4 * get_or ends j 0) (get_or ends (j + 1) 0 - get_or ends j 0) f 0 j (cell_count m) (steps st) rule (steps_few (top m) st stencil)
              (omega (arith, row_fits m st before table ends r made room j h))
              (omega (arith, row_fits m st before table ends r made room j h, table_length m st before table ends r made room))
              (omega (arith, field_length (cell_count m) f field))
              (field_ranged (cell_count m) f field)
              h
              (λ t k.
              let q : t < length es = omega arith in
              let w = All_get_or (λ (e : Near). (first_cell m ≤ e.cell) × (e.cell < first_cell m + cell_count m)) es t (record { cell = 0; layer = 0 }) (reach_in m st (first_cell m + j)) q in
              omega (arith, row_cell m st before table ends r made room j t (record { cell = 0; layer = 0 }) h q, w.0, w.1))
              (λ t k.
              let q : t < length es = omega arith in
              let w = All_get_or (λ (e : Near). (e.layer % 2 ≡ 0) × (e.layer ≤ steps st)) es t (record { cell = 0; layer = 0 }) (reach_layers m st (first_cell m + j) stencil) q in
              omega (arith, row_layer m st before table ends r made room j t (record { cell = 0; layer = 0 }) h q, w.1));
        }

    pub rows_ready : (cells : ℕ) → cells ≡ cell_count m → cells < 65536 → (b : Bool) → b ≡ bad14 cells f → b ≡ false → Rows kind v table ends cells f
    rows_ready cells ce q b be bf = record { few = q; each = λ j h. row_is_ready (ap (λ n. bad14 n f) (sym ce) ∙ sym be ∙ bf) j (omega arith) }

-- ---- the answer, test by test

pub rule_good : (kind : ℕ) (st v : Bytes) (b : Bool) → b ≡ bad11 kind (length st - 1) v → b ≡ false → bad11 kind (steps st) v ≡ false
unfolding steps
rule_good kind st v b q t = sym q ∙ t

module _ (m st : Bytes) (kind : ℕ) (v f out : Bytes) where
  -- what the call is given
  abbrev pub given : RoundInput
  given = round_input m st kind v f

  -- what the call leaves where it answers r and out is x
  abbrev pub Answered : Answer → Bytes → Type 0
  Answered r x = (r ≡ round_answer given out) × (x ≡ round_out given out)

  refused : (n : ℕ) → round_number given out ≡ n → (n ≡ 0 → ⊥) → Answered (Refused n) out
  unfolding round_answer round_out
  refused = refuses (round_number given out) (cell_count m) (over out 0 (round (scheme_of m st kind v) f)) out

  done : round_number given out ≡ 0 → Answered (Done (cell_count m)) (over out 0 (round (scheme_of m st kind v) f))
  unfolding round_answer round_out
  done = accepts (round_number given out) (cell_count m) (over out 0 (round (scheme_of m st kind v) f)) out

  -- the call goes on by the kind that the number stands for
  pub told_kind : (r : Result Kind Refusal) (k : Kind) → r ≡ rule_of kind → r ≡ Ok k → (a : Answer) (x : Bytes)
      → (a ≡ round_answer (round_input m st (kind_number k) v f) out) × (x ≡ round_out (round_input m st (kind_number k) v f) out) → Answered a x
  told_kind r k e q a x g =
      let n : kind_number k ≡ kind = sym (known_number kind k (sym e ∙ q)) in
      (g.0 ∙ ap (λ i. round_answer (round_input m st i v f) out) n, g.1 ∙ ap (λ i. round_out (round_input m st i v f) out) n)

  -- tests after those of an accepted mesh
  module _ (mesh : mesh_number m ≡ 0) where
    number_10 : bad10 (top m) st ≡ true → round_number given out ≡ 10
    unfolding round_number
    number_10 a = mesh_then m _ mesh ∙ simp a

    module _ (ten : bad10 (top m) st ≡ false) where
      number_11 : bad11 kind (steps st) v ≡ true → round_number given out ≡ 11
      unfolding round_number
      number_11 a = mesh_then m _ mesh ∙ simp (ten, a)

      module _ (eleven : bad11 kind (steps st) v ≡ false) where
        number_13 : bad13 m st ≡ true → round_number given out ≡ 13
        unfolding round_number
        number_13 a = mesh_then m _ mesh ∙ simp (ten, eleven, a)

        module _ (thirteen : bad13 m st ≡ false) where
          number_14 : bad14 (cell_count m) f ≡ true → round_number given out ≡ 14
          unfolding round_number
          number_14 a = mesh_then m _ mesh ∙ simp (ten, eleven, thirteen, a)

          module _ (fourteen : bad14 (cell_count m) f ≡ false) where
            number_last : (x : Bool) → ltb (length out) (4 * cell_count m) ≡ x → round_number given out ≡ cond x 16 0
            unfolding round_number
            number_last x a = mesh_then m _ mesh ∙ simp (ten, eleven, thirteen, fourteen, a)

  number_mesh : (n : ℕ) → n ≡ mesh_number m → (n ≡ 0 → ⊥) → round_number given out ≡ n
  unfolding round_number
  number_mesh n e z = mesh_refuses m _ (λ q. z (e ∙ q)) ∙ sym e

  pub told_mesh : (n : ℕ) → n ≡ mesh_number m → (n ≡ 0 → ⊥) → Answered (Refused n) out
  told_mesh n e z = refused n (number_mesh n e z) z

  module _ (mesh : mesh_number m ≡ 0) where
    pub told_10 : (d : ℕ) (b : Bool) → d ≡ top m → b ≡ bad10 d st → b ≡ true → Answered (Refused 10) out
    told_10 d b p q t = refused 10 (number_10 mesh (ap (λ k. bad10 k st) (sym p) ∙ sym q ∙ t)) (λ z. omega (arith, z))

    module _ (ten : bad10 (top m) st ≡ false) where
      pub told_unknown : {e : Refusal} (r : Result Kind Refusal) → r ≡ rule_of kind → r ≡ Err e → Answered (Refused 11) out
      told_unknown r f q = refused 11 (number_11 mesh ten (sym (unknown_rule v (steps st) kind r f q))) (λ z. omega (arith, z))

      pub told_11 : (r : Result Kind Refusal) (k : Kind) → r ≡ rule_of kind → r ≡ Ok k → (b : Bool) → b ≡ bad11 (kind_number k) (length st - 1) v → b ≡ true → Answered (Refused 11) out
      unfolding steps
      told_11 r k e q b f t = refused 11 (number_11 mesh ten (sym (known_rule v (length st - 1) kind k r b e q f) ∙ t)) (λ z. omega (arith, z))

      module _ (eleven : bad11 kind (steps st) v ≡ false) where
        pub told_13 : bad13 m st ≡ true → Answered (Refused 13) out
        told_13 h = refused 13 (number_13 mesh ten eleven h) (λ z. omega (arith, z))

        module _ (before table : Bytes) (ends : List ℕ) (r : ℕ) (made : Tabled m st before table ends r) (cells : ℕ) (ce : cells ≡ cell_count m) (b : Bool) (be : b ≡ bad14 cells f) where
          in_size : bad13 m st ≡ false
          in_size = table_made m st before table ends r made

          fourteen : bad14 (cell_count m) f ≡ b
          fourteen = ap (λ n. bad14 n f) (sym ce) ∙ sym be

          pub told_14 : b ≡ true → Answered (Refused 14) out
          told_14 t = refused 14 (number_14 mesh ten eleven in_size (fourteen ∙ t)) (λ z. omega (arith, z))

          module _ (bf : b ≡ false) where
            pub told_16 : length out < 4 * cells → Answered (Refused 16) out
            told_16 h = refused 16 (number_last mesh ten eleven in_size (fourteen ∙ bf) true (lt-ltb (length out) (4 * cell_count m) (omega arith))) (λ z. omega (arith, z))

            pub told_done : length before ≡ table_bytes → 4 * cells ≤ length out → (x : Bytes) → x ≡ over out 0 (blocks 0 cells (row_new kind v table ends f)) → Answered (Done cells) x
            told_done room h x e =
                let a = done (number_last mesh ten eleven in_size (fourteen ∙ bf) false (le-ltb (length out) (4 * cell_count m) (omega arith))) in
                (ap Done ce ∙ a.0, e ∙ ap (λ n. over out 0 (blocks 0 n (row_new kind v table ends f))) ce ∙ ap (over out 0) (rows_round m st kind v f before table ends r made room) ∙ a.1)

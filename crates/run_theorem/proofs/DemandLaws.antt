-- Demand 3: every order of calls on the bytes of all parts gives the undivided field. Assumes nothing.
use Rattle.std.specs.Prelude.{◌≡◌, Bool, cond, List, [], ◌∷◌, ◌++◌, map, ℕ, zero, suc, ◌+◌, ◌*◌, ◌<◌, length, get_or, drop}
use Rattle.std.proofs.Math.Path.{refl}
use Rattle.std.proofs.Common.{sym, ap, ap₂, ◌∙◌, subst₂, append_assoc, arith, get_or-append-add}
use Rattle.std.proofs.Math.Bool.{true, false}
use Rattle.std.proofs.lemmas.Bool.{false≢true}
use Rattle.std.proofs.Math.ListN.{get_or-append}
use Rattle.vocabulary.specs.Bytes.{Bytes, byte_at}
use Rattle.vocabulary.proofs.ByteLaws.{over_front}
use Rattle.vocabulary.specs.Lists.{All, joined}
use Rattle.vocabulary.specs.Intervals.{is_up_to}
use Rattle.vocabulary.proofs.IntervalLaws.{up_to_true}
use Rattle.vocabulary.proofs.ListLaws.{mem_all}
use Rattle.layout.specs.Words.{word, word_at, word_bytes}
use Rattle.layout.proofs.WordLaws.{word_same, word_left, word_back}
use Rattle.depths.specs.Depths.{four}
use Rattle.depths.proofs.DepthLaws.{fours_same, four_same, four_past, four_whole, length_value_bytes}
use Rattle.mesh.specs.Mesh.{cell_count}
use Rattle.round.specs.Rounds.{scheme_of, undivided, point_in}
use Rattle.round.proofs.RoundLaws.{field_length, undivided_good}
use Rattle.split.specs.Split.{points_of, points_in}
use Rattle.split.specs.Lists.{split_in}
use Rattle.part_state.specs.State.{is_state}
use Rattle.part_start_plan.specs.Start.{first_state, Inputs, scheme_in, start_number, start_state}
use Rattle.run_theorem.specs.Run.{PointDepths, begin, Run, end_of, collects_of, points_given_by, Right, Gathered, RightPoints, SameField, RunTheorem}
use Rattle.run_theorem.proofs.WorldLaws.{StateHolds, Inv, run_inv}
use Rattle.run_theorem.proofs.StartLaws.{Ready, started_facts, front_in, start_is, begin_good, parted}
use Rattle.run_theorem.proofs.PointStartLaws.{pointed}

-- no bytes are no state
none_state : is_state [] ≡ false
unfolding is_state word_at word
none_state = refl

module _ (I : Inputs) (r : Run I) where
  pub inputs : Ready I
  inputs = (started_facts I 1 (r.buffers 1) (r.started 1 (omega arith) r.some_part)).inputs

  -- every state begins right, and a number that is no part has none
  begin_holds : (i : ℕ) → StateHolds I (front_in I) i 0 ((begin I r.buffers).states i)
  unfolding begin
  begin_holds i = go (is_up_to I.split.parts i) refl
    where
      go : (t : Bool) → is_up_to I.split.parts i ≡ t → StateHolds I (front_in I) i 0 (cond t (start_state I i (r.buffers i)) [])
      go true e = λ s.
          let p = up_to_true I.split.parts i e in
          let n : start_number I i (r.buffers i) ≡ 0 = r.started i p.0 p.1 in (
            p,
            rw (start_is I i (r.buffers i) n) (begin_good I i inputs (drop (length (first_state I i)) (r.buffers i))),
          )
      go false e = λ s. absurd (false≢true (sym none_state ∙ s))

  begin_inv : Inv I (front_in I) (begin I r.buffers)
  unfolding begin
  begin_inv = record { good = begin_holds; right = tt; gave = tt; pointed = tt }

  pub end_inv : Inv I (front_in I) (end_of r)
  end_inv = run_inv I (front_in I) (parted I inputs) (pointed I inputs) (begin I r.buffers) r.calls r.honest begin_inv

  collects_right : All (Right I) (collects_of r)
  collects_right = end_inv.gave

  points_right : All (RightPoints I) (points_given_by r)
  points_right = end_inv.pointed

  undivided_length : (k : ℕ) → length (undivided (scheme_in I) I.field k) ≡ 4 * cell_count I.split.mesh
  unfolding scheme_of
  undivided_length k =
      field_length (cell_count I.split.mesh) (undivided (scheme_in I) I.field k)
      (undivided_good I.split.mesh I.split.stencil I.rule.kind I.rule.weights I.field k inputs.field_good)

  gathered_whole : (k : ℕ) (G : Bytes) → Gathered I (collects_of r) k G → G ≡ undivided (scheme_in I) I.field k
  gathered_whole k G v =
      fours_same (cell_count I.split.mesh) G (undivided (scheme_in I) I.field k) v.long (undivided_length k)
      (λ c h.
      let e = v.collected c h in
      let q : Right I e.0 = mem_all (Right I) (collects_of r) e.1 collects_right in
      e.4 ∙ q.owned c h (sym e.2) ∙ ap (λ n. four (undivided (scheme_in I) I.field n) (4 * c)) e.3)

-- ---- the points given, read back

-- pieces of six bytes one after another, and what stands behind them
pieces_at : (piece : ℕ → Bytes) → ((p : ℕ) → length (piece p) ≡ 6) → (ps : List ℕ) (rest : Bytes) (t k : ℕ) → t < length ps → k < 6
    → byte_at (joined (map piece ps) ++ rest) (6 * t + k) ≡ byte_at (piece (get_or ps t 0)) k
unfolding joined
pieces_at piece six [] rest t k h l = let no : ⊥ = omega arith in absurd no
pieces_at piece six (p ∷ ps) rest zero k h l =
    let z : 6 * 0 + k ≡ k = omega arith in
    ap₂ (λ b n. byte_at b n) (append_assoc (piece p) (joined (map piece ps)) rest) z ∙ get_or-append (piece p) (joined (map piece ps) ++ rest) 0 k (omega (arith, six p))
pieces_at piece six (p ∷ ps) rest (suc t) k h l =
    let z : 6 * suc t + k ≡ length (piece p) + (6 * t + k) = omega (arith, six p) in
    ap₂ (λ b n. byte_at b n) (append_assoc (piece p) (joined (map piece ps)) rest) z
    ∙ get_or-append-add (piece p) (joined (map piece ps) ++ rest) (6 * t + k) 0
    ∙ pieces_at piece six ps rest t k (omega arith) l

-- the t-th point by its word, and its depth
point_read : (I : Inputs) (g : PointDepths) → RightPoints I g → (t : ℕ) → t < points_in (split_in I.split) g.part
    → (word g.out (6 * t) ≡ get_or (points_of (split_in I.split) g.part) t 0)
    × (four g.out (6 * t + 2) ≡ point_in (scheme_in I) (undivided (scheme_in I) I.field g.round) (get_or (points_of (split_in I.split) g.part) t 0))
unfolding point_in word_bytes
point_read I g r t h =
    let ps : List ℕ = points_of (split_in I.split) g.part in
    let depth : ℕ → Bytes = point_in (scheme_in I) (undivided (scheme_in I) I.field g.round) in
    let piece : ℕ → Bytes = λ p. word_bytes p ++ depth p in
    let x : Bytes = joined (map piece ps) in
    let p : ℕ = get_or ps t 0 in
    let four_long : (p : ℕ) → length (depth p) ≡ 4 = λ p. length_value_bytes _ in
    let at : (k : ℕ) → k < 6 → byte_at g.out (6 * t + k) ≡ byte_at (piece p) k =
    λ k l. ap (λ b. byte_at b (6 * t + k)) (r.given ∙ over_front g.before x) ∙ pieces_at piece (λ p. omega (arith, four_long p)) ps (drop (length x) g.before) t k h l in
    let z : 6 * t ≡ 6 * t + 0 = omega arith in (
      word_same g.out (piece p) (6 * t) 0 (ap (λ n. byte_at g.out n) z ∙ at 0 (omega arith)) (at 1 (omega arith)) ∙ word_left (word_bytes p) (depth p) 0 (omega arith) ∙ word_back p,
      four_same g.out (piece p) (6 * t + 2) 2
          (λ k l. let y : 6 * t + 2 + k ≡ 6 * t + (2 + k) = omega arith in ap (λ n. byte_at g.out n) y ∙ at (2 + k) (omega arith))
          ∙ four_past (word_bytes p) (depth p) 0
          ∙ four_whole (depth p) (four_long p),
    )

pub run_theorem : RunTheorem
run_theorem = record {
  each_collect = collects_right;
  whole_field = gathered_whole;
  two_runs = λ I J mesh stencil rule r s k G H g h.
      let p = gathered_whole I r k G g in
      let q = gathered_whole J s k H h in
      let same : Bytes → Bytes → Type 0 = SameField (cell_count I.split.mesh) in
      (subst₂ same p q, subst₂ same (sym p) (sym q));
  each_points = points_right;
  shared_point = λ I r g h m n e t u p q w.
      let a = point_read I g (mem_all (RightPoints I) (points_given_by r) m (points_right I r)) t p in
      let c = point_read I h (mem_all (RightPoints I) (points_given_by r) n (points_right I r)) u q in
      a.1 ∙ ap₂ (λ k x. point_in (scheme_in I) (undivided (scheme_in I) I.field k) x) e (sym a.0 ∙ w ∙ c.0) ∙ sym c.1;
}

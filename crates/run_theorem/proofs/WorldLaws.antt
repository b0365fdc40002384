-- A run keeps the undivided depths: the invariant of a world, that every step keeps it, and the claims of demand 3 for parts whose lists are
-- as they must be and whose states begin as they must. Assumes nothing.
use Rattle.std.specs.Prelude.{◌≡◌, ◌⊎◌, Bool, get_or}
use Rattle.std.proofs.Math.Path.{refl, sym, ap, ap₂, subst}
use Rattle.std.proofs.Common.{◌∙◌, subst₂}
use Rattle.std.proofs.Math.Logic.{inl, inr}
use Rattle.std.proofs.Math.Bool.{true, false, cond}
use mathlib.Core.List.{List, [], ◌∷◌, map}
use Prim.Native.Nat.{ℕ, suc, ◌+◌, ◌-◌, ◌*◌, ◌/◌, ◌<◌, ◌≤◌}
use native.Mathlib.Omega.{arith}
use Rattle.std.proofs.Math.Dec.{eqb}
use Rattle.std.proofs.Math.ListN.{length, take}
use borrow.Author.Tests.{eqb-true, eq-eqb, ltb-false, not-false}
use Rattle.vocabulary.specs.Bytes.{Bytes, over}
use Rattle.vocabulary.proofs.ByteLaws.{Place, below, inside, above, place, over_length}
use Rattle.vocabulary.specs.Lists.{All, joined}
use Rattle.vocabulary.proofs.ListLaws.{cond_has, mem_all}
use Rattle.vocabulary.specs.Tests.{Test, first_of}
use Rattle.vocabulary.proofs.TestLaws.{passed_by}
use Rattle.depths.specs.Depths.{four}
use Rattle.mesh.specs.Mesh.{cell_count}
use Rattle.round_rule.specs.Rules.{Old}
use Rattle.round_rule.proofs.RuleLaws.{new_length}
use Rattle.round.specs.Rounds.{Scheme, scheme_of, depth_in, undivided}
use Rattle.messages.specs.Messages.{from_in, round_in}
use Rattle.split.specs.Split.{points_of}
use Rattle.split.specs.Lists.{split_in}
use Rattle.part_state.specs.State.{Lists, lists_in, lists_of, dynamic, is_state, round_at, is_state_at}
use Rattle.part_state.proofs.StateLaws.{state_at, whole_is}
use Rattle.part_calls.specs.Calls.{message_to, written_in, take_tests_in, taken_in, advance_tests_in, advanced_in, collect_tests_in, collected_in, write_number}
use Rattle.part_calls.specs.Calls.{message, write_state, write_out, take_number, take_state, advance_number, advance_state, collect_number, collect_out}
use Rattle.part_calls.specs.Calls.{points_tests_in, points_given, points_number, points_out}
use Rattle.run_theorem.specs.Run.{Call, write, take_in, advance, collect, points, World, step, run, Fair, Honest, owner_in, Right, RightPoints}
use Rattle.part_calls.proofs.CallLaws.{Room, room_of, taken_facts}
use Rattle.part_calls.proofs.EffectLaws.{all_taken_lem, advance_taken, collect_length, collect_owned, collect_others, points_length}
use Rattle.run_theorem.proofs.StepLaws.{put_has, put_both, more_all, on_states, write_part, written_is}
use Rattle.run_theorem.proofs.RunLaws.{Part, Parted, Undivided, Good, RightMessage, write_good, write_right, take_good, advance_good}
use Rattle.run_theorem.proofs.PointLaws.{Pointed, point_depth, points_right}
use Rattle.part_start_plan.specs.Start.{Inputs, scheme_in}

-- the owner of a cell by its global number
abbrev pub owner_of : Inputs → ℕ → ℕ
owner_of I c = owner_in I (c - (scheme_in I).first)

pub new_is_four : (I : Inputs) (own : Bytes) (os : List Old) → length own ≡ 4 → length ((scheme_in I).new own os) ≡ 4
unfolding scheme_of
new_is_four I own os h = new_length I.rule.kind I.rule.weights own os h

-- ---- the invariant

-- the lists of part i stand in the bytes `front i`
module _ (I : Inputs) (front : ℕ → Bytes) where
  abbrev pub lists_at : ℕ → Lists
  lists_at i = lists_in (front i)

  abbrev GoodAt : ℕ → ℕ → Bytes → Type 0
  GoodAt i rd b = Good (scheme_in I) I.field (lists_in (front i)) (front i) (length (front i)) rd b

  -- a message that a run may hand on
  abbrev Sound : Bytes → Type 0
  Sound x = RightMessage (scheme_in I) I.field I.split.parts lists_at x

  -- what a state holds, if it is one
  abbrev pub StateHolds : ℕ → ℕ → Bytes → Type 0
  StateHolds i rd b = is_state b ≡ true → Part I.split.parts i × GoodAt i rd b

  pub record Inv (w : World) : Type 0 where
    pub good : (i : ℕ) → StateHolds i (w.made i) (w.states i)
    pub right : All Sound w.sent
    pub gave : All (Right I) w.given
    pub pointed : All (RightPoints I) w.pointed

  -- a state still has the lists that its part was started with
  module _ (P : Lists → ℕ → Type 0) (i rd : ℕ) (b : Bytes) (g : GoodAt i rd b) where
    lists_are : lists_of b ≡ lists_in (front i)
    unfolding lists_of
    lists_are = ap lists_in (ap (λ n. take n b) g.place_is ∙ g.front_is)

    turn : P (lists_at i) (length (front i)) → P (lists_of b) (dynamic b)
    turn = subst₂ P (sym lists_are) (sym g.place_is)

    back : P (lists_of b) (dynamic b) → P (lists_at i) (length (front i))
    back = subst₂ P lists_are g.place_is

  room : (i rd : ℕ) (b : Bytes) → is_state b ≡ true → GoodAt i rd b → Room (lists_at i) (length (front i)) b
  room i rd b s g =
      let e : is_state_at (front i) (length (front i)) b ≡ true =
      subst₂ (λ n lists. is_state_at lists n b ≡ true) g.place_is (ap (λ n. take n b) g.place_is ∙ g.front_is) (sym (state_at b) ∙ s) in
      room_of (front i) (length (front i)) b (whole_is (front i) (length (front i)) b e)

  module _ (S : Parted (scheme_in I) (owner_of I) I.split.parts lists_at) (T : Pointed (scheme_in I) I.split.parts (points_of (split_in I.split)) lists_at) where
    -- ---- write

    write_holds : (i rd : ℕ) (b : Bytes) (j : ℕ) (out : Bytes) → StateHolds i rd b → StateHolds i rd (write_state b j out)
    unfolding write_state
    write_holds i rd b j out h =
        cond_has (StateHolds i rd) (eqb (write_number b j out) 0) (written_in (lists_of b) (dynamic b) b j) b
        (λ e _.
        let n : write_number b j out ≡ 0 = eqb-true _ 0 e in
        let s = (on_states b).0 j out n in
        let g = h s in
        let u = write_part b j out n in (
          g.0,
          turn (λ L changes. GoodAt i rd (written_in L changes b j)) i rd b g.1
              (write_good (scheme_in I) I.field (lists_at i) (front i) (length (front i)) rd b j u.0 u.1 (room i rd b s g.1) g.1),
        ))
        (λ e. h)

    write_sends : (i rd : ℕ) (b : Bytes) (j : ℕ) (out : Bytes) → StateHolds i rd b → write_number b j out ≡ 0
        → Sound (take (length (message b j)) (write_out b j out))
    unfolding message
    write_sends i rd b j out h n =
        let g = h ((on_states b).0 j out n) in
        let u = write_part b j out n in
        subst Sound (sym (written_is b j out n))
        (turn (λ L changes. Sound (message_to L changes b j)) i rd b g.1
        (write_right (scheme_in I) I.field (owner_of I) I.split.parts lists_at S i g.0 (front i) (length (front i)) rd b j u.0 u.1 g.1))

    -- ---- take

    take_holds : (i rd : ℕ) (b x : Bytes) → StateHolds i rd b → (take_number b x ≡ 0 → Sound x) → StateHolds i rd (take_state b x)
    unfolding take_state take_number
    take_holds i rd b x h m =
        cond_has (StateHolds i rd) (eqb (take_number b x) 0) (taken_in (lists_of b) (dynamic b) b x) b
        (λ e _.
        let n : take_number b x ≡ 0 = eqb-true _ 0 e in
        let s = (on_states b).1 x n in
        let g = h s in
        let L : Lists = lists_in (front i) in
        let changes : ℕ = length (front i) in
        let r = m n in
        let v = taken_facts (lists_at i) (length (front i)) b x (back (λ L changes. first_of (take_tests_in L changes b x) ≡ 0) i rd b g.1 n) in (
          g.0,
          turn (λ L changes. GoodAt i rd (taken_in L changes b x)) i rd b g.1
              (take_good (scheme_in I) I.field L (front i) changes rd b x (room i rd b s g.1) v g.1
              (λ t k.
              r.depths t k
              ∙ ap (Undivided (scheme_in I) I.field (round_in x))
              (ap (λ p. (lists_at (from_in x)).global (get_or ((lists_at (from_in x)).exports p) t 0)) (v.to_is ∙ S.part_is i g.0)
              ∙ sym (S.agree i (from_in x) t g.0 r.sender (omega (arith, v.count_is)))))),
        ))
        (λ e. h)

    -- ---- advance

    advance_holds : (i rd : ℕ) (b : Bytes) → StateHolds i rd b → StateHolds i (cond (eqb (advance_number b) 0) (suc rd) rd) (advance_state b)
    unfolding advance_state advance_number
    advance_holds i rd b h = go (eqb (advance_number b) 0) refl
      where
        go : (t : Bool) → eqb (advance_number b) 0 ≡ t → StateHolds i (cond t (suc rd) rd) (cond t (advanced_in (lists_of b) (dynamic b) b) b)
        go true e = λ _.
            let n : advance_number b ≡ 0 = eqb-true _ 0 e in
            let s = (on_states b).2 n in
            let g = h s in
            let t = advance_taken (lists_at i) (length (front i)) b (back (λ L changes. first_of (advance_tests_in L changes b) ≡ 0) i rd b g.1 n) in (
              g.0,
              turn (λ L changes. GoodAt i (suc rd) (advanced_in L changes b)) i rd b g.1
                  (advance_good (scheme_in I) I.field (new_is_four I) (owner_of I) I.split.parts lists_at S i g.0 (front i) (length (front i)) rd b (room i rd b s g.1) g.1 t),
            )
        go false e = h

    -- ---- collect

    module _ (i rd : ℕ) (b : Bytes) (part : Part I.split.parts i) (g : GoodAt i rd b)
        (k : ℕ) (f : Bytes) (e : first_of (collect_tests_in (lists_at i) (length (front i)) b k f) ≡ 0) where
      abbrev L : Lists
      L = lists_in (front i)

      same_round : k ≡ rd
      unfolding collect_tests_in
      same_round = eqb-true _ _ (not-false _ (passed_by 28 (collect_tests_in (lists_at i) (length (front i)) b k f) tt e)) ∙ g.round_is

      wide : 4 * (scheme_in I).cells ≤ length f
      unfolding collect_tests_in
      wide =
          let h : 4 * (lists_at i).cells ≤ length f = ltb-false _ _ (passed_by 16 (collect_tests_in (lists_at i) (length (front i)) b k f) tt e) in
          omega (arith, S.cells_are i part)

      index : (l : ℕ) → 1 ≤ l → l ≤ (lists_at i).owned → (lists_at i).global l - (lists_at i).first < (scheme_in I).cells
      index l h q = let c = S.owned_cell i part l h q in omega (arith, c.0, c.1, S.first_is i part)

      fits : (l : ℕ) → 1 ≤ l → l ≤ (lists_at i).owned → 4 * ((lists_at i).global l - (lists_at i).first) + 4 ≤ length f
      fits l h q = omega (arith, index l h q, wide)

      mine : (l : ℕ) → 1 ≤ l → l ≤ (lists_at i).owned → owner_in I ((lists_at i).global l - (lists_at i).first) ≡ i
      mine l h q = ap (λ n. owner_in I ((lists_at i).global l - n)) (S.first_is i part) ∙ S.owned_owner i part l h q

      apart : (x : ℕ) → (x / 4 < cell_count I.split.mesh → owner_in I (x / 4) ≡ i → ⊥) → (l : ℕ) → 1 ≤ l → l ≤ (lists_at i).owned
          → Place (4 * ((lists_at i).global l - (lists_at i).first)) 4 x
          → (x < 4 * ((lists_at i).global l - (lists_at i).first)) ⊎ (4 * ((lists_at i).global l - (lists_at i).first) + 4 ≤ x)
      unfolding scheme_of
      apart x n l h q (below j) = inl j
      apart x n l h q (inside t j p) =
          let c : x / 4 ≡ (lists_at i).global l - (lists_at i).first = omega arith in
          absurd (n (subst (λ y. y < cell_count I.split.mesh) (sym c) (index l h q)) (ap (λ y. owner_in I y) c ∙ mine l h q))
      apart x n l h q (above j) = inr j

      collect_right : Right I (record { part = i; round = k; made = rd; before = f; field = collected_in (lists_at i) (length (front i)) b (lists_at i).owned f })
      unfolding scheme_of depth_in
      collect_right = record {
        rounds = same_round;
        long = collect_length L (length (front i)) b f (lists_at i).owned fits;
        owned = λ c h o.
            let F : ℕ = (scheme_in I).first in
            let z : F + c - F ≡ c = omega arith in
            let y = S.holder i part (F + c) (omega arith, omega arith) (ap (λ n. owner_in I n) z ∙ o) in
            let p : (lists_at i).global y.0 - (lists_at i).first ≡ c = omega (arith, y.3, S.first_is i part) in
            subst (λ n. four (collected_in (lists_at i) (length (front i)) b (lists_at i).owned f) (4 * n) ≡ four (undivided (scheme_in I) I.field k) (4 * n)) p
            (collect_owned L (length (front i)) b f (λ n. four (undivided (scheme_in I) I.field k) (4 * n)) (lists_at i).owned fits
            (λ l h q.
            g.owned l h q
            ∙ ap₂ (λ r s. four (undivided (scheme_in I) I.field r) (4 * ((lists_at i).global l - s))) (sym same_round) (sym (S.first_is i part)))
            y.0 y.1 y.2);
        others = λ x n.
            collect_others L (length (front i)) b f (lists_at i).owned fits x
            (λ l h q. apart x n l h q (place (4 * ((lists_at i).global l - (lists_at i).first)) 4 x));
      }

    collect_gives : (i rd : ℕ) (b : Bytes) (k : ℕ) (f : Bytes) → StateHolds i rd b → collect_number b k f ≡ 0
        → Right I (record { part = i; round = k; made = rd; before = f; field = collect_out b k f })
    unfolding collect_number collect_out
    collect_gives i rd b k f h n =
        let g = h ((on_states b).3 k f n) in
        subst (λ t. Right I (record { part = i; round = k; made = rd; before = f; field = cond t (collected_in (lists_of b) (dynamic b) b (lists_of b).owned f) f })) (sym (eq-eqb _ 0 n))
        (turn (λ L changes. Right I (record { part = i; round = k; made = rd; before = f; field = collected_in L changes b L.owned f })) i rd b g.1
        (collect_right i rd b g.0 g.1 k f (back (λ L changes. first_of (collect_tests_in L changes b k f) ≡ 0) i rd b g.1 n)))

    -- ---- points

    points_give : (i rd : ℕ) (b out : Bytes) → StateHolds i rd b → points_number b out ≡ 0
        → RightPoints I (record { part = i; round = round_at b (dynamic b); made = rd; before = out; out = points_out b out })
    unfolding points_number points_out points_tests_in
    points_give i rd b out h n =
        let g = h ((on_states b).4 out n) in
        let X : Scheme = scheme_in I in
        let ps : List ℕ = points_of (split_in I.split) i in
        let changes : ℕ = length (front i) in
        let ts : List Test = points_tests_in (lists_at i) changes b out in
        let e : first_of (points_tests_in (lists_at i) (length (front i)) b out) ≡ 0 = back (λ L changes. first_of (points_tests_in L changes b out) ≡ 0) i rd b g.1 n in
        let same : round_at b (dynamic b) ≡ rd = ap (round_at b) g.1.place_is ∙ g.1.round_is in
        let right : points_given (lists_at i) (length (front i)) b ≡ joined (map (point_depth (scheme_in I) (undivided (scheme_in I) I.field rd)) (points_of (split_in I.split) i)) =
        points_right X I.field (owner_of I) I.split.parts lists_at S i g.0 (front i) changes rd b g.1
        (all_taken_lem (lists_at i) changes b (not-false _ (passed_by 24 ts tt e))) (points_of (split_in I.split)) T (passed_by 29 ts tt e) in
        let gave : points_out b out ≡ over out 0 (points_given (lists_at i) (length (front i)) b) =
        ap (λ t. cond t (over out 0 (points_given (lists_of b) (dynamic b) b)) out) (eq-eqb _ 0 n)
        ∙ ap (over out 0) (turn (λ L changes. points_given L changes b ≡ points_given (lists_at i) (length (front i)) b) i rd b g.1 refl) in
        let wide : 6 * (lists_at i).points ≤ length out = ltb-false _ _ (passed_by 16 ts tt e) in
        record {
          rounds = same;
          long = ap length gave ∙ over_length out 0 (points_given (lists_at i) changes b) (omega (arith, points_length (lists_at i) (length (front i)) b));
          given = gave ∙ ap (over out 0) (right ∙ ap (λ k. joined (map (point_depth X (undivided X I.field k)) ps)) (sym same));
        }

    -- ---- a step, and a run

    step_inv : (w : World) (c : Call) → Fair w c → Inv w → Inv (step w c)
    unfolding step Fair
    step_inv w (write i j out) h v = record {
      good = put_has (λ i s. StateHolds i (w.made i) s) w.states i _ (write_holds i (w.made i) (w.states i) j out (v.good i)) v.good;
      right = more_all Sound _ _ w.sent (write_sends i (w.made i) (w.states i) j out (v.good i)) v.right;
      gave = v.gave;
      pointed = v.pointed;
    }
    step_inv w (take_in i x) h v = record {
      good = put_has (λ i s. StateHolds i (w.made i) s) w.states i _
          (take_holds i (w.made i) (w.states i) x (v.good i) (λ n. mem_all Sound w.sent (h n) v.right)) v.good;
      right = v.right;
      gave = v.gave;
      pointed = v.pointed;
    }
    step_inv w (advance i) h v = record {
      good = put_both StateHolds w.made w.states i _ _ (advance_holds i (w.made i) (w.states i) (v.good i)) v.good;
      right = v.right;
      gave = v.gave;
      pointed = v.pointed;
    }
    step_inv w (collect i k f) h v = record {
      good = v.good;
      right = v.right;
      gave = more_all (Right I) _ _ w.given (collect_gives i (w.made i) (w.states i) k f (v.good i)) v.gave;
      pointed = v.pointed;
    }
    step_inv w (points i out) h v = record {
      good = v.good;
      right = v.right;
      gave = v.gave;
      pointed = more_all (RightPoints I) _ _ w.pointed (points_give i (w.made i) (w.states i) out (v.good i)) v.pointed;
    }

    pub run_inv : (w : World) (cs : List Call) → Honest w cs → Inv w → Inv (run w cs)
    unfolding run Honest
    run_inv w [] h v = v
    run_inv w (c ∷ cs) h v = run_inv (step w c) cs h.1 (step_inv w c h.0 v)

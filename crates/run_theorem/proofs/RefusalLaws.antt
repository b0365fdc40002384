-- In a run every part's bytes are a state after any calls, and so the number of a points call is what mesh, map and stencil say (F-1). Assumes nothing.
use Rattle.std.specs.Prelude.{◌≡◌, true, false, ltb, length}
use Rattle.std.proofs.Math.Path.{ap, ap₂}
use Rattle.std.proofs.Common.{◌∙◌}
use Rattle.std.proofs.Math.Bool.{Bool, not, cond}
use mathlib.Core.List.{List, [], ◌∷◌}
use Prim.Native.Nat.{ℕ, ◌*◌}
use Rattle.std.proofs.Math.ListN.{take}
use Rattle.vocabulary.specs.Tests.{refuse, first_of}
use Rattle.vocabulary.specs.Bytes.{Bytes}
use Rattle.vocabulary.proofs.IntervalLaws.{up_to_intro}
use Rattle.split.specs.Split.{Split, points_in, bad29}
use Rattle.split.specs.Lists.{split_in}
use Rattle.part_state.specs.State.{lists_in, lists_of, dynamic, is_state, bad20}
use Rattle.part_calls.specs.Calls.{all_taken, outside, points_tests_in, points_number}
use Rattle.part_start_plan.specs.Start.{Inputs, start_state}
use Rattle.run_theorem.specs.Run.{Call, write, take_in, advance, collect, points, World, step, run, begin, Run, end_of, PointNumbers}
use Rattle.run_theorem.proofs.RunLaws.{Part}
use Rattle.run_theorem.proofs.StepLaws.{put_has}
use Rattle.run_theorem.proofs.KeptLaws.{write_kept, take_kept, advance_kept}
use Rattle.run_theorem.proofs.BegunLaws.{start_kept}
use Rattle.run_theorem.proofs.StartLaws.{front_in}
use Rattle.run_theorem.proofs.PointStartLaws.{lists_points, outside_is}
use Rattle.run_theorem.proofs.DemandLaws.{inputs, end_inv}

-- ---- states of a run

-- of a number that is a part, the bytes are a state
abbrev StateOf : ℕ → ℕ → Bytes → Type 0
StateOf parts i b = Part parts i → is_state b ≡ true

module _ (parts : ℕ) where
  step_states : (w : World) (c : Call) → ((i : ℕ) → StateOf parts i (w.states i)) → (i : ℕ) → StateOf parts i ((step w c).states i)
  unfolding step
  step_states w (write i j out) h = put_has (StateOf parts) w.states i _ (λ p. write_kept (w.states i) out j (h i p)) h
  step_states w (take_in i x) h = put_has (StateOf parts) w.states i _ (λ p. take_kept (w.states i) x (h i p)) h
  step_states w (advance i) h = put_has (StateOf parts) w.states i _ (λ p. advance_kept (w.states i) (h i p)) h
  step_states w (collect i k f) h = h
  step_states w (points i out) h = h

  calls_states : (w : World) (cs : List Call) → ((i : ℕ) → StateOf parts i (w.states i)) → (i : ℕ) → StateOf parts i ((run w cs).states i)
  unfolding run
  calls_states w [] h = h
  calls_states w (c ∷ cs) h = calls_states (step w c) cs (step_states w c h)

pub run_states : (I : Inputs) (r : Run I) (i : ℕ) → Part I.split.parts i → is_state ((end_of r).states i) ≡ true
unfolding begin
run_states I r =
    calls_states I.split.parts (begin I r.buffers) r.calls
    (λ i p.
    ap (λ t. is_state (cond t (start_state I i (r.buffers i)) [])) (up_to_intro I.split.parts i p.0 p.1)
    ∙ start_kept I i (r.buffers i) (r.started i p.0 p.1))

-- ---- the number of a points call

module _ (I : Inputs) (r : Run I) (i : ℕ) (part : Part I.split.parts i) (out : Bytes) where
  abbrev b : Bytes
  b = (end_of r).states i

  abbrev S : Split
  S = split_in I.split

  not_bad : bad20 b ≡ false
  unfolding bad20
  not_bad = ap not (run_states I r i part)

  -- its lists are still those that start wrote
  lists_are : lists_of b ≡ lists_in (front_in I i)
  unfolding lists_of
  lists_are = let g = ((end_inv I r).good i (run_states I r i part)).1 in ap lists_in (ap (λ n. take n b) g.place_is ∙ g.front_is)

  numbers : points_number b out
      ≡ first_of (refuse 24 (not (all_taken (lists_of b) (dynamic b) b)) ∷ refuse 29 (bad29 S i) ∷ refuse 16 (ltb (length out) (6 * points_in S i)) ∷ [])
  unfolding points_number points_tests_in
  numbers =
      let untaken : Bool = not (all_taken (lists_of b) (dynamic b) b) in
      let last : ℕ = cond (ltb (length out) (6 * (lists_of b).points)) 16 0 in
      ap (λ x. cond x 20 (cond untaken 24 (cond (outside (lists_of b)) 29 last))) not_bad
      ∙ ap₂ (λ x n. cond untaken 24 (cond x 29 (cond (ltb (length out) (6 * n)) 16 0)))
      (ap outside lists_are ∙ outside_is I (inputs I r) i) (ap (λ L. L.points) lists_are ∙ lists_points I (inputs I r) i)

pub point_numbers : PointNumbers
point_numbers = record { numbers = λ I r i low high out. numbers I r i (low, high) out }

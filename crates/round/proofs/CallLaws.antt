-- Calls of the undivided round, one after another, each on what the one before it left: k calls give the undivided field after k rounds.
-- Assumes nothing.
use mathlib.Core.Path.{◌≡◌, refl, sym, ap, ◌∙◌}
use mathlib.Core.Bool.{false}
use mathlib.Core.List.{List}
use Prim.Native.Nat.{ℕ, zero, suc, ◌*◌}
use lib.ListN.{length}
use Rattle.vocabulary.specs.Bytes.{Bytes, over}
use Rattle.vocabulary.proofs.ByteLaws.{over_whole}
use Rattle.vocabulary.specs.Tests.{Test, first_of}
use Rattle.vocabulary.proofs.TestLaws.{holds_of, passed_by, none_holds}
use Rattle.mesh.specs.Mesh.{cell_count, mesh_number}
use Rattle.mesh.proofs.MeshLaws.{mesh_parted, mesh_then}
use Rattle.round.specs.Rounds.{scheme_of, round, undivided, bad14, later_tests, round_number, round_out, round_input}
use Rattle.round.proofs.RoundLaws.{undivided_good, field_length}

-- the fields that k calls with the buffer `out` leave
unfoldable pub calls : Bytes → Bytes → ℕ → Bytes → Bytes → Bytes → ℕ → Bytes
calls m st kind v f out zero = f
calls m st kind v f out (suc k) = round_out (round_input m st kind v (calls m st kind v f out k)) out

module _ (m st : Bytes) (kind : ℕ) (v out : Bytes) where
  -- the tests after those of the mesh
  abbrev later : Bytes → List Test
  later g = later_tests (round_input m st kind v g) out

  round_done : (g : Bytes) → round_number (round_input m st kind v g) out ≡ 0 → round_out (round_input m st kind v g) out ≡ over out 0 (round (scheme_of m st kind v) g)
  unfolding round_out
  round_done g e = simp e

  module _ (f : Bytes) (room : length out ≡ 4 * cell_count m) (first : round_number (round_input m st kind v f) out ≡ 0) where
    halves : (mesh_number m ≡ 0) × (first_of (later f) ≡ 0)
    unfolding round_number
    halves = mesh_parted m (later f) first

    later_passed : (n : ℕ) → holds_of n (later f) ≡ false
    later_passed n = passed_by n (later f) tt halves.1

    field_kept : (k : ℕ) → bad14 (cell_count m) (undivided (scheme_of m st kind v) f k) ≡ false
    unfolding scheme_of
    field_kept k = undivided_good m st kind v f k (later_passed 14)

    -- no test but 14 looks at the field, so every one of the calls is accepted
    pub accepted_again : (k : ℕ) → round_number (round_input m st kind v (undivided (scheme_of m st kind v) f k)) out ≡ 0
    unfolding round_number
    accepted_again k =
        let g : Bytes = undivided (scheme_of m st kind v) f k in
        mesh_then m (later g) halves.0
        ∙ none_holds (later g) (later_passed 10, (later_passed 11, (later_passed 13, (field_kept k, (later_passed 16, tt)))))

    round_length : (k : ℕ) → length (round (scheme_of m st kind v) (undivided (scheme_of m st kind v) f k)) ≡ length out
    unfolding undivided
    round_length k = field_length (cell_count m) _ (field_kept (suc k)) ∙ sym room

    pub calls_undivided : (k : ℕ) → calls m st kind v f out k ≡ undivided (scheme_of m st kind v) f k
    unfolding calls undivided
    calls_undivided zero = refl
    calls_undivided (suc k) =
        ap (λ g. round_out (round_input m st kind v g) out) (calls_undivided k)
        ∙ round_done (undivided (scheme_of m st kind v) f k) (accepted_again k)
        ∙ over_whole out (round (scheme_of m st kind v) (undivided (scheme_of m st kind v) f k)) (round_length k)

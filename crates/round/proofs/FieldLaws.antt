-- What the test 14 answers, by the tests that the code makes one after the other. Assumes nothing.
use mathlib.Core.Path.{◌≡◌, sym}
use mathlib.Core.Bool.{Bool, true, not}
use Prim.Native.Nat.{ℕ, ◌*◌, ◌/◌, ◌%◌}
use native.Mathlib.Omega.{arith}
use lib.ListN.{length}
use borrow.Author.Tests.{eq-eqb, ne_eqb}
use Rattle.vocabulary.specs.Bytes.{Bytes}
use Rattle.vocabulary.specs.Intervals.{every}
use Rattle.depths.specs.Depths.{ranged_at}
use Rattle.round.specs.Rounds.{bad14}

module _ (f : Bytes) (n : ℕ) where
  wrong_length : (length f ≡ 4 * n → ⊥) → true ≡ bad14 n f
  unfolding bad14
  wrong_length h = simp (ne_eqb _ _ h)

  pub ragged_field : (length f % 4 ≡ 0 → ⊥) → true ≡ bad14 n f
  ragged_field h = wrong_length (λ e. h (omega arith))

  pub other_length : length f % 4 ≡ 0 → (length f / 4 ≡ n → ⊥) → true ≡ bad14 n f
  other_length g h = wrong_length (λ e. h (omega arith))

  pub ranged_field : length f % 4 ≡ 0 → length f / 4 ≡ n → (b : Bool) → b ≡ every 0 n (ranged_at f 0) → not b ≡ bad14 n f
  unfolding bad14
  ranged_field g h b e = let l : length f ≡ 4 * n = omega arith in simp (eq-eqb _ _ l, sym e)

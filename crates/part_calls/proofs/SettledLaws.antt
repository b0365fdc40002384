-- Imports taken and exports written, by the ends and the flags that the code reads. Assumes nothing.
use mathlib.Core.Path.{◌≡◌, refl, sym, ap₂, ◌∙◌}
use mathlib.Core.Bool.{Bool, not, ◌&&◌, ◌||◌}
use Prim.Native.Nat.{ℕ, ◌+◌, ◌-◌, ◌<◌}
use native.Mathlib.Omega.{arith}
use lib.Dec.{eqb, ltb}
use lib.ListN.{length}
use Rattle.vocabulary.specs.Bytes.{Bytes, byte_at}
use Rattle.vocabulary.specs.Intervals.{is_up_to, every}
use Rattle.vocabulary.proofs.IntervalLaws.{every_cong, up_to_intro, listed_length}
use Rattle.layout.specs.Words.{word_at}
use Rattle.layout.specs.Limits.{most_parts}
use Rattle.part_state.specs.State.{lists_in, export_end, export_at, local_exports}
use Rattle.part_calls.specs.Calls.{imports_from, exports_to, all_taken, all_written}
use Rattle.part_calls.specs.Opened.{settled_at}
use Rattle.part_state.specs.Checks.{before_imports, before_exports, taken_flags, written_flags}

-- the same of all parts, where n j is what is between the ends of part j
settled_are : (lists b : Bytes) (ends flags : ℕ) (n : ℕ → ℕ) → ((j : ℕ) → n j ≡ word_at lists (ends + 1 + j) - word_at lists (ends + 1 + (j - 1)))
    → every 1 most_parts (settled_at lists b ends flags) ≡ every 1 most_parts (λ j. not (is_up_to most_parts j && ltb 0 (n j)) || eqb (byte_at b (flags + j)) 1)
unfolding settled_at
settled_are lists b ends flags n is = every_cong 1 (settled_at lists b ends flags) (λ j. not (is_up_to most_parts j && ltb 0 (n j)) || eqb (byte_at b (flags + j)) 1) most_parts each
  where
    each : (i : ℕ) → i < most_parts → settled_at lists b ends flags (1 + i) ≡ not (is_up_to most_parts (1 + i) && ltb 0 (n (1 + i))) || eqb (byte_at b (flags + (1 + i))) 1
    each i h =
        let p : ends + (1 + i) + 1 ≡ ends + 1 + (1 + i) = omega arith in
        let q : ends + (1 + i) ≡ ends + 1 + (1 + i - 1) = omega arith in
        ap₂ (λ t x. not (t && ltb 0 x) || eqb (byte_at b (flags + (1 + i))) 1) (sym (up_to_intro most_parts (1 + i) (omega arith) (omega arith)))
        (ap₂ (λ x y. word_at lists x - word_at lists y) p q ∙ sym (is (1 + i)))

module _ (lists b : Bytes) (changes : ℕ) (u : Bool) where
  pub taken_told : u ≡ every 1 most_parts (settled_at lists b before_imports (taken_flags changes)) → u ≡ all_taken (lists_in lists) changes b
  unfolding all_taken imports_from lists_in
  taken_told e = e ∙ settled_are lists b before_imports (taken_flags changes) (lists_in lists).imported (λ j. refl)

  pub written_told : u ≡ every 1 most_parts (settled_at lists b before_exports (written_flags changes)) → u ≡ all_written (lists_in lists) changes b
  unfolding all_written exports_to lists_in local_exports
  written_told e =
      e ∙ settled_are lists b before_exports (written_flags changes) (λ j. length ((lists_in lists).exports j))
      (λ j. listed_length (export_end lists (j - 1)) (export_at lists) (export_end lists j - export_end lists (j - 1)))

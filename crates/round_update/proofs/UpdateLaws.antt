-- Laws of the table of a reach: one more entry, the sizes of the old values, and how the update is made ready. Assumes nothing.
use Rattle.std.specs.Prelude.{◌≡◌, true, false, ℕ, zero, suc, ◌+◌, ◌*◌, ◌<◌, ◌≤◌, length}
use Rattle.std.proofs.Math.Path.{refl, ap}
use Rattle.std.proofs.Common.{◌∙◌, zero-add, add-one, arith}
use mathlib.Core.List.{[], ◌∷◌, ◌++◌, map}
use Rattle.vocabulary.specs.Bytes.{Bytes}
use Rattle.vocabulary.specs.Lists.{All}
use Rattle.vocabulary.proofs.ListLaws.{All_append, map_append}
use Rattle.vocabulary.specs.Intervals.{listed, every}
use Rattle.vocabulary.proofs.IntervalLaws.{listed_turn}
use Rattle.layout.specs.Words.{word}
use Rattle.layout.specs.Limits.{most_steps}
use Rattle.depths.specs.Depths.{value_from, ranged_at, Within}
use Rattle.depths.proofs.DepthLaws.{value_four, ranged_valid}
use Rattle.round_rule.specs.Rules.{bad11}
use Rattle.round_rule.proofs.RuleLaws.{SmallOld, rule_light, rule_long}
use Rattle.round_update.specs.Update.{table_entry, table_entries, old_at, olds_at, Weighed, UpdateReady}

module _ (b : Bytes) (at : ℕ) (f : Bytes) (base : ℕ) where
  -- the first k entries and the one after them
  pub olds_turn : (k : ℕ) → olds_at f base (table_entries b at (k + 1)) ≡ olds_at f base (table_entries b at k) ++ (old_at f base (table_entry b at k) ∷ [])
  unfolding olds_at table_entries
  olds_turn k =
      ap (λ ns. map (old_at f base) ns) (listed_turn 0 (table_entry b at) k ∙ ap (λ j. table_entries b at k ++ (table_entry b at j ∷ [])) (zero-add k))
      ∙ map_append (old_at f base) (table_entries b at k) (table_entry b at k ∷ [])

  pub olds_start : olds_at f base (table_entries b at 0) ≡ []
  unfolding olds_at table_entries listed
  olds_start = refl

  pub olds_small : (m n : ℕ) → ((t : ℕ) → t < n → Within m (value_from f (base + 4 * word b (at + 4 * t)))) → All (SmallOld m) (olds_at f base (table_entries b at n))
  olds_small m zero h = rw olds_start tt
  olds_small m (suc n) h =
      rw (← add-one n, olds_turn)
      (All_append (SmallOld m) (olds_at f base (table_entries b at n)) (old_at f base (table_entry b at n) ∷ []) (olds_small m n (λ t k. h t (omega arith)))
      (rw value_four (h n (omega arith)), tt))

-- an accepted mean has a weight for each layer up to the steps
pub weighed_from : (v b : Bytes) (at n steps : ℕ) → bad11 1 steps v ≡ false → steps ≤ most_steps → ((t : ℕ) → t < n → word b (at + 4 * t + 2) ≤ steps) → Weighed v b at n
weighed_from v b at n steps r short low = record {
  low = λ t h. omega (arith, low t h);
  there = λ t h. omega (arith, rule_long steps v r, low t h);
  light = λ t h. rule_light steps v r (word b (at + 4 * t + 2)) (low t h);
}

-- what a caller has at hand makes the update ready: an accepted rule, a field of `cells` valid values, and a table of places in it and of layers up to the steps
pub ready_from : (kind : ℕ) (v b : Bytes) (at n : ℕ) (f : Bytes) (base own cells steps : ℕ) → bad11 kind steps v ≡ false → steps ≤ most_steps → n ≤ 65535 → at + 4 * n ≤ length b
    → base + 4 * cells ≤ length f → every 0 cells (ranged_at f base) ≡ true → own < cells → ((t : ℕ) → t < n → word b (at + 4 * t) < cells)
    → ((t : ℕ) → t < n → word b (at + 4 * t + 2) ≤ steps) → UpdateReady kind v b at n f base own
ready_from kind v b at n f base own cells steps rule short few room there ranged mine near low = record {
  reached = record {
    few = few;
    listed_there = room;
    there = λ t h. omega (arith, near t h);
    ranged = λ t h. ranged_valid f base cells (word b (at + 4 * t)) ranged (near t h);
  };
  own_there = omega arith;
  own_ranged = ranged_valid f base cells own ranged mine;
  weighed = λ e. weighed_from v b at n steps (rw e at rule) short low;
}

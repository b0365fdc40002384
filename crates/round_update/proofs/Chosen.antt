-- What each kind of rule answers, by the match on the kind. Assumes nothing.
use mathlib.Core.Path.{◌≡◌, ap, ◌∙◌}
use mathlib.Core.List.{List}
use Prim.Native.Nat.{ℕ, ◌+◌, ◌*◌}
use native.Mathlib.Omega.{arith}
use mir.Syntax.{w8}
use mir.Val.{Fits}
use Rattle.vocabulary.specs.Bytes.{Bytes, byte_at}
use Rattle.vocabulary.specs.Lists.{All}
use Rattle.depths.specs.Depths.{deepest, four, value_from, value_bytes, Within}
use Rattle.depths.proofs.DepthLaws.{value_bytes_lem}
use Rattle.depths.specs.declared.Value.{Value}
use Rattle.round_rule.specs.Rules.{Old, without_gaps, read_by, mean_of, least_of, new_depth}
use Rattle.round_rule.specs.Kinds.{kind_number}
use Rattle.round_rule.specs.declared.Kind.{Kind}
use Rattle.round_rule.specs.declared.Kind.TheVariants.{Hold, Mean, Shoalest}
use Rattle.round_rule.proofs.RuleLaws.{SmallOld, mean_within, least_within}
use Rattle.round_update.specs.Update.{table_entries, olds_at, Weighed, UpdateReady}
use Rattle.round_update.proofs.UpdateLaws.{olds_small}

pub mean_weighed : (kind : Kind) (v b : Bytes) (at n : ℕ) (f : Bytes) (base own : ℕ) → UpdateReady (kind_number kind) v b at n f base own → kind ≡ Mean → Weighed v b at n
unfolding kind_number
mean_weighed kind v b at n f base own R e = R.weighed (ap kind_number e)

-- ---- the value x that a call gave: its bytes

module _ (kind : Kind) (v f : Bytes) (o : ℕ) (os : List Old) (x : Value) where
  pub holds : ((k : ℕ) → Fits w8 (byte_at f k)) → kind ≡ Hold → x ≡ value_from f o → value_bytes x ≡ new_depth (kind_number kind) v (four f o) os
  unfolding new_depth kind_number
  holds w e q = rw e (ap value_bytes q ∙ value_bytes_lem f o (λ k l. omega (arith, (w (o + k)).fits)))

  pub means : kind ≡ Mean → x ≡ mean_of v (read_by v 1 os) → value_bytes x ≡ new_depth (kind_number kind) v (four f o) os
  unfolding new_depth kind_number
  means e q = rw e (ap value_bytes q)

  pub shoals : kind ≡ Shoalest → x ≡ least_of (without_gaps os) → value_bytes x ≡ new_depth (kind_number kind) v (four f o) os
  unfolding new_depth kind_number read_by
  shoals e q = rw e (ap value_bytes q)

-- ---- and its size

module _ (kind : ℕ) (v b : Bytes) (at n : ℕ) (f : Bytes) (base own : ℕ) (R : UpdateReady kind v b at n f base own) (x : Value) where
  olds_within : All (SmallOld deepest) (olds_at f base (table_entries b at n))
  olds_within = olds_small b at f base deepest n R.reached.ranged

  pub held_within : x ≡ value_from f (base + 4 * own) → Within deepest x
  held_within q = rw q R.own_ranged

  pub means_within : x ≡ mean_of v (read_by v 1 (olds_at f base (table_entries b at n))) → Within deepest x
  means_within q = rw q (mean_within v deepest (olds_at f base (table_entries b at n)) olds_within)

  pub shoals_within : x ≡ least_of (without_gaps (olds_at f base (table_entries b at n))) → Within deepest x
  shoals_within q = rw q (least_within v deepest (olds_at f base (table_entries b at n)) olds_within)

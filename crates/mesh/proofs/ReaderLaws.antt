-- What the readers of the mesh bytes read. Assumes nothing.
use mathlib.Core.Path.{◌≡◌, refl, ap, ap₂, ◌∙◌}
use Prim.Native.Nat.{ℕ, zero, suc, ◌+◌, ◌*◌, ◌≤◌, ◌<◌}
use native.Mathlib.Nat.{zero-add}
use native.Mathlib.Omega.{arith}
use lib.ListN.{get_or}
use mir.Syntax.{w8}
use mir.Val.{Fits}
use Rattle.std.specs.Prelude.{sum_by}
use Rattle.std.specs.List.{range_with_len}
use Rattle.vocabulary.specs.Bytes.{Bytes}
use Rattle.vocabulary.specs.Intervals.{total}
use Rattle.vocabulary.proofs.IteratorLaws.{total_range}
use Rattle.layout.specs.Words.{word_at}
use Rattle.layout.proofs.WordLaws.{word_less}
use Rattle.mesh.specs.Mesh.{top, counted, below, elements, first_cell, cell_count}

-- the sum over a range as the code takes it
module _ (m : Bytes) where
  pub below_sum : (k : ℕ) → sum_by (counted m) (range_with_len 0 k) ≡ below m k
  unfolding below total
  below_sum k = total_range (counted m) 0 k ∙ go k
    where
      go : (k : ℕ) → total 0 k (counted m) ≡ below m k
      go zero = refl
      go (suc k) = ap₂ ◌+◌ (go k) (ap (counted m) (zero-add k))

  module _ (bytes : (i : ℕ) → Fits w8 (get_or m i 0)) where
    pub below_high : (k : ℕ) → below m k ≤ 65536 * k
    unfolding below word_at
    below_high zero = omega arith
    below_high (suc k) = omega (arith, below_high k, word_less m (2 * (k + 1)) (bytes (2 * (k + 1))).fits (bytes (2 * (k + 1) + 1)).fits)

    pub below_fits : (k : ℕ) → k < 65536 → sum_by (counted m) (range_with_len 0 k) < 18446744073709551616
    below_fits k h = omega (arith, below_sum k, below_high k)

-- a word of record i, which stands behind the N heads
pub reads_record : (m : Bytes) (a n i w : ℕ) → n ≡ elements m → w ≡ word_at m (a + n + 2 * i) → w ≡ word_at m (a + elements m + 2 * i)
reads_record m a n i w e f = f ∙ ap (λ x. word_at m (a + x + 2 * i)) e

-- at the dimension of the cells
pub counts_cells : (m : Bytes) (d c : ℕ) → d ≡ top m → c ≡ counted m d → c ≡ cell_count m
counts_cells m d c e f = f ∙ ap (counted m) e

pub reads_first : (m : Bytes) (d c : ℕ) → d ≡ top m → c ≡ below m d → c + 1 ≡ first_cell m
reads_first m d c e f = ap (λ x. x + 1) (f ∙ ap (below m) e)

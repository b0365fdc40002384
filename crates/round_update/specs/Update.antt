-- The new value of one cell, as the call that makes it finds its reach: a table of entries, and the bytes of a field. And what that call
-- supposes. No public contract rests on this page. Assumes nothing.
use Rattle.std.specs.Prelude.{◌≡◌, List, map, ℕ, ◌+◌, ◌*◌, ◌/◌, ◌<◌, ◌≤◌, length}
use Rattle.vocabulary.specs.Bytes.{Bytes}
use Rattle.vocabulary.specs.Intervals.{listed}
use Rattle.layout.specs.Words.{word, word_at}
use Rattle.layout.specs.Limits.{most_steps, most_weight}
use Rattle.depths.specs.Depths.{Valid, four}
use Rattle.mesh.specs.Walks.{Near}
use Rattle.round_rule.specs.Rules.{Old}

-- the t-th entry of a table at the place `at`: four bytes, the place of a cell in the field and its layer
abbrev pub table_entry : Bytes → ℕ → ℕ → Near
table_entry b at t = record { cell = word b (at + 4 * t); layer = word b (at + 4 * t + 2) }

-- the first n entries
unfoldable pub table_entries : Bytes → ℕ → ℕ → List Near
table_entries b at n = listed 0 n (table_entry b at)

-- the old value of an entry, in the field that stands at the place `base` of f
abbrev pub old_at : Bytes → ℕ → Near → Old
old_at f base e = record { layer = e.layer; depth = four f (base + 4 * e.cell) }

unfoldable pub olds_at : Bytes → ℕ → List Near → List Old
olds_at f base ns = map (old_at f base) ns

-- n entries of `width` bytes stand at the place `at` of b, each of them begins with the place of a value in the field, and these values are there and valid
pub record PlacesThere (width : ℕ) (b : Bytes) (at n : ℕ) (f : Bytes) (base : ℕ) : Type 0 where
  pub few : n ≤ 65535
  pub listed_there : at + width * n ≤ length b
  pub there : (t : ℕ) → t < n → base + 4 * word b (at + width * t) + 3 < length f
  pub ranged : (t : ℕ) → t < n → Valid f (base + 4 * word b (at + width * t))

-- each layer is one, and its weight is there and is a weight
pub record Weighed (v b : Bytes) (at n : ℕ) : Type 0 where
  pub low : (t : ℕ) → t < n → word b (at + 4 * t + 2) ≤ most_steps
  pub there : (t : ℕ) → t < n → 2 * (word b (at + 4 * t + 2) / 2) + 1 < length v
  pub light : (t : ℕ) → t < n → word_at v (word b (at + 4 * t + 2) / 2) ≤ most_weight

-- what the update requires: only a mean asks for weights
pub record UpdateReady (kind : ℕ) (v b : Bytes) (at n : ℕ) (f : Bytes) (base own : ℕ) : Type 0 where
  pub reached : PlacesThere 4 b at n f base
  pub own_there : base + 4 * own + 3 < length f
  pub own_ranged : Valid f (base + 4 * own)
  pub weighed : kind ≡ 1 → Weighed v b at n

-- ---- a plain mean: n words at the place `at` of b are the places of values in the field that stands at the place `base` of f

-- the t-th of these values
unfoldable pub placed_at : Bytes → ℕ → Bytes → ℕ → ℕ → Bytes
placed_at b at f base t = four f (base + 4 * word b (at + 2 * t))

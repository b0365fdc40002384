-- The lists of a part of an accepted mesh, map and stencil keep to their bounds. Assumes nothing.
use mathlib.Core.Path.{◌≡◌}
use mathlib.Core.Bool.{false}
use mathlib.Core.List.{List}
use Prim.Native.Nat.{ℕ, ◌+◌, ◌-◌, ◌≤◌}
use native.Mathlib.Omega.{arith}
use lib.ListN.{length, get_or, take}
use Rattle.vocabulary.specs.Bytes.{Bytes}
use Rattle.layout.specs.Limits.{element_places, most_elements, most_parts}
use Rattle.mesh.specs.Mesh.{first_cell, cell_count}
use Rattle.mesh.specs.Walks.{bad13}
use Rattle.round.specs.Rounds.{bad14}
use Rattle.round.proofs.RoundLaws.{field_length}
use Rattle.split.specs.Split.{split_of, locals}
use Rattle.split.specs.Lists.{bad12}
use Rattle.split_classes.specs.Classes.{Prepared}
use Rattle.part_start_plan.specs.Start.{owned_in}
use Rattle.part_start_lists.specs.Starting.{Fit, FieldCells}
use Rattle.part_start_plan.proofs.StartWords.{got_all, front_few, order_few, own_few, order_low, cell_at, entry_high}

module _ (m : Bytes) (parts : ℕ) (owners st table : Bytes) (ends : List ℕ) (holders : Bytes) (R : Prepared m parts owners st table ends holders)
    (i : ℕ) (low : 1 ≤ i) (high : i ≤ most_parts) (first cells : ℕ) (fe : first ≡ first_cell m) (ce : cells ≡ cell_count m)
    (order : List ℕ) (n own : ℕ) (oe : take n order ≡ locals (split_of m parts owners st) i) (ne : n ≡ length (locals (split_of m parts owners st) i))
    (we : own ≡ owned_in (split_of m parts owners st) i) where
  cells_in : first + cells ≤ element_places
  cells_in = omega (arith, R.mesh.cells_in, R.mesh.sizes.n_high)

  low_at : (l : ℕ) → 1 ≤ l → l ≤ n → first ≤ get_or order (l - 1) 0
  low_at l h k = order_low m parts owners st table ends holders R i low high first cells fe ce order n own oe ne we (l - 1) (omega arith)

  own_le : own ≤ n
  own_le = own_few m parts owners st table ends holders R i low high first cells fe ce order n own oe ne we

  n_few : n ≤ most_elements
  n_few = order_few m parts owners st table ends holders R i low high first cells fe ce order n own oe ne we

  pub fit_from : n ≤ length order → bad12 (split_of m parts owners st) ≡ false → bad13 m st ≡ false → Fit owners table ends i first cells order n own
  fit_from there twelve thirteen = record {
    part = omega arith;
    part_few = high;
    first_small = omega (arith, cells_in);
    cells_fit = omega (arith, cells_in);
    cells_few = omega (arith, cells_in, fe);
    order_few = n_few;
    order_there = there;
    owned_few = own_le;
    got = omega (arith, got_all m parts owners st table ends holders R i low high first cells fe ce order n own oe ne we, n_few);
    near = record {
      each = λ l h k. record {
        cell = low_at l h (omega (arith, own_le));
        near = λ t p q. omega (arith, entry_high m parts owners st table ends holders R i low high first cells fe ce order n own oe ne we l h k t p q);
      };
    };
    long = omega (arith, front_few m parts owners st table ends holders R i low high first cells fe ce order n own oe ne we twelve thirteen);
  }

  -- the held cells are cells of an accepted field
  pub cells_from : (f : Bytes) → bad14 cells f ≡ false → FieldCells f first order n
  cells_from f fourteen = record {
    each = λ l h k. (
      low_at l h k,
      omega (arith, low_at l h k, (cell_at m parts owners st table ends holders R i low high first cells fe ce order n own oe ne we (l - 1) (omega arith)).1, field_length cells f fourteen),
    );
  }

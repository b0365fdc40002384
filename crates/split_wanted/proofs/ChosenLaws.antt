-- The lists that the code chooses are those of the definitions. Assumes nothing.
use mathlib.Core.Path.{◌≡◌, refl, subst}
use native.Mathlib.Omega.{arith}
use mathlib.Core.List.{List}
use Prim.Native.Nat.{ℕ, ◌≤◌}
use lib.ListN.{length}
use Rattle.vocabulary.specs.Bytes.{Bytes}
use Rattle.layout.specs.Limits.{most_elements, most_parts}
use Rattle.mesh.specs.Mesh.{first_cell, cell_count}
use Rattle.split.specs.Split.{Split, split_of, imports, exports, interior, halo, holds_lower, touches, another, is_copied, is_shared, is_exposed, is_private}
use Rattle.split.specs.Lists.{list_of}
use Rattle.split_classes.specs.Classes.{Classed, Prepared}
use Rattle.split_wanted.specs.Giving.{other_of, row_of, cell_words, chosen}
use Rattle.split.specs.declared.Wanted.{Wanted}
use Rattle.split.specs.declared.Wanted.TheVariants.{Interior, Halo, Locals, Imports, Exports, Private, Exposed, Shared, Copied}
use Rattle.split_cells.proofs.ClassLists.{interior_is, halo_is, imports_are, order_is, picked_few, locals_few}
use Rattle.split_ranges.proofs.LowerLaws.{RangeClasses, range_classes, range_is, range_few}

module _ (m : Bytes) (parts : ℕ) (owners st table : Bytes) (ends : List ℕ) (holders : Bytes) (R : Prepared m parts owners st table ends holders) where
  abbrev S : Split
  S = split_of m parts owners st

  -- ---- all lists

  classes_told : (i e : ℕ) → RangeClasses (touches S e i) (another S i (touches S e)) (another S i (λ j. holds_lower S j e)) (holds_lower S i e)
  classes_told i e = range_classes (touches S e i) (another S i (touches S e)) (another S i (λ j. holds_lower S j e)) (holds_lower S i e)

  counted : (cells : ℕ) → cells ≡ cell_count m → (i : ℕ) (class : Bytes) → Classed owners table ends i cells class → Classed owners table ends i (cell_count m) class
  counted cells ce i class C = subst (λ n. Classed owners table ends i n class) ce C

  pub chosen_is : (w : Wanted) (i : ℕ) → 1 ≤ i → i ≤ parts → 1 ≤ other_of w i → other_of w i ≤ parts → parts ≤ most_parts → (cells : ℕ) → cells ≡ cell_count m → (class : Bytes)
      → Classed owners table ends (row_of w i) cells class → chosen w m parts class holders i ≡ list_of m S i w
  unfolding chosen cell_words list_of exports is_private is_exposed is_shared is_copied
  chosen_is Interior i il ih jl jh few cells ce class C = interior_is m parts owners st table ends holders R i (first_cell m) (cell_count m) refl refl class (counted cells ce i class C)
  chosen_is Halo i il ih jl jh few cells ce class C = halo_is m parts owners st table ends holders R i (first_cell m) (cell_count m) refl refl class (counted cells ce i class C)
  chosen_is Locals i il ih jl jh few cells ce class C = order_is m parts owners st table ends holders R i (first_cell m) (cell_count m) refl refl class (counted cells ce i class C)
  chosen_is (Imports j) i il ih jl jh few cells ce class C =
      imports_are m parts owners st table ends holders R i (first_cell m) (cell_count m) refl refl class (counted cells ce i class C) j jl (omega arith)
  chosen_is (Exports j) i il ih jl jh few cells ce class C =
      imports_are m parts owners st table ends holders R j (first_cell m) (cell_count m) refl refl class (counted cells ce j class C) i il (omega arith)
  chosen_is (Private k) i il ih jl jh few cells ce class C = range_is m parts owners st table ends holders R i il ih cells ce class C k 1 _ (λ e. (classes_told i e).0)
  chosen_is (Exposed k) i il ih jl jh few cells ce class C = range_is m parts owners st table ends holders R i il ih cells ce class C k 2 _ (λ e. (classes_told i e).1)
  chosen_is (Shared k) i il ih jl jh few cells ce class C = range_is m parts owners st table ends holders R i il ih cells ce class C k 3 _ (λ e. (classes_told i e).2)
  chosen_is (Copied k) i il ih jl jh few cells ce class C = range_is m parts owners st table ends holders R i il ih cells ce class C k 4 _ (λ e. (classes_told i e).3)

  -- ---- how long they are

  pub list_few : (w : Wanted) (i : ℕ) → length (list_of m S i w) ≤ most_elements
  unfolding list_of interior halo imports exports
  list_few Interior i = picked_few m parts owners st table ends holders R _
  list_few Halo i = picked_few m parts owners st table ends holders R _
  list_few Locals i = locals_few m parts owners st table ends holders R i
  list_few (Imports j) i = picked_few m parts owners st table ends holders R _
  list_few (Exports j) i = picked_few m parts owners st table ends holders R _
  list_few (Private k) i = range_few m parts owners st table ends holders R k _
  list_few (Exposed k) i = range_few m parts owners st table ends holders R k _
  list_few (Shared k) i = range_few m parts owners st table ends holders R k _
  list_few (Copied k) i = range_few m parts owners st table ends holders R k _

-- `list::main` lends a buffer with room for any text. Assumes nothing.
use mathlib.Core.Path.{sym}
use Prim.Native.Nat.{ℕ}
use native.Mathlib.Nat.{le_of_eq}
use lib.ListN.{length-replicate}
use Rattle.list.proofs.main.Goals as goal

pub slice_bounds-print_list-end-2 : goal.slice_bounds-print_list-end-2
slice_bounds-print_list-end-2 c = sym (length-replicate {A = ℕ} 700000 0)

pub print_list-requires : goal.print_list-requires
print_list-requires c = le_of_eq (sym (length-replicate {A = ℕ} 700000 0))

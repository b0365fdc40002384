-- `list_input::accepted::list_accepted` meets its contract. The invariant: the tables are prepared, and the parts before i are put. Assumes nothing.
use Prim.Native.Nat.{◌+◌, ◌-◌, ◌≤◌}
use Rattle.vocabulary.specs.Intervals.{blocks}
use Rattle.list_text.specs.Printing.{Put}
use Rattle.list_ranges.specs.Lines.{part_of}
use Rattle.list_input.proofs.accepted.list_accepted.Given as goal

abbrev pub invariant-loop-i : goal.invariant-loop-i
invariant-loop-i l = (l.i ≤ l.count + 1) × Put l.initial.text l.text (blocks 1 (l.i - 1) (part_of l.m l.count l.owners l.stencil))

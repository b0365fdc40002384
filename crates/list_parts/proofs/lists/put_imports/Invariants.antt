-- `list_parts::lists::put_imports` meets its contract. The invariant: the lines before part j are put. Assumes nothing.
use Prim.Native.Nat.{◌+◌, ◌-◌, ◌≤◌}
use Rattle.vocabulary.specs.Intervals.{blocks}
use Rattle.list_text.specs.Printing.{Put}
use Rattle.list_ranges.specs.Lines.{import_line}
use Rattle.list_parts.proofs.lists.put_imports.Given as goal

abbrev pub invariant-loop-j : goal.invariant-loop-j
invariant-loop-j l = (l.j ≤ l.parts + 1) × Put l.initial.text l.text (blocks 1 (l.j - 1) (import_line l.row))

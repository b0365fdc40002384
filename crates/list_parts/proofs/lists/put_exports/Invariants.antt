-- `list_parts::lists::put_exports` meets its contract. The invariant: the lines before part `other` are put. Assumes nothing.
use Prim.Native.Nat.{◌+◌, ◌-◌, ◌≤◌}
use Rattle.vocabulary.specs.Intervals.{blocks}
use Rattle.list_text.specs.Printing.{Put}
use Rattle.list_ranges.specs.Lines.{export_line}
use Rattle.list_parts.proofs.lists.put_exports.Given as goal

abbrev pub invariant-loop-other : goal.invariant-loop-other
invariant-loop-other l =
    (l.other ≤ l.parts + 1)
    × Put l.initial.text l.text (blocks 1 (l.other - 1) (export_line l.owners l.table l.ends l.first l.cells l.i))

-- `list_ranges::inner::put_dimensions` meets its contract. The invariant: the dimensions before this one are put. Assumes nothing.
use Rattle.vocabulary.specs.Intervals.{blocks}
use Rattle.list_text.specs.Printing.{Put}
use Rattle.list_ranges.specs.Lines.{dimension_lines}
use Rattle.list_ranges.proofs.inner.put_dimensions.Given as goal

abbrev pub invariant-loop-dimension : goal.invariant-loop-dimension
invariant-loop-dimension l = Put l.initial.text l.text (blocks 0 l.dimension (dimension_lines l.m l.class l.holders))

-- `list_ranges::inner::put_class` meets its contract. The invariant: the numbers so far are put. Assumes nothing.
use Rattle.list_text.specs.Printing.{Put}
use Rattle.list_ranges.proofs.PartLaws.{class_spaced}
use Rattle.list_ranges.proofs.inner.put_class.Given as goal

abbrev pub invariant-loop-q : goal.invariant-loop-q
invariant-loop-q l = Put l.initial.text l.text (class_spaced l.row.class.now l.row.first l.q l.k)

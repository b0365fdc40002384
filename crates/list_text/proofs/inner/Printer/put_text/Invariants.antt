-- `list_text::inner::Printer::put_text` meets its contract. The invariant: the bytes so far are put. Assumes nothing.
use lib.ListN.{take}
use Rattle.list_text.specs.Printing.{Put}
use Rattle.list_text.proofs.inner.Printer.put_text.Given as goal

abbrev pub invariant-loop-c : goal.invariant-loop-c
invariant-loop-c l = Put l.initial.self l.self (take l.c-index l.text)

-- `list_text::inner::Printer::put_byte` meets its contract. Assumes nothing.
use mathlib.Core.Path.{refl}
use Rattle.list_text.proofs.PrintLaws.{print_full, print_byte}
use Rattle.list_text.proofs.inner.Printer.put_byte.Goals as goal

pub returns-then-self : goal.returns-then-self
returns-then-self c = record { same = refl; printed = search print_byte }

pub returns-else-self : goal.returns-else-self
returns-else-self c = record { same = refl; printed = search print_full }

-- `list_text::inner::Printer::put_decimal` meets its contract: by the number, which falls. Assumes nothing.
use Rattle.list_text.proofs.inner.Printer.+put_decimal.Given as goal

abbrev pub decreases-put_decimal : goal.decreases-put_decimal
decreases-put_decimal l = l.v

-- `list_text::inner::Printer::put_decimal` meets its contract: by the number, which falls. Assumes nothing.
use Rattle.list_text.proofs.PrintLaws.{decimal_one, decimal_more}
use Rattle.list_text.proofs.inner.Printer.+put_decimal.Goals as goal

pub returns-then-v-lt10 : goal.returns-then-v-lt10
returns-then-v-lt10 t c = search decimal_one

pub returns : goal.returns
returns t c = search decimal_more

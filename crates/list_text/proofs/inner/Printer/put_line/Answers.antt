-- `list_text::inner::Printer::put_line` meets its contract. Assumes nothing.
use Rattle.list_text.proofs.PrintLaws.{line_one}
use Rattle.list_text.proofs.inner.Printer.put_line.Goals as goal

pub returns : goal.returns
returns c = search line_one

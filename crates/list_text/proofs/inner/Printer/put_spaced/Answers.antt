-- `list_text::inner::Printer::put_spaced` meets its contract. Assumes nothing.
use Rattle.list_text.proofs.PrintLaws.{spaced_told}
use Rattle.list_text.proofs.inner.Printer.put_spaced.Goals as goal

pub returns : goal.returns
returns c = search spaced_told

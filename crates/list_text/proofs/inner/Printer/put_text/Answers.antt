-- `list_text::inner::Printer::put_text` meets its contract. The invariant: the bytes so far are put. Assumes nothing.
use Rattle.list_text.proofs.PrintLaws.{put_none, text_turn}
use Rattle.list_text.proofs.inner.Printer.put_text.Goals as goal

pub loop-c-init : goal.loop-c-init
loop-c-init c = search put_none

pub loop-c-preserved : goal.loop-c-preserved
loop-c-preserved c = search text_turn

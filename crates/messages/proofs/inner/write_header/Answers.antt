-- `messages::inner::write_header` meets its contract. Assumes nothing.
use Rattle.messages.proofs.Laws.{header_stores}
use Rattle.messages.proofs.inner.write_header.Goals as goal

pub returns : goal.returns
returns c = search header_stores

-- `list_input::pieces::list_text` meets its contract. Assumes nothing.
use borrow.Author.Rules.{rules}
use Rattle.list_input.proofs.RoomLaws.{listed}
use Rattle.list_input.proofs.pieces.list_text.Goals as goal

pub returns : goal.returns
returns c = listed _ _ _ _ (search rules)

-- `list_input::pieces::list_pieces` meets its contract. Assumes nothing.
use mathlib.Core.Path.{refl, sym}
use Rattle.layout.proofs.AnswerLaws.{exit_some}
use Rattle.list_input.proofs.PieceLaws.{refused_split}
use Rattle.list_input.proofs.pieces.list_pieces.Goals as goal

pub list_accepted-requires : goal.list_accepted-requires
list_accepted-requires c = sym c.in-Ok.ensures

pub returns-in-Err : goal.returns-in-Err
returns-in-Err c = refused_split _ _ _ _ _ _ _ c.in-Err.ensures (exit_some _ _ refl) c.put_refusal.ensures

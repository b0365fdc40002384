-- `list_input::pieces::list_input` meets its contract. Assumes nothing.
use borrow.Author.Rules.{rules}
use Rattle.list_input.proofs.PieceLaws.{too_long, text_told}
use Rattle.list_input.proofs.pieces.list_input.Goals as goal

pub returns-then-input-gt65536 : goal.returns-then-input-gt65536
returns-then-input-gt65536 c = search too_long

pub returns : goal.returns
returns c =
    text_told _ _ _ _ _ _ _ _ _ _ _ _ c.if-input-gt65536.false c.mesh_length.ensures c.cell_count.ensures.0 c.cut.ensures.0 c.cut.ensures.1 (search rules)
    c.cut-2.ensures.1 c.cut-3.ensures.0 c.cut-3.ensures.1 c.stencil_of.ensures c.list_pieces.ensures

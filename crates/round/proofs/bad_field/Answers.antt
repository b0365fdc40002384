-- `round::bad_field` meets its contract. Assumes nothing.
use Rattle.round.proofs.FieldLaws.{ragged_field, other_length, ranged_field}
use Rattle.round.proofs.bad_field.Goals as goal

pub returns-then-f-ne0 : goal.returns-then-f-ne0
returns-then-f-ne0 c = search ragged_field

pub returns-then-f-cells : goal.returns-then-f-cells
returns-then-f-cells c = search other_length

pub returns : goal.returns
returns c = search ranged_field

-- `part_take::take` meets its contract. Assumes nothing.
use mathlib.Core.Path.{refl, ◌∙◌}
use native.Mathlib.Omega.{arith}
use Rattle.layout.proofs.AnswerLaws.{exit_answer, exit_some}
use Rattle.part_take.proofs.TakeLaws.{told_reading, told_20, told_refused, message_good, message_header, from_few, store_fits, told_done}
use Rattle.part_take.proofs.take.Goals as goal

pub returns-in_default : goal.returns-in_default
returns-in_default c = told_reading _ _ _ c.read-reading.ensures c.in_default.is _ c.and.ensures

pub returns-in_err-s : goal.returns-in_err-s
returns-in_err-s c = told_20 _ _ _ c.read-reading.ensures c.in-Ok.is _ _ c.from_residual.ensures.1 c.in_err-s.ensures.refused

pub returns-in_err-test_header : goal.returns-in_err-test_header
returns-in_err-test_header c =
    let good = message_good _ _ c.read-reading.ensures c.in-Ok.is in
    let told = told_refused _ _ _ c.in_ok-s.s.opened c.in_ok-s.ensures.opened good _ (message_header _ _ _ c.read-reading.ensures c.in-Ok.is) _ c.in_err-test_header.ensures (exit_some _ _ refl) in
    (exit_answer _ _ _ c.from_residual-in_err-test_header.ensures.1 refl ∙ told.0, told.1)

pub overflow_add-header : goal.overflow_add-header
overflow_add-header c =
    let good = message_good _ _ c.read-reading.ensures c.in-Ok.is in
    omega (arith, from_few _ _ _ c.in_ok-s.s.opened c.in_ok-s.ensures.opened good _ (message_header _ _ _ c.read-reading.ensures c.in-Ok.is) _ c.in_ok-test_header.ensures refl)

pub store-requires : goal.store-requires
store-requires c =
    let good = message_good _ _ c.read-reading.ensures c.in-Ok.is in
    store_fits _ _ _ c.in_ok-s.s.opened c.in_ok-s.ensures.opened good _ (message_header _ _ _ c.read-reading.ensures c.in-Ok.is) _ c.in_ok-test_header.ensures refl _ c.word_at-before.ensures.0

pub returns : goal.returns
returns c =
    let good = message_good _ _ c.read-reading.ensures c.in-Ok.is in
    let header = message_header _ _ _ c.read-reading.ensures c.in-Ok.is in
    told_done _ _ _ c.in_ok-s.s.opened c.in_ok-s.ensures.opened good _ header _ c.in_ok-test_header.ensures refl _ c.word_at-before.ensures.0 _ c.store.ensures

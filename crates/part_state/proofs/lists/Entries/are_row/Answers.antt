-- `part_state::lists::Entries::are_row` meets its contract. The invariant: the entries so far are valid, and none is the cell's own. Assumes nothing.
use mathlib.Core.Path.{refl, ap}
use mathlib.Core.Bool.{not}
use Rattle.vocabulary.proofs.ScanLaws.{every_start_from, every_turn_from, some_start_from, some_turn_from}
use Rattle.vocabulary.proofs.IteratorLaws.{every_ran}
use Rattle.part_state.proofs.ListChecks.{row_wrong, row_found, row_end}
use borrow.Author.Rules.{rules}
use borrow.Author.Tests.{tests}
use Rattle.part_state.proofs.lists.Entries.are_row.Goals as goal

pub loop-t-init : goal.loop-t-init
loop-t-init c = (search rules, search rules, search every_start_from, search some_start_from)

pub returns-then-not-is_valid : goal.returns-then-not-is_valid
returns-then-not-is_valid c = search row_wrong

pub returns-then-is_own : goal.returns-then-is_own
returns-then-is_own c =
    let inv = c.loop-t.invariant in
    row_found _ _ _ _ _ _ _ _ inv.2 c.is_valid.ensures (ap not c.if-not-is_valid.false) c.is_own.ensures c.if-is_own.true
    (every_ran c.all.ensures.ran refl (λ x t q k. search (rules, tests))) inv.0 c.loop-t-test.true

pub loop-t-preserved : goal.loop-t-preserved
loop-t-preserved c =
    let inv = c.loop-t.invariant in
    (search rules, search rules, search every_turn_from, some_turn_from _ _ _ _ inv.0 inv.3 c.is_own.ensures c.if-is_own.false)

pub returns : goal.returns
returns c = search row_end

-- `list_parts::lists::put_imports` meets its contract. The invariant: the lines before part j are put. Assumes nothing.
use native.Mathlib.Omega.{arith}
use Rattle.list_ranges.specs.Lines.{import_line}
use Rattle.list_ranges.proofs.PartLaws.{texts_start, lines_turn, lines_end, lines_last}
use Rattle.list_parts.proofs.lists.put_imports.Goals as goal

pub loop-j-init : goal.loop-j-init
loop-j-init c = (omega arith, search texts_start)

pub loop-j-preserved : goal.loop-j-preserved
unfolding import_line
loop-j-preserved c = (omega (arith, c.loop-j-test.true), lines_turn _ _ _ _ c.loop-j.invariant.1 _ c.loop-j.auto.j c.put_passing.ensures)

pub returns : goal.returns
returns c = lines_end _ _ _ _ c.loop-j.invariant.1 _ c.loop-j-test.false c.loop-j.invariant.0

pub returns-2 : goal.returns-2
unfolding import_line
returns-2 c = lines_last _ _ _ _ c.loop-j.invariant.1 _ _ c.loop-j.auto.j (omega (arith, c.loop-j-test.true)) c.put_passing.ensures

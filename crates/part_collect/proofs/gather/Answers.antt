-- `part_collect::gather` meets its contract. The invariant: the depths of the cells before l are put. Assumes nothing.
use native.Mathlib.Omega.{arith}
use mathlib.Core.Path.{refl}
use Rattle.part_collect.proofs.CollectLaws.{gather_start, cell_low, cell_room, cell_held, gather_turn, gather_end}
use borrow.Author.Rules.{rules}
use Rattle.part_collect.proofs.gather.Goals as goal

pub loop-l-init : goal.loop-l-init
loop-l-init c = (refl, search rules, search rules, search rules, search gather_start)

pub index_of-requires : goal.index_of-requires
index_of-requires c = search (rules, cell_low _ _ _ c.args.s.opened)

pub copy_depth-requires : goal.copy_depth-requires
copy_depth-requires c = (search (rules, cell_held _ _ _ c.args.s.opened), search (rules, cell_room _ _ _ c.args.s.opened))

pub loop-l-preserved : goal.loop-l-preserved
loop-l-preserved c = (search rules, search rules, search rules, search rules, search (rules, gather_turn _ _ _ c.args.s.opened))

pub returns : goal.returns
returns c = search (rules, gather_end)

-- `walk_incidence::inner::invert` meets its contract. The invariant: the chains of the cells before e are linked. Assumes nothing.
use mathlib.Core.Path.{refl}
use Rattle.walk_incidence.proofs.LinkLaws.{cells_start, count_start, cells_turn, count_turn, cells_room, cells_end}
use borrow.Author.Rules.{rules}
use Rattle.walk_incidence.proofs.inner.invert.Goals as goal

pub loop-e-init : goal.loop-e-init
loop-e-init c = (search rules, search rules, refl, refl, refl, refl, search count_start, search cells_start)

pub link_chain-s-requires : goal.link_chain-s-requires
link_chain-s-requires c = (search rules, search rules, search rules, search rules, search cells_room)

pub loop-e-preserved : goal.loop-e-preserved
loop-e-preserved c = (
  search rules,
  search rules,
  search rules,
  search rules,
  search rules,
  search rules,
  count_turn _ _
      c.requires.2 _ _ _
      c.head_of-h.ensures.0
      c.loop-e.invariant.0 _ _ _ _ _ _ _ _ _
      c.loop-e.invariant.6
      c.link_chain-s.ensures,
  cells_turn _ _
      c.requires.2 _ _ _
      c.head_of-h.ensures.0
      c.loop-e.invariant.0 _ _ _
      c.loop-e.invariant.7 c.link_chain-s.ensures,
)

pub returns : goal.returns
returns c = search cells_end

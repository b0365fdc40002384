-- `mesh_chains::inner::write_marked` meets its contract. The invariant: the chains so far are written down, with nothing amiss. Assumes nothing.
use mathlib.Core.Path.{refl}
use mathlib.Core.Bool.{true}
use Rattle.vocabulary.proofs.ListLaws.{not_both}
use Rattle.mesh_chains.proofs.NoteLaws.{noting_start, noting_room, noting_found, noting_fits, noting_turn, noting_end, noting_wrote}
use borrow.Author.Rules.{rules}
use Rattle.mesh_chains.proofs.inner.write_marked.Goals as goal

pub loop-e-init : goal.loop-e-init
loop-e-init c = (search rules, search rules, refl, refl, refl, refl, search noting_start)

pub write_chain-requires : goal.write_chain-requires
write_chain-requires c = search (noting_room, rules)

pub returns-in_default : goal.returns-in_default
returns-in_default c = (
  noting_found _ _ _ _ c.args.mesh.sized _ c.requires.1 _ c.loop-e.invariant.0 _ _ _ _ c.loop-e.invariant.6 _ c.head_of-h.ensures.0
      _ _ _ _ c.in_default.ensures.1 refl (search rules),
  λ q. absurd (not_both true refl q),
)

pub overflow_cast-ends : goal.overflow_cast-ends
overflow_cast-ends c =
    let few = noting_fits _ _ _ _ c.args.mesh.sized _ c.requires.1 _ c.loop-e.invariant.0 _ _ _ _ c.loop-e.invariant.6 _ c.head_of-h.ensures.0
    _ _ _ _ c.in-Some.ensures refl in
    search rules

pub loop-e-preserved : goal.loop-e-preserved
loop-e-preserved c = (
  search rules,
  search rules,
  search rules,
  search rules,
  search rules,
  search rules,
  noting_turn _ _ _ _ c.args.mesh.sized _ c.requires.1 _ c.loop-e.invariant.0 _ _ _ _ c.loop-e.invariant.6 _ c.head_of-h.ensures.0
      _ _ _ _ c.in-Some.ensures refl (search rules),
)

pub returns : goal.returns
returns c = (search noting_end, λ q. search noting_wrote)

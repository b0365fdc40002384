-- `part_advance::next_round` meets its contract. Assumes nothing.
use Rattle.part_advance.proofs.AdvanceLaws.{counts_here, next_put, round_small, owned_room}
use native.Mathlib.Omega.{arith}
use borrow.Author.Rules.{rules}
use Rattle.part_advance.proofs.next_round.Goals as goal

pub renew_by-requires : goal.renew_by-requires
renew_by-requires g c = (counts_here _ _ _ _ c.requires.0 c.known-s.ensures.0 c.known-s.ensures.1 _ c.requires.1, search rules)

pub put_round-requires : goal.put_round-requires
put_round-requires g c =
    let pre = c.requires in (
      pre.0.place_small,
      round_small _ _ _ _ pre.0 c.known-s.ensures.0 c.known-s.ensures.1 _ c.round-round.ensures.0,
      pre.1.small.owned_small,
      owned_room _ _ _ _ pre.0 c.known-s.ensures.0 c.known-s.ensures.1 _ c.round-round.ensures.0 _ pre.1,
      omega (arith, pre.2),
    )

pub returns : goal.returns
returns g c =
    next_put _ _ _ _ c.requires.0 c.known-s.ensures.0 c.known-s.ensures.1 _ c.round-round.ensures.0 _ c.requires.1.owned_is _ _ _ c.renew_by.ensures c.put_round.ensures

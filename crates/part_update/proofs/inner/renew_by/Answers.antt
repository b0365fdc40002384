-- `part_update::inner::renew_by` meets its contract. Assumes nothing.
use native.Mathlib.Omega.{arith}
use Rattle.part_calls.proofs.OpenedLaws.{whole}
use Rattle.part_update.proofs.RenewLaws.{lists_length, kind_is, kind_known, weights_cut}
use Rattle.part_update.proofs.inner.renew_by.Goals as goal

pub weight_count-requires : goal.weight_count-requires
weight_count-requires c = omega (arith, (whole _ _ _ c.args.s.opened).steps_few, c.word_at-in-Ok.ensures.0)

pub slice_bounds-renew-end : goal.slice_bounds-renew-end
slice_bounds-renew-end c =
    omega (
      arith,
      lists_length _ _ _ c.args.s.opened,
      (whole _ _ _ c.args.s.opened).lists_fit,
      c.weight_count.ensures.1,
    )

pub renew-requires : goal.renew-requires
renew-requires c =
    let pre = c.requires in
    let kind = kind_is _ _ _ _ c.word_at.ensures.0 c.try_from.ensures c.in-Ok.is in (
      kind,
      weights_cut _ _ _ _ kind c.word_at-in-Ok.ensures.0 c.weight_count.ensures.0,
      pre.0,
      pre.1,
    )

pub returns-in-Err : goal.returns-in-Err
returns-in-Err c =
    absurd (kind_known _ _ _ c.args.s.opened _ _ c.word_at.ensures.0 c.try_from.ensures c.in-Err.is)

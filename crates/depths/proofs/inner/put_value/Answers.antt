-- `depths::inner::put_value` meets its contract. Assumes nothing.
use mathlib.Core.Path.{◌≡◌}
use borrow.Author.Rules.{rules}
use Rattle.depths.specs.Depths.{value_bytes}
use Rattle.depths.proofs.SignedLaws.{depth_stored, gap_stored, value_put}
use Rattle.depths.proofs.inner.put_value.Goals as goal
use Rattle.depths.proofs.inner.put_value.Goals.{in-Depth, in-Gap}

pub returns : goal.returns
returns c =
    let stored : c.to_be_bytes.result ≡ value_bytes c.args.x = elim c.match-x.branch [
      | in-Depth w ↦ depth_stored _ _ _ c.to_be_bytes.ensures _ w.z-is w.in-Depth.is (search rules)
      | in-Gap w ↦ gap_stored _ _ _ c.to_be_bytes.ensures w.z-is w.in-Gap.is
    ] in
    value_put _ _ _ _ _ _ c.copy_from_slice.ensures.after stored (search rules)

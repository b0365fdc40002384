-- `depths::inner::values_valid` meets its contract. The invariant: `valid` says whether the first k values are. Assumes nothing.
use mathlib.Core.Path.{◌≡◌, sym, ◌∙◌}
use Rattle.vocabulary.proofs.IntervalLaws.{every_none}
use Rattle.depths.specs.Depths.{ranged_at}
use Rattle.depths.proofs.SignedLaws.{depth_told, gap_told, fine_turn, wrong_turn, valid_end}
use borrow.Author.Rules.{rules}
use Rattle.depths.proofs.inner.values_valid.Goals as goal
use Rattle.depths.proofs.inner.values_valid.Goals.{in-Depth, in-Gap, then-fine, else-fine}

pub loop-k-init : goal.loop-k-init
loop-k-init c = (search rules, sym (every_none _ _))

pub loop-k-preserved : goal.loop-k-preserved
loop-k-preserved c =
    let told : c.match-value_in.fine ≡ ranged_at c.args.b.now c.args.at c.loop-k.k =
    elim c.match-value_in.branch [
      | in-Depth w ↦ w.fine-is ∙ depth_told _ _ _ _ c.value_in.ensures _ _ w.in-Depth.is (search rules) w.in_range-fine.ensures
      | in-Gap w ↦ search gap_told
    ] in (
      search rules,
      elim c.if-fine.branch [
        | then-fine w ↦ fine_turn _ _ _ _ _ c.loop-k.invariant.1 _ told w.if-fine.true w.valid-is
        | else-fine w ↦ wrong_turn _ _ _ _ _ c.loop-k.invariant.1 _ told w.if-fine.false w.valid-is
      ],
    )

pub returns : goal.returns
returns c = search valid_end

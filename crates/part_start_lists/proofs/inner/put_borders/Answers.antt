-- `part_start_lists::inner::put_borders` meets its contract. Assumes nothing.
use native.Mathlib.Omega.{arith}
use Rattle.word_lists.proofs.PutLaws.{put_both, words_count}
use Rattle.part_start_lists.proofs.inner.put_borders.Goals as goal

pub put_ends-requires : goal.put_ends-requires
put_ends-requires c =
    let pre = c.requires in
    let t = words_count _ _ _ _ _ _ c.put_ends-t.ensures in
    (omega (arith, pre.0, t), omega (arith, pre.1, t), pre.3)

pub returns : goal.returns
returns c =
    let got = c.put_ends-t.ensures in
    put_both _ _ _ _ _ _ _ _ got c.put_ends.ensures (omega (arith, c.requires.0, words_count _ _ _ _ _ _ got))

-- `walk_steps::steps::arrive` meets its contract. Assumes nothing.
use mathlib.Core.Path.{refl}
use Rattle.std.proofs.lemmas.List.{take_rest}
use Rattle.walk_steps.proofs.WalkLaws.{arrived_odd, arrived_even, copied}
use Rattle.walk_steps.proofs.steps.arrive.Goals as goal

pub returns-then-k-eq1 : goal.returns-then-k-eq1
returns-then-k-eq1 c = arrived_odd _ _ _ c.args.found.now _ _ _ _ _ _ _ (take_rest c.args.found.now c.args.w.met) c.kept.ensures (copied _ _ _ _ refl c.copy_items.ensures) c.if-k-eq1.true

pub returns : goal.returns
returns c =
    arrived_even _ _ _ c.args.found.now _ _ _ _ _ _ _ (take_rest c.args.found.now c.args.w.met) c.kept.ensures (copied _ _ _ _ refl c.copy_items.ensures) c.if-k-eq1.false
    _ _ _ _ _ c.note_all.ensures c.widen.ensures

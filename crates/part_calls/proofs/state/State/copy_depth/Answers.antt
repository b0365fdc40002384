-- `part_calls::state::State::copy_depth` meets its contract. Assumes nothing.
use mathlib.Core.Path.{ap, ◌∙◌}
use native.Mathlib.Omega.{arith}
use Rattle.vocabulary.specs.Bytes.{over}
use Rattle.part_calls.proofs.OpenedLaws.{long, four_cut, whole}
use Rattle.part_calls.proofs.state.State.copy_depth.Goals as goal

pub overflow_mul-l : goal.overflow_mul-l
overflow_mul-l c = omega (arith, c.requires.0, (whole _ _ _ c.args.self.opened).few)

pub overflow_add-self-2 : goal.overflow_add-self-2
overflow_add-self-2 c = omega (arith, c.requires.0, c.args.self.opened.place_small, (whole _ _ _ c.args.self.opened).few)

pub copy-requires : goal.copy-requires
copy-requires c = (c.requires.1, omega (arith, c.requires.0, long _ _ _ c.args.self.opened))

pub returns : goal.returns
returns c = c.copy.ensures ∙ ap (over c.args.out.now c.args.at) (four_cut _ _ (omega (arith, c.requires.0, long _ _ _ c.args.self.opened)))

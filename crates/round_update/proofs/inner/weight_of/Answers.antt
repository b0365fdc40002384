-- `round_update::inner::weight_of` meets its contract. Assumes nothing.
use Rattle.round_update.proofs.Reaches.{byte_fits, layer_small, weight_index, weight_read, weight_light}
use borrow.Author.Rules.{rules}
use Rattle.round_update.proofs.inner.weight_of.Goals as goal

pub overflow_cast-layer : goal.overflow_cast-layer
overflow_cast-layer c = search (byte_fits, c.shared_slice_known-1.given)

pub overflow_mul-result : goal.overflow_mul-result
overflow_mul-result c = let h = layer_small _ _ _ c.requires.1 in search (rules, h)

pub overflow_add-result : goal.overflow_add-result
overflow_add-result c = let h = layer_small _ _ _ c.requires.1 in search (rules, h)

pub bounds-weights-layer : goal.bounds-weights-layer
bounds-weights-layer c = let h = weight_index _ _ _ c.requires.1 c.args.weights.now c.requires.2 in search (rules, h)

pub overflow_cast-result : goal.overflow_cast-result
overflow_cast-result c = search (byte_fits, c.shared_slice_known-2-1.given)

pub returns : goal.returns
returns c = (search weight_read, search weight_light)

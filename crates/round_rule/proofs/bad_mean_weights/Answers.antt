-- `round_rule::bad_mean_weights` meets its contract. Assumes nothing.
use Rattle.round_rule.proofs.Refusals.{odd_weights, other_number, heavy_weights, light_weights}
use Rattle.round_rule.proofs.bad_mean_weights.Goals as goal

pub returns-then-weights-ne0 : goal.returns-then-weights-ne0
returns-then-weights-ne0 c = search odd_weights

pub returns-then-weights-count : goal.returns-then-weights-count
returns-then-weights-count c = search other_number

pub returns-then-too_heavy : goal.returns-then-too_heavy
returns-then-too_heavy c = search heavy_weights

pub returns : goal.returns
returns c = search light_weights

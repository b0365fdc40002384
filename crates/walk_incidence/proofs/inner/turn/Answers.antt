-- `walk_incidence::inner::turn` meets its contract. Assumes nothing.
use mathlib.Core.Path.{◌≡◌, ap, ◌∙◌}
use lib.ListN.{replicate}
use Rattle.layout.specs.Limits.{element_places}
use Rattle.walk_incidence.specs.declared.inner.Incidence.{Incidence}
use Rattle.walk_incidence.specs.Links.{lists}
use Rattle.walk_incidence.proofs.TurnedLaws.{turned}
use Rattle.walk_incidence.proofs.inner.turn.Goals as goal

pub returns : goal.returns
returns c =
    turned _ c.requires.0 _ _ c.sizes_of-sizes.ensures.first_is c.sizes_of-sizes.ensures.cells_is before after c.requires.1 c.requires.2 cleared _ c.invert.ensures
  where
    before : Incidence
    before = lists c.args.cell.now c.args.prev.now c.fill.new.self

    after : Incidence
    after = lists c.invert.new.cell c.invert.new.prev c.invert.new.last

    cleared : c.fill.new.self ≡ replicate element_places 0
    cleared = c.fill.ensures.after (λ y e. e) ∙ ap (λ n. replicate n 0) c.requires.3

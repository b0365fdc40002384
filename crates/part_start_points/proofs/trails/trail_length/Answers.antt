-- `part_start_points::trails::trail_length` meets its contract. Assumes nothing.
use native.Mathlib.Omega.{arith}
use mathlib.Core.Logic.{inl}
use mathlib.Core.Path.{ap}
use lib.ListN.{length, get_or}
use Rattle.std.proofs.lemmas.Iterator.Consumers.{YieldsList-from_first, count_from_yields_List}
use Rattle.layout.specs.Limits.{record_places}
use Rattle.walk_incidence.specs.Trails.{rest}
use Rattle.part_start_points.proofs.TrailSteps.{trail_most}
use Rattle.part_start_points.proofs.trails.trail_length.Goals as goal

pub count-requires-clause-fits : goal.count-requires-clause-fits
count-requires-clause-fits c =
    let m = trail_most c.args.incidence.cell.now c.args.incidence.prev.now record_places (get_or c.args.incidence.last.now c.args.e 0) in
    inl (omega (arith, m, ap length c.cells_at.ensures))

pub returns : goal.returns
returns c =
    let e = count_from_yields_List _ _ c.count.ensures.ran (YieldsList-from_first (λ y. y) rest _ c.cells_at.ensures) in
    (e, omega (arith, e, trail_most c.args.incidence.cell.now c.args.incidence.prev.now record_places (get_or c.args.incidence.last.now c.args.e 0)))

-- `walk_reach_table::table::reach_table` meets its contract. Assumes nothing.
use Rattle.vocabulary.proofs.ListLaws.{zeros}
use Rattle.layout.specs.Limits.{element_places}
use Rattle.mesh.proofs.MeetLaws.{under_none}
use Rattle.walk_reach_table.proofs.table.reach_table.Goals as goal

pub reach_all-requires : goal.reach_all-requires
reach_all-requires c = (c.new.ensures.0, under_none, zeros element_places)

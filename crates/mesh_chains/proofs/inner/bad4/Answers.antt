-- `mesh_chains::inner::bad4` meets its contract. Assumes nothing.
use mathlib.Core.Path.{refl}
use mathlib.Core.Bool.{true}
use Rattle.vocabulary.proofs.ListLaws.{not_both}
use Rattle.mesh_chains.proofs.RecordLaws.{point_told, records_told}
use Rattle.mesh_chains.proofs.NoteLaws.{written}
use Rattle.mesh_chains.proofs.inner.bad4.Goals as goal

pub returns-then-point_headed : goal.returns-then-point_headed
returns-then-point_headed c = (search point_told, λ q. absurd (not_both true refl q))

pub returns : goal.returns
returns c = (search records_told, search written)

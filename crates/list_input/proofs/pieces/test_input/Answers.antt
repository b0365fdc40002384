-- `list_input::pieces::test_input` meets its contract. Assumes nothing.
use Prim.Native.Nat.{ℕ}
use native.Mathlib.Omega.{arith}
use lib.ListN.{length-replicate}
use Rattle.vocabulary.proofs.ListLaws.{zeros}
use Rattle.layout.specs.Limits.{element_places, record_places}
use Rattle.list_input.proofs.pieces.test_input.Goals as goal

pub test_split-requires : goal.test_split-requires
test_split-requires c = (omega (arith, length-replicate {A = ℕ} record_places 0), zeros element_places)

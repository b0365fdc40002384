-- The sizes of a mesh, counted once. No public contract rests on this page. Assumes nothing.
use Rattle.std.specs.Prelude.{◌≡◌}
use Rattle.vocabulary.specs.Bytes.{Bytes}
use Rattle.mesh.specs.Mesh.{elements, record_count, first_cell, cell_count}
use Rattle.walk_incidence.specs.declared.inner.MeshSizes.{MeshSizes}

pub record Sized (m : Bytes) (s : MeshSizes) : Type 0 where
  pub elements_is : s.elements ≡ elements m
  pub records_is : s.records ≡ record_count m
  pub first_is : s.first ≡ first_cell m
  pub cells_is : s.cells ≡ cell_count m

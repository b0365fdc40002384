-- What an iterator along a trail still has to give. No public contract rests on this page. Assumes nothing.
use Rattle.std.specs.Prelude.{List, ℕ}
use Rattle.walk_incidence.specs.declared.trails.Trail.{Trail}
use Rattle.walk_incidence.specs.Links.{trail}

abbrev pub rest : Trail → List ℕ
rest t = trail t.incidence.cell.now t.incidence.prev.now t.left t.entry

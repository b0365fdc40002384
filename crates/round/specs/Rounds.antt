-- Fields, the undivided round and what it makes in k rounds, depths at points, and the refusal 14. It knows nothing of parts. Assumes nothing.
use Rattle.std.specs.Prelude.{Bool, ◌||◌, not, List, [], ◌∷◌, ◌++◌, map, ℕ, zero, suc, ◌-◌, ◌*◌, eqb, ltb, length}
use Rattle.vocabulary.specs.Intervals.{every, blocks}
use Rattle.vocabulary.specs.Tests.{Test, refuse, first_of}
use Rattle.vocabulary.specs.Bytes.{Bytes, over}
use Rattle.depths.specs.Depths.{four, ranged_at}
use Rattle.layout.specs.Answers.{answer, if_accepted}
use Rattle.layout.specs.Answers.{Answer}
use Rattle.mesh.specs.Mesh.{top, first_cell, cell_count, mesh_tests}
use Rattle.mesh.specs.Walks.{Near, reach, cells_at, steps, bad10, bad13}
use Rattle.round_rule.specs.Rules.{RuleInput, Old, new_depth, plain_mean, bad11}

-- ---- fields: "A field is four bytes a cell", in rising number of the cells

-- "Field length or a depth wrong", for a mesh of n cells; since F-2 a gap is let through
unfoldable pub bad14 : ℕ → Bytes → Bool
bad14 n f = not (eqb (length f) (4 * n)) || not (every 0 n (ranged_at f 0))

-- ---- the undivided round

-- what a mesh, a stencil and a rule come to, as far as a round and the depths at points go by them: the cells are `first` and those after it, `cells` of them
pub record Scheme : Type 0 where
  pub first : ℕ
  pub cells : ℕ
  pub reach : ℕ → List Near
  -- the cells incident to an element
  pub around : ℕ → List ℕ
  -- the new depth of a cell from its own old depth and those of its reach
  pub new : Bytes → List Old → Bytes

unfoldable pub scheme_of : Bytes → Bytes → ℕ → Bytes → Scheme
scheme_of m stencil kind v = record { first = first_cell m; cells = cell_count m; reach = reach m stencil; around = cells_at m; new = new_depth kind v }

module _ (S : Scheme) where
  -- the depth of cell c in a field, as its four bytes. A field's standard term: cell-centred field (a dat in OP2).
  unfoldable pub depth_in : Bytes → ℕ → Bytes
  depth_in f c = four f (4 * (c - S.first))

  -- the old depths of a reach
  unfoldable pub olds_in : Bytes → List Near → List Old
  olds_in f ns = map (λ e. record { layer = e.layer; depth = depth_in f e.cell }) ns

  -- "All new depths come from old ones."
  unfoldable pub new_in : Bytes → ℕ → Bytes
  new_in f c = S.new (depth_in f c) (olds_in f (S.reach c))

  -- what the rule makes of a field, at every cell of the mesh. Standard term: Jacobi sweep.
  unfoldable pub round : Bytes → Bytes
  round f = blocks S.first S.cells (new_in f)

  -- "The undivided field after 0 rounds is the starting field; after k rounds it is what the rule makes, at every cell of the mesh, of the
  -- one after k−1 rounds." Standard term: serial reference.
  unfoldable pub undivided : Bytes → ℕ → Bytes
  undivided f zero = f
  undivided f (suc k) = round (undivided f k)

  -- the value at point p of a field (F-1): "the plain mean of the depths of the cells incident to it, all weights 1, rounded like the rule".
  -- Standard term: cell-to-vertex average.
  unfoldable pub point_in : Bytes → ℕ → Bytes
  point_in f p = plain_mean (map (depth_in f) (S.around p))

-- ---- the call

-- what it is given: a mesh, a stencil, a rule and a field
pub record RoundInput : Type 0 where
  pub mesh : Bytes
  pub stencil : Bytes
  pub rule : RuleInput
  pub field : Bytes

-- from the arguments of a call
abbrev pub round_input : Bytes → Bytes → ℕ → Bytes → Bytes → RoundInput
round_input m stencil kind v f = record { mesh = m; stencil = stencil; rule = record { kind = kind; weights = v }; field = f }

module _ (I : RoundInput) (out : Bytes) where
  -- what it tries after the mesh
  abbrev pub later_tests : List Test
  later_tests =
      refuse 10 (bad10 (top I.mesh) I.stencil) ∷ refuse 11 (bad11 I.rule.kind (steps I.stencil) I.rule.weights)
      ∷ refuse 13 (bad13 I.mesh I.stencil) ∷ refuse 14 (bad14 (cell_count I.mesh) I.field)
      ∷ refuse 16 (ltb (length out) (4 * cell_count I.mesh)) ∷ []

  unfoldable pub round_number : ℕ
  round_number = first_of (mesh_tests I.mesh ++ later_tests)

  -- it gives the count of values
  unfoldable pub round_answer : Answer
  round_answer = answer round_number (cell_count I.mesh)

  -- what it leaves in the output: "Bytes past the need stay."
  unfoldable pub round_out : Bytes
  round_out = if_accepted round_number (over out 0 (round (scheme_of I.mesh I.stencil I.rule.kind I.rule.weights) I.field)) out

-- What a step of a walk stands on, and what it gathers. No public contract rests on this page. Assumes nothing.
use Rattle.std.specs.Prelude.{◌≡◌, Bool, false, not, ◌&&◌, ◌||◌, cond, List, [], ◌∷◌, ℕ, zero, suc, ◌+◌, ◌*◌, ◌/◌, ◌%◌, ◌≤◌, ◌<◌, eqb, length, get_or, take, drop}
use Rattle.vocabulary.specs.Bytes.{Bytes, byte_at}
use Rattle.vocabulary.specs.Intervals.{picked, some, every}
use Rattle.vocabulary.specs.Lists.{is_in, All}
use Rattle.layout.specs.Limits.{element_places}
use Rattle.mesh.specs.Mesh.{top, below, first_cell, cell_count}
use Rattle.mesh.specs.Walks.{bad10, step_to}
use Rattle.mesh.specs.Accepted.{Cell}
use Rattle.walk_incidence.specs.Links.{Inverted, Roomed, seen}
use Rattle.walk_frontier.specs.Visits.{Frontier}
use Rattle.walk_incidence.specs.declared.inner.Incidence.{Incidence}
use Rattle.walk_incidence.specs.Sizes.{Sized}
use Rattle.walk_steps.specs.declared.steps.Space.{Space}
use Rattle.walk_steps.specs.declared.steps.Walker.{Walker}

-- the chains of an accepted mesh turned round, and an accepted stencil
pub record Ground (m st : Bytes) (w : Incidence) : Type 0 where
  pub turned : Inverted m w
  pub stencil : bad10 (top m) st ≡ false

-- the first n numbers of `from` are all cells
pub record AllCells (m : Bytes) (from : List ℕ) (n : ℕ) : Type 0 where
  pub each : All (Cell m) (take n from)
  pub count : length (take n from) ≡ n

-- x is a lower element
abbrev pub Lower : Bytes → ℕ → Type 0
Lower m x = (1 ≤ x) × (x ≤ below m (top m))

-- z is one step of dimension a from one of the numbers in a list
unfoldable pub stepped : Bytes → ℕ → List ℕ → ℕ → Bool
stepped m a from z = is_in z (step_to m a from)

-- where the walks of k steps from one of the cells cs end
unfoldable pub walked_from : Bytes → Bytes → List ℕ → ℕ → List ℕ
walked_from m st cs zero = cs
walked_from m st cs (suc k) = step_to m (byte_at st (suc k)) (walked_from m st cs k)

-- ---- stencils through one dimension: what an element leads to was met where the element was met before, so no walk goes on from it again

-- the j-th odd place is like the first
unfoldable pub alike : Bytes → ℕ → Bool
alike st j = eqb (byte_at st (2 * j + 1)) (byte_at st 1)

-- all odd places are alike
unfoldable pub through_one : Bytes → Bool
through_one st = every 0 (length st / 2) (alike st)

-- a walk of fewer than k steps ends at z
unfoldable pub met_before : Bytes → Bytes → List ℕ → ℕ → ℕ → Bool
met_before m st cs k z = some 0 k (λ j. is_in z (walked_from m st cs j))

-- a walk of k steps ends at z, and where `single` holds none of fewer steps
unfoldable pub newly : Bool → Bytes → Bytes → List ℕ → ℕ → ℕ → Bool
newly single m st cs k z = is_in z (walked_from m st cs k) && not (single && met_before m st cs k z)

-- the mark of the step after k steps: one for the whole walk where `single` holds, and else one a step
unfoldable pub mark_at : Bool → ℕ → ℕ → ℕ
mark_at single v k = cond single v (v + k)

-- the numbers of a list, where `single` holds
unfoldable pub starts_among : Bool → List ℕ → ℕ → Bool
starts_among single from z = single && is_in z from

-- the first n numbers of `found`, and what passes
unfoldable pub or_among : List ℕ → ℕ → (ℕ → Bool) → ℕ → Bool
or_among found n p z = is_in z (take n found) || p z

-- ---- layers: one more than the layer of a cell that was walked to, 0 for the rest

unfoldable pub first_mark : List ℕ → ℕ
first_mark [] = 0
first_mark (x ∷ xs) = x + 1

-- by walks of at most k steps; only those of an even number of steps end at cells
unfoldable pub layer_mark : Bytes → Bytes → List ℕ → ℕ → ℕ → ℕ
layer_mark m st cs k z = first_mark (picked 0 (k + 1) (λ j. eqb (j % 2) 0 && is_in z (walked_from m st cs j)))

-- the mark x, or that of step k where there is none and the element is reached
unfoldable pub noted : ℕ → Bool → ℕ → ℕ
noted k b x = cond (b && eqb x 0) (k + 1) x

pub record Noted (k : ℕ) (before after : List ℕ) (p : ℕ → Bool) : Type 0 where
  pub size : length after ≡ length before
  pub each : (z : ℕ) → get_or after z 0 ≡ noted k (p z) (get_or before z 0)

-- the numbers of a list
unfoldable pub among : List ℕ → ℕ → Bool
among xs z = is_in z xs

-- the cells among what step k found
unfoldable pub cells_among : ℕ → List ℕ → ℕ → Bool
cells_among k xs z = eqb (k % 2) 0 && is_in z xs

-- after k steps from the cells cs: the first n numbers of `from` are where the walks end, only those that no shorter walk met where `single` holds;
-- the first numbers of `found`, as many as `met`, are then all that was met, and bear the mark of the walk
pub record WalkDone (m st : Bytes) (single : Bool) (cs : List ℕ) (k v : ℕ) (s : Space) (n met : ℕ) : Type 0 where
  pub gathered : Frontier (mark_at single v k) s.marks s.found met
  pub told : (z : ℕ) → is_in z (take met s.found) ≡ single && met_before m st cs (suc k) z
  pub room : length s.from ≡ element_places
  pub count : length (take n s.from) ≡ n
  pub ends : (z : ℕ) → is_in z (take n s.from) ≡ newly single m st cs k z
  pub size : length s.layers ≡ element_places
  pub layered : (z : ℕ) → get_or s.layers z 0 ≡ layer_mark m st cs k z

-- what has a layer stands from `low` on and before `high`, among the cells
pub record Within (m : Bytes) (layers : List ℕ) (low high : ℕ) : Type 0 where
  pub starts : first_cell m ≤ low
  pub ends : low ≤ first_cell m + cell_count m
  pub stops : high ≤ first_cell m + cell_count m
  pub before : (z : ℕ) → z < low → get_or layers z 0 ≡ 0
  pub after : (z : ℕ) → high ≤ z → get_or layers z 0 ≡ 0

-- bounds that hold the numbers ys as well, and no more than they have to
pub record Widened (low high low' high' : ℕ) (ys : List ℕ) : Type 0 where
  pub down : low' ≤ low
  pub up : high ≤ high'
  pub each : All (λ y. (low' ≤ y) × (y < high')) ys
  pub least : (a b : ℕ) → a ≤ low → high ≤ b → All (λ y. (a ≤ y) × (y < b)) ys → (a ≤ low') × (high' ≤ b)

-- what stands before the first step: the cells in `from`, with the layer 0, and their bounds
pub record Departed (e : ℕ) (from : List ℕ) (met : ℕ) (layers layers' : List ℕ) (n low high met' : ℕ) : Type 0 where
  pub count : n ≡ length from
  pub kept : met' ≡ met
  pub notes : Noted 0 layers layers' (among from)
  pub bounds : Widened (e + 1) 0 low high from

-- what step k leaves where `found` are all that are found so far, `base` of them before it: the new ones stand at the front of `from`; cells have the layer k
-- unless they had one, and widen the bounds; what was found is kept where `single` holds
pub record Arrived (k : ℕ) (single : Bool) (base : ℕ) (found from from' layers layers' : List ℕ) (low high n' low' high' met' : ℕ) : Type 0 where
  pub count : n' ≡ length (drop base found)
  pub kept : met' ≡ cond single (length found) 0
  pub moved : take n' from' ≡ drop base found
  pub notes : Noted k layers layers' (cells_among k (drop base found))
  pub odd : k % 2 ≡ 1 → (low' ≡ low) × (high' ≡ high) × (layers' ≡ layers)
  pub even : (k % 2 ≡ 1 → ⊥) → Widened low high low' high' (drop base found)

-- before step k: cells where it goes down, lower elements where it goes up
pub record Sided (m : Bytes) (k : ℕ) (from : List ℕ) : Type 0 where
  pub odd : k % 2 ≡ 1 → All (Cell m) from
  pub even : (k % 2 ≡ 1 → ⊥) → All (Lower m) from

-- what a walker goes by is accepted, and made out rightly, in lists of any length
pub record Grounded (w : Walker) : Type 0 where
  pub ground : Ground w.mesh.now w.stencil.now (seen w.incidence)
  pub sized : Sized w.mesh.now w.sizes
  pub single_is : w.single ≡ through_one w.stencil.now

-- the same, in arrays of their whole length
pub record Ready (w : Walker) : Type 0 where
  pub grounded : Grounded w
  pub roomed : Roomed (seen w.incidence)

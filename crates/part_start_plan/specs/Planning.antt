-- What start makes out before it writes. No public contract rests on this page. Assumes nothing.
use Rattle.std.specs.Prelude.{◌≡◌, List, ℕ, ◌+◌, ◌*◌, ◌<◌, ◌≤◌, length, take}
use Rattle.vocabulary.specs.Bytes.{Bytes}
use Rattle.layout.specs.Limits.{most_held, most_parts}
use Rattle.mesh.specs.Mesh.{first_cell, cell_count}
use Rattle.split.specs.Split.{split_of, locals, points_in, point_ends}
use Rattle.part_state.specs.State.{exports_word}
use Rattle.part_start_lists.specs.Starting.{row_ends, sent_ends, Got, Fit, OwnersFew}
use Rattle.part_start_lists.specs.declared.inner.Plan.{Plan}
use Rattle.part_start_points.specs.Points.{points_on, word_count}
use Rattle.walk_incidence.specs.declared.inner.Incidence.{Incidence}
use Rattle.walk_incidence.specs.Links.{Inverted, Turned}
use Rattle.part_start_plan.specs.Start.{owned_in}

-- the plan of part i: its numbers, with its local order in an array and the counts of its imports in another
pub record Planned (m : Bytes) (parts : ℕ) (owners : Bytes) (i : ℕ) (st table : Bytes) (ends order got : List ℕ) (p : Plan) : Type 0 where
  pub part_is : p.asked.part ≡ i
  pub first_is : p.asked.first ≡ first_cell m
  pub cells_are : p.asked.cells ≡ cell_count m
  pub part_low : 1 ≤ p.asked.part
  pub parts_few : p.asked.parts ≤ most_parts
  pub owners_few : OwnersFew owners p.asked.cells p.asked.parts
  pub order_is : take p.held order ≡ locals (split_of m parts owners st) i
  pub held_is : p.held ≡ length (locals (split_of m parts owners st) i)
  pub owned_is : p.owned ≡ owned_in (split_of m parts owners st) i
  pub got_are : Got owners table ends p.asked.part p.asked.cells got
  pub sent_is : p.sent ≡ sent_ends owners table ends p.asked.part p.asked.first p.asked.cells most_parts
  pub sent_few : p.sent ≤ most_held
  pub fit : Fit owners table ends p.asked.part p.asked.first p.asked.cells order p.held p.owned
  pub front_is : p.front ≡ exports_word p.held p.owned (row_ends table ends p.asked.first order p.owned) + sent_ends owners table ends p.asked.part p.asked.first p.asked.cells most_parts
  pub long_is : p.long ≡ p.front + 2 + 2 * points_in (split_of m parts owners st) i + point_ends (split_of m parts owners st) i (points_in (split_of m parts owners st) i)
  -- 48, two numbers for each of 2,000 cells and of 2,000 points, two for each of 8,000 entries, 4,096 exports and 12,000 cells at points
  pub long_few : p.long ≤ 40144

-- there is room for the words of the points from word s on, whatever lists have the chains turned round
pub record PointsFit (m owners b : Bytes) (s part first points : ℕ) : Type 0 where
  pub there : (w : Incidence) → Inverted m w → let ps : List ℕ = points_on w owners first part points in 2 * (s + word_count w ps (length ps)) ≤ length b
  pub few : (w : Incidence) → Inverted m w → let ps : List ℕ = points_on w owners first part points in s + word_count w ps (length ps) < 65536

-- the same, whatever arrays of their whole length have them
pub record PointRoom (m owners b : Bytes) (s part first points : ℕ) : Type 0 where
  pub there : (w : Incidence) → Turned m w → let ps : List ℕ = points_on w owners first part points in 2 * (s + word_count w ps (length ps)) ≤ length b
  pub few : (w : Incidence) → Turned m w → let ps : List ℕ = points_on w owners first part points in s + word_count w ps (length ps) < 65536

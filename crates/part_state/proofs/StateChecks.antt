-- What the test of a state answers, by the tests that the code makes one after the other. Assumes nothing.
use mathlib.Core.Path.{◌≡◌, sym, ap, ap₂, ◌∙◌}
use mathlib.Core.Bool.{false, ◌&&◌}
use Prim.Native.Nat.{ℕ, ◌+◌, ◌-◌, ◌*◌, ◌<◌}
use native.Mathlib.Omega.{arith}
use lib.Dec.{eqb}
use lib.ListN.{length, take, drop}
use borrow.Author.Tests.{lt-leb}
use Rattle.vocabulary.specs.Bytes.{Bytes}
use Rattle.vocabulary.proofs.ListLaws.{and_right}
use Rattle.vocabulary.specs.Tests.{all_of}
use Rattle.layout.specs.Words.{word_at}
use Rattle.part_state.specs.State.{owned_count, held_count, export_count, lists_length, lists_tests, dynamic_tests, is_state, state_length}
use Rattle.part_state.specs.State.{reach_word, reach_count, points_from, point_count, point_cells}
use Rattle.part_state.specs.declared.places.Sizes.{Sizes}
use Rattle.part_state.specs.Checks.{point_start, Counts}

-- ---- the whole

module _ (b : Bytes) (z : Sizes) (h : z.held ≡ held_count b) (o : z.owned ≡ owned_count b) (r : z.reached ≡ word_at b (reach_word z.held + z.owned)) (s : z.sent ≡ export_count b) where
  reached_here : z.reached ≡ reach_count b
  reached_here = r ∙ ap₂ (λ x y. word_at b (reach_word x + y)) h o

  module _ (p : z.points ≡ word_at b (point_start z)) (a : z.around ≡ word_at b (point_start z + 1 + z.points + z.points)) where
    points_here : z.points ≡ point_count b
    points_here = p ∙ ap (word_at b) (let e : point_start z ≡ points_from b = omega (arith, h, o, reached_here, s) in e)

    around_here : z.around ≡ point_cells b
    around_here = a ∙ ap (word_at b)
        (let e : point_start z + 1 + z.points + z.points ≡ points_from b + 1 + point_count b + point_count b = omega (arith, h, o, reached_here, s, points_here) in e)

    pub counts : z.held < 65536 → z.owned < 65536 → z.reached < 65536 → z.sent < 65536 → z.points < 65536 → z.around < 65536 → Counts b z
    counts hs os rs ss ps cs = record {
      held_is = h;
      owned_is = o;
      reached_is = reached_here;
      sent_is = s;
      points_is = points_here;
      around_is = around_here;
      small = record { held_small = hs; owned_small = os; reached_small = rs; sent_small = omega arith; points_small = ps; around_small = omega arith };
    }

-- a buffer that is shorter than the lists is none
pub state_short : (b : Bytes) (x : ℕ) → x ≡ word_at b 0 → length b < 2 * x → false ≡ is_state b
unfolding is_state dynamic_tests
state_short b x e h =
    let k : length b < state_length (2 * word_at b 0) (held_count (take (2 * word_at b 0) b)) = omega (arith, e) in
    sym (and_right (eqb (2 * word_at b 0) (lists_length (take (2 * word_at b 0) b)) && all_of (lists_tests (take (2 * word_at b 0) b)))
    (all_of (dynamic_tests b (2 * word_at b 0) (held_count (take (2 * word_at b 0) b)))) (simp (lt-leb _ _ k)))

pub cut_lists : (b : Bytes) (x : ℕ) → take (x - 0) (drop 0 b) ≡ take x b
cut_lists b x = let p : x - 0 ≡ x = omega arith in ap (λ k. take k b) p

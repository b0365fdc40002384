-- An accepted points call gives the undivided depths at the points (F-1): what the lists of all parts must have, and that the call goes by it. Assumes nothing.
use Rattle.std.specs.Prelude.{◌≡◌, false, length, get_or}
use Rattle.std.proofs.Math.Path.{sym, ap, ap₂}
use Rattle.std.proofs.Common.{◌∙◌, arith}
use mathlib.Core.List.{List, ◌++◌, map, reverse}
use Prim.Native.Nat.{ℕ, ◌+◌, ◌-◌, ◌<◌, ◌≤◌}
use Rattle.vocabulary.specs.Bytes.{Bytes, byte_at}
use Rattle.vocabulary.specs.Lists.{All, joined}
use Rattle.vocabulary.proofs.ListLaws.{All_map, map_cong, map_map, map_reversed}
use Rattle.vocabulary.specs.Intervals.{blocks}
use Rattle.vocabulary.proofs.IntervalLaws.{listed_back, joined_mapped, blocks_cong}
use Rattle.layout.specs.Words.{word_bytes}
use Rattle.layout.specs.Limits.{most_parts}
use Rattle.round_rule.specs.Rules.{plain_mean}
use Rattle.round_rule.proofs.RuleLaws.{mean_reversed}
use Rattle.round.specs.Rounds.{Scheme, undivided, point_in}
use Rattle.part_state.specs.State.{Lists, taken_place}
use Rattle.part_calls.specs.Calls.{depth_at, outside, point_given, points_given}
use Rattle.run_theorem.proofs.RunLaws.{Part, Parted, Good, Undivided, all_right}

-- ---- what the lists of all parts must have

-- the lists `Ls i` of the parts i have the points `points i` by their numbers; where 29 does not hold, they have the cells at each point, all of them held, in
-- falling order of their global numbers
pub record Pointed (X : Scheme) (parts : ℕ) (points : ℕ → List ℕ) (Ls : ℕ → Lists) : Type 0 where
  pub points_are : (i : ℕ) → Part parts i → (Ls i).points ≡ length (points i)
  pub point_is : (i : ℕ) → Part parts i → (k : ℕ) → 1 ≤ k → k ≤ length (points i) → (Ls i).point k ≡ get_or (points i) (k - 1) 0
  pub around_held : (i : ℕ) → Part parts i → outside (Ls i) ≡ false → (k : ℕ) → 1 ≤ k → k ≤ length (points i) → All (λ l. (1 ≤ l) × (l ≤ (Ls i).held)) ((Ls i).around k)
  pub around_is : (i : ℕ) → Part parts i → outside (Ls i) ≡ false → (k : ℕ) → 1 ≤ k → k ≤ length (points i)
      → map (Ls i).global ((Ls i).around k) ≡ reverse (X.around (get_or (points i) (k - 1) 0))

-- ---- the call

-- what the undivided field f has at point p, as it is given
abbrev pub point_depth : Scheme → Bytes → ℕ → Bytes
point_depth X f p = word_bytes p ++ point_in X f p

module _ (X : Scheme) (F : Bytes) (owner : ℕ → ℕ) (parts : ℕ) (Ls : ℕ → Lists) (S : Parted X owner parts Ls) (i : ℕ) (part : Part parts i) (lists : Bytes) (changes rd : ℕ)
    (b : Bytes) (g : Good X F (Ls i) lists changes rd b) (taken : (j : ℕ) → 1 ≤ j → j ≤ most_parts → 0 < (Ls i).imported j → byte_at b (taken_place changes j) ≡ 1)
    (points : ℕ → List ℕ) (T : Pointed X parts points Ls) (e : outside (Ls i) ≡ false) where
  point_right : (k : ℕ) → 1 ≤ k → k ≤ length (points i) → point_given (Ls i) changes b k ≡ point_depth X (undivided X F rd) (get_or (points i) (k - 1) 0)
  unfolding point_given point_in
  point_right k h q =
      let cells : List ℕ = X.around (get_or (points i) (k - 1) 0) in
      ap₂ ◌++◌ (ap word_bytes (T.point_is i part k h q))
      (ap plain_mean
      (map_cong (depth_at changes b) (λ l. Undivided X F rd ((Ls i).global l)) ((Ls i).around k)
      (All_map ((Ls i).around k) (λ l r. all_right X F owner parts Ls S i part lists changes rd b g taken l r.0 r.1) (T.around_held i part e k h q))
      ∙ sym (map_map (Undivided X F rd) (Ls i).global ((Ls i).around k))
      ∙ ap (map (Undivided X F rd)) (T.around_is i part e k h q)
      ∙ map_reversed (Undivided X F rd) cells)
      ∙ mean_reversed (map (Undivided X F rd) cells))

  pub points_right : points_given (Ls i) changes b ≡ joined (map (point_depth X (undivided X F rd)) (points i))
  points_right =
      let give : ℕ → Bytes = point_depth X (undivided X F rd) in
      let at : ℕ → ℕ = λ k. get_or (points i) (k - 1) 0 in
      ap (λ n. blocks 1 n (point_given (Ls i) changes b)) (T.points_are i part)
      ∙ blocks_cong 1 (point_given (Ls i) changes b) (λ k. give (at k)) (length (points i)) (λ j h. point_right (1 + j) (omega arith) (omega arith))
      ∙ sym (joined_mapped give 1 at (length (points i)))
      ∙ ap (λ ps. joined (map give ps)) (listed_back 1 at (points i) 0 (λ t h. let z : 1 + t - 1 ≡ t = omega arith in ap (λ n. get_or (points i) n 0) z))

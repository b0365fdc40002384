-- How long a state is at most. Assumes nothing.
use Rattle.std.specs.Prelude.{◌≡◌, [], ◌∷◌, ℕ, ◌<◌, ◌≤◌, length}
use Rattle.std.proofs.Common.{arith}
use Rattle.vocabulary.specs.Bytes.{Bytes}
use Rattle.vocabulary.specs.Intervals.{total}
use Rattle.layout.specs.Limits.{most_parts}
use Rattle.mesh.specs.Mesh.{cell_count}
use Rattle.split.specs.Split.{Split, split_of, exports, owner_at, point_ends}
use Rattle.split.specs.Lists.{split_in, size_tests}
use Rattle.split.proofs.SplitLaws.{split_parted, split_fine, map_facts, split_reach, split_own, split_owner, order_length, local_held, export_total}
use Rattle.part_start_plan.specs.Start.{reach_ends, export_ends, lists_long, state_size, size_number}
use Rattle.run_theorem.specs.Run.{StateBound}

-- sixteen numbers export no more than the parts
exports_few : (m owners st : Bytes) (parts i : ℕ) → parts ≤ most_parts → ((k : ℕ) → k < cell_count m → (1 ≤ owner_at owners k) × (owner_at owners k ≤ parts))
    → total 1 most_parts (λ j. length (exports (split_of m parts owners st) i j)) ≡ total 1 parts (λ j. length (exports (split_of m parts owners st) i j))
unfolding split_of
exports_few m owners st parts i few f = export_total (split_of m parts owners st) (split_reach m parts owners st) (split_owner m parts owners st f) i few

pub state_bound : StateBound
unfolding StateBound size_number state_size lists_long reach_ends export_ends point_ends
state_bound D i e =
    let m : Bytes = D.mesh in
    let parts : ℕ = D.parts in
    let owners : Bytes = D.owners in
    let st : Bytes = D.stencil in
    let S : Split = split_in D in
    let a = split_parted m parts owners (i ∷ []) st (size_tests D) e in
    let b = map_facts m parts owners (i ∷ []) (split_fine m parts owners (i ∷ []) st a.0).map in
    omega (
      arith,
      order_length S i,
      exports_few m owners st parts i b.few b.owner_in,
      local_held S (split_reach m parts owners st) (split_owner m parts owners st b.owner_in) (split_own m parts owners st) i,
    )

-- `split::maps::test_split` meets its contract. Assumes nothing.
use mathlib.Core.Path.{refl}
use Rattle.layout.proofs.AnswerLaws.{exit_number, exit_some}
use Rattle.split.proofs.MapLaws.{split_mesh, split_map, split_part, split_other, split_share, split_stencil, split_passed}
use Rattle.split.proofs.maps.test_split.Goals as goal

pub returns-in_err-test_mesh_in : goal.returns-in_err-test_mesh_in
returns-in_err-test_mesh_in c = exit_number _ _ _ c.from_residual.ensures.1 (split_mesh _ _ _ _ _ _ _ c.in_err-test_mesh_in.ensures (exit_some _ _ refl))

pub returns-then-bad_map : goal.returns-then-bad_map
returns-then-bad_map c = search (split_map c.args.m.now c.args.parts c.args.owners.now c.args.i c.args.j c.args.stencil.now 0 c.in_ok-test_mesh_in.ensures refl)

pub returns-then-not-is_part : goal.returns-then-not-is_part
returns-then-not-is_part c = search (split_part c.args.m.now c.args.parts c.args.owners.now c.args.i c.args.j c.args.stencil.now 0 c.in_ok-test_mesh_in.ensures refl)

pub returns-then-not-is_part-2 : goal.returns-then-not-is_part-2
returns-then-not-is_part-2 c = search (split_other c.args.m.now c.args.parts c.args.owners.now c.args.i c.args.j c.args.stencil.now 0 c.in_ok-test_mesh_in.ensures refl)

pub returns-then-bad_shares : goal.returns-then-bad_shares
returns-then-bad_shares c = search (split_share c.args.m.now c.args.parts c.args.owners.now c.args.i c.args.j c.args.stencil.now 0 c.in_ok-test_mesh_in.ensures refl)

pub returns-then-bad_stencil : goal.returns-then-bad_stencil
returns-then-bad_stencil c = search (split_stencil c.args.m.now c.args.parts c.args.owners.now c.args.i c.args.j c.args.stencil.now 0 c.in_ok-test_mesh_in.ensures refl)

pub returns : goal.returns
returns c = search (split_passed c.args.m.now c.args.parts c.args.owners.now c.args.i c.args.j c.args.stencil.now 0 c.in_ok-test_mesh_in.ensures refl)

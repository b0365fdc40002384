-- `split_lists::lists::list` meets its contract. Assumes nothing.
use mathlib.Core.Path.{refl, sym, ◌∙◌}
use Prim.Native.Nat.{ℕ}
use native.Mathlib.Omega.{arith}
use lib.ListN.{length-replicate}
use lib.Seq.{length-take-le}
use Rattle.vocabulary.proofs.ListLaws.{zeros}
use Rattle.layout.specs.Limits.{element_places, most_elements, record_places}
use Rattle.layout.proofs.AnswerLaws.{exit_answer, exit_some}
use Rattle.mesh.proofs.AcceptedLaws.{cells_few}
use Rattle.split_wanted.proofs.ListedLaws.{added_cells, added_range}
use Rattle.split_lists.proofs.CallLaws.{number_found, facts, refused_split, refused_sizes, give_fits, give_list}
use borrow.Author.Rules.{rules}
use Rattle.split_lists.proofs.lists.list.Goals as goal

pub test_split-requires : goal.test_split-requires
test_split-requires c = (omega (arith, length-replicate {A = ℕ} record_places 0), zeros element_places)

pub returns-in_err-test_split : goal.returns-in_err-test_split
returns-in_err-test_split c =
    let wanted = c.args.wanted in
    let number = number_found _ _ _ _ _ wanted _ _ c.other_of.ensures c.in_err-test_split.ensures in
    let told = refused_split _ _ _ _ _ wanted _ _ number (exit_some _ _ refl) in
    (exit_answer _ _ _ c.from_residual.ensures.1 refl ∙ told.0, told.1)

pub prepare-requires : goal.prepare-requires
prepare-requires c =
    let wanted = c.args.wanted in
    let number = number_found _ _ _ _ _ wanted _ _ c.other_of.ensures c.in_ok-test_split.ensures in
    let passed = sym number in
    let f = facts _ _ _ _ _ wanted passed in
    (f.mesh, f.map, f.stencil, refl, refl)

pub returns-in_err-prepare : goal.returns-in_err-prepare
returns-in_err-prepare c =
    let wanted = c.args.wanted in
    let number = number_found _ _ _ _ _ wanted _ _ c.other_of.ensures c.in_ok-test_split.ensures in
    let told = refused_sizes _ _ _ _ _ wanted _ (sym number) _ c.in_err-prepare.ensures.0 (exit_some _ _ refl) in
    (exit_answer _ _ _ c.from_residual-in_err-prepare.ensures.1 refl ∙ told.0, told.1)

pub classify-requires : goal.classify-requires
classify-requires c =
    let wanted = c.args.wanted in
    let number = number_found _ _ _ _ _ wanted _ _ c.other_of.ensures c.in_ok-test_split.ensures in
    let passed = sym number in (
      cells_few _ _ (facts _ _ _ _ _ wanted passed).mesh c.cell_count.ensures.0,
      omega (arith, length-replicate {A = ℕ} most_elements 0),
    )

pub cell_words-n-requires : goal.cell_words-n-requires
cell_words-n-requires c =
    let wanted = c.args.wanted in
    let number = number_found _ _ _ _ _ wanted _ _ c.other_of.ensures c.in_ok-test_split.ensures in
    let passed = sym number in
    let f = facts _ _ _ _ _ wanted passed in
    (f.mesh, f.few, f.i_in.1, f.j_in.1)

pub classify_lowers-requires : goal.classify_lowers-requires
classify_lowers-requires c = (rw c.view.ensures c.in_ok-prepare.ensures.2.inverted, refl)

pub add_range-n-requires : goal.add_range-n-requires
add_range-n-requires c =
    let wanted = c.args.wanted in
    let number = number_found _ _ _ _ _ wanted _ _ c.other_of.ensures c.in_ok-test_split.ensures in
    let passed = sym number in
    (facts _ _ _ _ _ wanted passed).mesh

pub give-requires : goal.give-requires
give-requires c =
    let wanted = c.args.wanted in
    let number = number_found _ _ _ _ _ wanted _ _ c.other_of.ensures c.in_ok-test_split.ensures in
    let passed = sym number in
    let told = c.in_ok-prepare.ensures in
    let added = added_range wanted _ _ _ _ _ _ _ _ (sym c.range_wanted.ensures ∙ c.in-Some.is) _ c.classify_lowers.ensures c.add_range-n.ensures in
    let fits =
    give_fits _ _ _ _ _ wanted c.args.out.now passed (sym told.0) _ _ _ told.1 _
    c.cell_count.ensures.0 _ _ c.row_of.ensures c.classify.ensures _ _ _ added
    (omega (arith, length-replicate {A = ℕ} element_places 0)) in
    omega (arith, fits.0, fits.1, length-take-le c.add_range-n.result c.add_range-n.new.list fits.0)

pub shared_ref_as_front-give : goal.shared_ref_as_front-give
shared_ref_as_front-give c =
    let wanted = c.args.wanted in
    let number = number_found _ _ _ _ _ wanted _ _ c.other_of.ensures c.in_ok-test_split.ensures in
    let passed = sym number in
    let told = c.in_ok-prepare.ensures in
    let added = added_range wanted _ _ _ _ _ _ _ _ (sym c.range_wanted.ensures ∙ c.in-Some.is) _ c.classify_lowers.ensures c.add_range-n.ensures in
    let fits =
    give_fits _ _ _ _ _ wanted c.args.out.now passed (sym told.0) _ _ _ told.1 _
    c.cell_count.ensures.0 _ _ c.row_of.ensures c.classify.ensures _ _ _ added
    (omega (arith, length-replicate {A = ℕ} element_places 0)) in
    search (rules, fits)

pub slice_bounds-give-end : goal.slice_bounds-give-end
slice_bounds-give-end c =
    let wanted = c.args.wanted in
    let number = number_found _ _ _ _ _ wanted _ _ c.other_of.ensures c.in_ok-test_split.ensures in
    let passed = sym number in
    let told = c.in_ok-prepare.ensures in
    let added = added_range wanted _ _ _ _ _ _ _ _ (sym c.range_wanted.ensures ∙ c.in-Some.is) _ c.classify_lowers.ensures c.add_range-n.ensures in
    let fits =
    give_fits _ _ _ _ _ wanted c.args.out.now passed (sym told.0) _ _ _ told.1 _
    c.cell_count.ensures.0 _ _ c.row_of.ensures c.classify.ensures _ _ _ added
    (omega (arith, length-replicate {A = ℕ} element_places 0)) in
    search (rules, fits)

pub returns-in-Some : goal.returns-in-Some
returns-in-Some c =
    let wanted = c.args.wanted in
    let number = number_found _ _ _ _ _ wanted _ _ c.other_of.ensures c.in_ok-test_split.ensures in
    let passed = sym number in
    let told = c.in_ok-prepare.ensures in
    let added = added_range wanted _ _ _ _ _ _ _ _ (sym c.range_wanted.ensures ∙ c.in-Some.is) _ c.classify_lowers.ensures c.add_range-n.ensures in
    give_list _ _ _ _ _ wanted c.args.out.now passed (sym told.0) _ _ _ told.1 _
    c.cell_count.ensures.0 _ _ c.row_of.ensures c.classify.ensures _ _ _ added
    (omega (arith, length-replicate {A = ℕ} element_places 0)) _ _
    c.give.ensures

pub give-requires-2 : goal.give-requires-2
give-requires-2 c =
    let wanted = c.args.wanted in
    let number = number_found _ _ _ _ _ wanted _ _ c.other_of.ensures c.in_ok-test_split.ensures in
    let passed = sym number in
    let told = c.in_ok-prepare.ensures in
    let added = added_cells wanted _ _ _ _ _ _ _ _ (sym c.range_wanted.ensures ∙ c.in_default.is) c.cell_words-n.ensures in
    let fits =
    give_fits _ _ _ _ _ wanted c.args.out.now passed (sym told.0) _ _ _ told.1 _
    c.cell_count.ensures.0 _ _ c.row_of.ensures c.classify.ensures _ _ _ added
    (omega (arith, length-replicate {A = ℕ} element_places 0)) in
    omega (arith, fits.0, fits.1, length-take-le c.cell_words-n.result c.cell_words-n.new.list fits.0)

pub shared_ref_as_front-give-2 : goal.shared_ref_as_front-give-2
shared_ref_as_front-give-2 c =
    let wanted = c.args.wanted in
    let number = number_found _ _ _ _ _ wanted _ _ c.other_of.ensures c.in_ok-test_split.ensures in
    let passed = sym number in
    let told = c.in_ok-prepare.ensures in
    let added = added_cells wanted _ _ _ _ _ _ _ _ (sym c.range_wanted.ensures ∙ c.in_default.is) c.cell_words-n.ensures in
    let fits =
    give_fits _ _ _ _ _ wanted c.args.out.now passed (sym told.0) _ _ _ told.1 _
    c.cell_count.ensures.0 _ _ c.row_of.ensures c.classify.ensures _ _ _ added
    (omega (arith, length-replicate {A = ℕ} element_places 0)) in
    search (rules, fits)

pub slice_bounds-give-end-2 : goal.slice_bounds-give-end-2
slice_bounds-give-end-2 c =
    let wanted = c.args.wanted in
    let number = number_found _ _ _ _ _ wanted _ _ c.other_of.ensures c.in_ok-test_split.ensures in
    let passed = sym number in
    let told = c.in_ok-prepare.ensures in
    let added = added_cells wanted _ _ _ _ _ _ _ _ (sym c.range_wanted.ensures ∙ c.in_default.is) c.cell_words-n.ensures in
    let fits =
    give_fits _ _ _ _ _ wanted c.args.out.now passed (sym told.0) _ _ _ told.1 _
    c.cell_count.ensures.0 _ _ c.row_of.ensures c.classify.ensures _ _ _ added
    (omega (arith, length-replicate {A = ℕ} element_places 0)) in
    search (rules, fits)

pub returns : goal.returns
returns c =
    let wanted = c.args.wanted in
    let number = number_found _ _ _ _ _ wanted _ _ c.other_of.ensures c.in_ok-test_split.ensures in
    let passed = sym number in
    let told = c.in_ok-prepare.ensures in
    let added = added_cells wanted _ _ _ _ _ _ _ _ (sym c.range_wanted.ensures ∙ c.in_default.is) c.cell_words-n.ensures in
    give_list _ _ _ _ _ wanted c.args.out.now passed (sym told.0) _ _ _ told.1 _
    c.cell_count.ensures.0 _ _ c.row_of.ensures c.classify.ensures _ _ _ added
    (omega (arith, length-replicate {A = ℕ} element_places 0)) _ _
    c.give-2.ensures

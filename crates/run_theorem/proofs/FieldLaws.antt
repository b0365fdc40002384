-- The equality of fields by their values (F-2): of accepted fields it is that of their bytes, and a gap is equal to a gap alone. Assumes nothing.
use Rattle.std.specs.Prelude.{◌≡◌, ◌↔◌, false, ℕ, ◌+◌, ◌*◌, ◌<◌, length}
use Rattle.std.proofs.Common.{sym, ap, ◌∙◌, subst, arith}
use Rattle.vocabulary.specs.Bytes.{Bytes}
use Rattle.vocabulary.specs.Lists.{All}
use Rattle.vocabulary.proofs.ListLaws.{All_get_or}
use Rattle.depths.specs.Depths.{four, gap_bytes, value_from, value_of, value_bytes, Within}
use Rattle.depths.proofs.DepthLaws.{four_whole, fours_same, gap_alone, value_bytes_lem, value_back}
use Rattle.depths.specs.declared.Value.TheVariants.{Gap}
use Rattle.mesh.specs.Mesh.{cell_count}
use Rattle.round.specs.Rounds.{bad14, scheme_of}
use Rattle.round.proofs.RoundLaws.{field_length, undivided_good}
use Rattle.part_start_plan.specs.Start.{Inputs}
use Rattle.run_theorem.specs.Run.{Run, collects_of, Gathered, SameField, FieldEquality}
use Rattle.run_theorem.proofs.DemandLaws.{inputs, run_theorem}

-- bytes that are there are those of the value that they stand for
value_there : (b : Bytes) (o : ℕ) → o + 3 < length b → All (λ x. x < 256) b → value_bytes (value_from b o) ≡ four b o
value_there b o h a = value_bytes_lem b o (λ k l. All_get_or (λ x. x < 256) b (o + k) 0 a (omega arith))

-- equal values at all cells are equal bytes
field_bytes : (n : ℕ) (f g : Bytes) → length f ≡ 4 * n → length g ≡ 4 * n → All (λ x. x < 256) f → All (λ x. x < 256) g → SameField n f g → f ≡ g
unfolding SameField
field_bytes n f g p q a c e =
    fours_same n f g p q (λ k h. sym (value_there f (4 * k) (omega arith) a) ∙ ap value_bytes (e k h) ∙ value_there g (4 * k) (omega arith) c)

bytes_field : (n : ℕ) (f g : Bytes) → f ≡ g → SameField n f g
unfolding SameField
bytes_field n f g e k h = ap (λ b. value_from b (4 * k)) e

-- a gap, by its bytes
gap_bytes_lem : (x : Bytes) → length x ≡ 4 → All (λ y. y < 256) x → (value_of x ≡ Gap) ↔ (x ≡ gap_bytes)
unfolding value_bytes Within
gap_bytes_lem x l a = (
  λ e. sym (four_whole x l) ∙ sym (value_there x 0 (omega arith) a) ∙ ap value_bytes e,
  λ e. ap (λ y. value_of y) e ∙ value_back 0 (omega arith) Gap tt,
)

-- a gathered field is the undivided one, and every round leaves an accepted field
gathered_accepted : (I : Inputs) (r : Run I) (k : ℕ) (G : Bytes) → Gathered I (collects_of r) k G → bad14 (cell_count I.split.mesh) G ≡ false
unfolding scheme_of
gathered_accepted I r k G v =
    subst (λ f. bad14 (cell_count I.split.mesh) f ≡ false) (sym (run_theorem.whole_field I r k G v))
    (undivided_good I.split.mesh I.split.stencil I.rule.kind I.rule.weights I.field k (inputs I r).field_good)

pub field_equality : FieldEquality
field_equality = record {
  gathered_accepted = gathered_accepted;
  same_bytes = λ n f g p q a c. (field_bytes n f g (field_length n f p) (field_length n g q) a c, bytes_field n f g);
  gap_bytes_is = gap_bytes_lem;
  gap_alone = gap_alone;
}

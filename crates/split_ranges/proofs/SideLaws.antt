-- Classes of lower elements as the code tells them. Assumes nothing.
use mathlib.Core.Path.{◌≡◌, refl, sym, ap, ap₂, ◌∙◌}
use mathlib.Core.Bool.{Bool, true, false, not, cond}
use mathlib.Core.List.{List}
use Prim.Native.Nat.{ℕ, ◌-◌, ◌<◌}
use native.Mathlib.Omega.{arith}
use lib.Dec.{eqb, leb, ltb}
use borrow.Author.Tests.{eq-eqb, ne_eqb}
use lib.ListN.{length}
use Rattle.std.specs.Bool.{MatchBool}
use Rattle.std.specs.List.{AllWithin, HoldsAt}
use Rattle.vocabulary.specs.Bytes.{Bytes, byte_at}
use Rattle.vocabulary.proofs.ListLaws.{some_of_has, some_of_none, All_intro}
use Rattle.walk_incidence.specs.declared.inner.Incidence.{Incidence}
use Rattle.walk_incidence.specs.Links.{cells_on}
use Rattle.split_classes.specs.Classes.{held_one}
use Rattle.split_ranges.specs.declared.inner.Side.{Side}
use Rattle.split_ranges.specs.declared.inner.Side.TheVariants.{Mine, Anothers, Held, HeldByAnother}
use Rattle.split_ranges.specs.Lowers.{side_at, some_side, lower_class, trail_class}

-- ---- one cell

module _ (class : Bytes) (q x : ℕ) (e : x ≡ byte_at class q) where
  pub one_none : x ≡ 0 → 0 ≡ held_one class q
  unfolding held_one
  one_none h = sym (ap (λ b. cond b 0 1) (eq-eqb (byte_at class q) 0 (sym e ∙ h)))

  pub one_held : (x ≡ 0 → ⊥) → 1 ≡ held_one class q
  unfolding held_one
  one_held h = sym (ap (λ b. cond b 0 1) (ne_eqb (byte_at class q) 0 (λ z. h (e ∙ z))))

module _ (class holders : Bytes) (q : ℕ) (side : Side) (x : ℕ) where
  pub side_mine : side ≡ Mine → x ≡ byte_at class q → leb 17 x ≡ side_at side class holders q
  unfolding side_at
  side_mine s e = rw s (ap (leb 17) e)

  pub side_anothers : side ≡ Anothers → x ≡ byte_at class q → ltb x 17 ≡ side_at side class holders q
  unfolding side_at
  side_anothers s e = rw s (ap (λ y. ltb y 17) e)

  pub side_held : side ≡ Held → x ≡ byte_at class q → not (eqb x 0) ≡ side_at side class holders q
  unfolding side_at
  side_held s e = rw s (ap (λ y. not (eqb y 0)) e)

  pub side_elsewhere : (y : ℕ) → side ≡ HeldByAnother → x ≡ held_one class q → y ≡ byte_at holders q → ltb x y ≡ side_at side class holders q
  unfolding side_at
  side_elsewhere y s e f = rw s (ap₂ ltb e f)

-- ---- the cells at an element

-- what an `any` over them answers
pub any_side : (r : Bool) (cells : List ℕ) (first : ℕ) (side : Side) (class holders : Bytes)
    → MatchBool r ((k : ℕ) × (k < length cells) × HoldsAt (λ y. side_at side class holders (y - first) ≡ true) cells k)
    (AllWithin (λ y. side_at side class holders (y - first) ≡ false) cells 0 (length cells))
    → r ≡ some_side cells first side class holders
unfolding some_side
any_side true cells first side class holders w = sym (some_of_has (λ y. side_at side class holders (y - first)) cells 0 w.0 w.1 (w.2 0))
any_side false cells first side class holders w =
    sym (some_of_none (λ y. side_at side class holders (y - first)) cells (All_intro _ cells 0 (λ l h. w l 0 (omega arith) h)))

-- ---- classes, by the last answer y

module _ (y : Bool) (w : Incidence) (first : ℕ) (class holders : Bytes) (e : ℕ) (a : Bool)
    (ae : a ≡ some_side (cells_on w e) first Mine class holders) (b : Bool) where
  abbrev told : Side → Bool
  told side = some_side (cells_on w e) first side class holders

  range_class_is : trail_class w first class holders e ≡ cond (told Mine) (cond (told Anothers) 3 (cond (told HeldByAnother) 2 1)) (cond (told Held) 4 0)
  unfolding trail_class lower_class
  range_class_is = refl

  pub is_shared : a ≡ true → b ≡ some_side (cells_on w e) first Anothers class holders → b ≡ true → 3 ≡ trail_class w first class holders e
  is_shared at be bt = sym (range_class_is ∙ ap₂ (λ x z. cond x (cond z 3 (cond (told HeldByAnother) 2 1)) (cond (told Held) 4 0)) (sym ae ∙ at) (sym be ∙ bt))

  pub is_alone : (c : Bool) → a ≡ true → b ≡ some_side (cells_on w e) first Anothers class holders → b ≡ false
      → c ≡ some_side (cells_on w e) first HeldByAnother class holders
      → c ≡ y → cond y 2 1 ≡ trail_class w first class holders e
  is_alone c at be bf ce ct =
      sym (range_class_is ∙ ap₂ (λ x z. cond x (cond z 3 (cond (told HeldByAnother) 2 1)) (cond (told Held) 4 0)) (sym ae ∙ at) (sym be ∙ bf) ∙ ap (λ x. cond x 2 1) (sym ce ∙ ct))

  pub is_theirs : a ≡ false → b ≡ some_side (cells_on w e) first Held class holders → b ≡ y → cond y 4 0 ≡ trail_class w first class holders e
  is_theirs af be bt = sym (range_class_is ∙ ap₂ (λ x z. cond x (cond (told Anothers) 3 (cond (told HeldByAnother) 2 1)) (cond z 4 0)) (sym ae ∙ af) (sym be ∙ bt))

-- An answer packed is that of the call, and its two halves give the number and the count back. Assumes nothing.
use mathlib.Core.Path.{◌≡◌, refl, sym, ap, ◌∙◌, subst}
use mathlib.Core.Bool.{Bool, true, false, cond}
use Prim.Native.Nat.{ℕ, ◌+◌, ◌*◌, ◌/◌, ◌%◌, ◌<◌}
use native.Mathlib.Omega.{arith}
use lib.Dec.{eqb}
use borrow.Author.Tests.{eqb-true}
use Rattle.std.specs.Prelude.{Result, Ok, Err, MatchResult}
use Rattle.layout.specs.Answers.{Answer, Done, Refused, answer, answer_of, number_of, count_of, refusal_number}
use Rattle.layout.specs.declared.refusal.Refusal.{Refusal}
use Rattle.c_answer.specs.Packed.{packed}

-- ---- as the code answers, of a refusal of any type E: C says of it which number it gives

module _ {E : Type 0} (C : E → ℕ → Type 0) where
  abbrev Packs : ℕ → Result ℕ E → Type 0
  Packs n r = MatchResult r (λ count. n ≡ packed (Done count)) (λ refusal. (number : ℕ) × C refusal number × (n ≡ packed (Refused number)))

  pub packs_done : (r : Result ℕ E) (n : ℕ) {count : ℕ} → r ≡ Ok count → n ≡ count → Packs n r
  unfolding packed
  packs_done r n {count = count} e q =
      let z : count ≡ 0 * 4294967296 + count = omega arith in
      subst (λ x. Packs n x) (sym e) (q ∙ z)

  pub packs_refused : (r : Result ℕ E) {refusal : E} → r ≡ Err refusal → (number : ℕ) → C refusal number → (n : ℕ) → n ≡ number → Packs (n * 4294967296) r
  unfolding packed
  packs_refused r e number c n q =
      let z : n * 4294967296 ≡ number * 4294967296 + 0 = omega (arith, q) in
      subst (λ x. Packs (n * 4294967296) x) (sym e) (number, c, z)

pub packed_as : (r : ℕ) (a x : Answer) → r ≡ packed a → a ≡ x → r ≡ packed x
packed_as r a x e q = e ∙ ap packed q

-- ---- of a call of the engine, whose refusals have the numbers of document 01

abbrev Numbered : Refusal → ℕ → Type 0
Numbered refusal number = number ≡ refusal_number refusal

pub packs_as : (r : ℕ) (a : Result ℕ Refusal) (x : Answer) → Packs Numbered r a → answer_of a ≡ x → r ≡ packed x
packs_as r (Ok count) x e q = packed_as r (Done count) x e q
packs_as r (Err refusal) x e q = packed_as r (Refused (refusal_number refusal)) x (e.2 ∙ ap (λ number. packed (Refused number)) e.1) q

module _ (r : Result ℕ Refusal) (n : ℕ) where
  pub packed_done : {count : ℕ} → r ≡ Ok count → n ≡ count → n ≡ packed (answer_of r)
  packed_done e q = packs_as n r (answer_of r) (packs_done Numbered r n e q) refl

  pub packed_refused : {refusal : Refusal} → r ≡ Err refusal → n ≡ refusal_number refusal → n * 4294967296 ≡ packed (answer_of r)
  packed_refused {refusal = refusal} e q = packs_as (n * 4294967296) r (answer_of r) (packs_refused Numbered r e (refusal_number refusal) refl n q) refl

-- ---- the two halves, for a count of 32 bits

halves : (n c : ℕ) → c < 4294967296 → ((n * 4294967296 + c) / 4294967296 ≡ n) × ((n * 4294967296 + c) % 4294967296 ≡ c)
halves n c h = (omega arith, omega arith)

module _ (a : Answer) (h : count_of a < 4294967296) where
  pub packed_number : packed a / 4294967296 ≡ number_of a
  unfolding packed
  packed_number = (halves (number_of a) (count_of a) h).0

  pub packed_count : packed a % 4294967296 ≡ count_of a
  unfolding packed
  packed_count = (halves (number_of a) (count_of a) h).1

-- of a call whose number is n: n, and the count where it is accepted, zero where it is refused
pub packed_answer : (n count : ℕ) → count < 4294967296
    → (packed (answer n count) / 4294967296 ≡ n) × (packed (answer n count) % 4294967296 ≡ cond (eqb n 0) count 0)
unfolding answer packed
packed_answer n count h = go (eqb n 0) refl
  where
    go : (t : Bool) → eqb n 0 ≡ t → (packed (cond t (Done count) (Refused n)) / 4294967296 ≡ n) × (packed (cond t (Done count) (Refused n)) % 4294967296 ≡ cond t count 0)
    go true e = let r = halves 0 count h in (r.0 ∙ sym (eqb-true n 0 e), r.1)
    go false e = halves n 0 (omega arith)

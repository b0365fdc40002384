-- Laws of answers: the number and the count that an answer gives, and what a `?` gives back. Assumes nothing.
use Rattle.std.specs.Prelude.{◌≡◌, ◌≤◌, refl, Bool, true, false, cond, ℕ, eqb, Result, Ok, Err}
use Rattle.std.specs.Result.{IsErrAnd}
use Rattle.std.proofs.Common.{sym, ap, ◌∙◌, eqb-true, eq-eqb, ne_eqb, arith}
use Rattle.vocabulary.specs.Bytes.{Bytes}
use Rattle.layout.specs.declared.refusal.Refusal.{Refusal}
use Rattle.layout.specs.declared.refusal.Refusal.TheVariants.{MeshHead, Counts, MeshLength, Record, ChainElement, Closure, Uncovered, PartMap, EmptyPart, Stencil, Rule, Held, Reach, Field, Message}
use Rattle.layout.specs.declared.refusal.Refusal.TheVariants.{Output, State, Sender, MessageRound, AlreadyTaken, NotTaken, NotWritten, LastRound, Receiver, OtherRound, PointReach}
use Rattle.layout.specs.Answers.{Done, Refused, answer, answer_of, number_of, count_of, refusal_number, refused_as}

pub answer_number : (n c : ℕ) → number_of (answer n c) ≡ n
unfolding answer
answer_number n c = go (eqb n 0) refl
  where
    go : (b : Bool) → eqb n 0 ≡ b → number_of (cond b (Done c) (Refused n)) ≡ n
    go true e = sym (eqb-true n 0 e)
    go false e = refl

pub answer_count : (n c : ℕ) → count_of (answer n c) ≡ cond (eqb n 0) c 0
unfolding answer
answer_count n c = go (eqb n 0)
  where
    go : (b : Bool) → count_of (cond b (Done c) (Refused n)) ≡ cond b c 0
    go true = refl
    go false = refl

-- every refusal has a number that is not 0
refusal_some : (r : Refusal) → 1 ≤ refusal_number r
refusal_some MeshHead = omega arith
refusal_some Counts = omega arith
refusal_some MeshLength = omega arith
refusal_some Record = omega arith
refusal_some ChainElement = omega arith
refusal_some Closure = omega arith
refusal_some Uncovered = omega arith
refusal_some PartMap = omega arith
refusal_some EmptyPart = omega arith
refusal_some Stencil = omega arith
refusal_some Rule = omega arith
refusal_some Held = omega arith
refusal_some Reach = omega arith
refusal_some Field = omega arith
refusal_some Message = omega arith
refusal_some Output = omega arith
refusal_some State = omega arith
refusal_some Sender = omega arith
refusal_some MessageRound = omega arith
refusal_some AlreadyTaken = omega arith
refusal_some NotTaken = omega arith
refusal_some NotWritten = omega arith
refusal_some LastRound = omega arith
refusal_some Receiver = omega arith
refusal_some OtherRound = omega arith
refusal_some PointReach = omega arith

-- ---- at a `?`: what it gives back, and what holds after it

-- the refusal that it gives back has the number of the test's
pub exit_number : {T : Type 0} (e : Refusal) (r : Result T Refusal) (n : ℕ) → IsErrAnd r (λ x. x ≡ e) → refusal_number e ≡ n → refused_as r ≡ n
exit_number e (Ok x) n h q = absurd h
exit_number e (Err x) n h q = ap refusal_number h ∙ q

pub exit_answer : (e : Refusal) (r : Result ℕ Refusal) (n : ℕ) → IsErrAnd r (λ x. x ≡ e) → refusal_number e ≡ n → answer_of r ≡ Refused n
exit_answer e (Ok x) n h q = absurd h
exit_answer e (Err x) n h q = ap (λ y. Refused (refusal_number y)) h ∙ ap Refused q

pub exit_some : (e : Refusal) (n : ℕ) → refusal_number e ≡ n → n ≡ 0 → ⊥
exit_some e n q z = let h = refusal_some e in omega (arith, h, q, z)

-- as the code answers
pub answer_done : (n c : ℕ) → n ≡ 0 → Done c ≡ answer n c
unfolding answer
answer_done n c e = simp (eq-eqb n 0 e)

pub answer_refused : (n c : ℕ) → (n ≡ 0 → ⊥) → Refused n ≡ answer n c
unfolding answer
answer_refused n c h = simp (ne_eqb n 0 h)

-- a call of number n that leaves `new` in a buffer where it is accepted, and `old` where it is refused
module _ (n c : ℕ) (new old : Bytes) where
  pub refuses : (k : ℕ) → n ≡ k → (k ≡ 0 → ⊥) → (Refused k ≡ answer n c) × (old ≡ cond (eqb n 0) new old)
  refuses k e h = (answer_refused k c h ∙ ap (λ m. answer m c) (sym e), simp (e, ne_eqb k 0 h))

  pub accepts : n ≡ 0 → (Done c ≡ answer n c) × (new ≡ cond (eqb n 0) new old)
  accepts e = (answer_done n c e, simp e)

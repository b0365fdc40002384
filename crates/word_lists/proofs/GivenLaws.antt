-- A list given, by its last test. Assumes nothing.
use mathlib.Core.Path.{◌≡◌, sym, ap, ◌∙◌}
use mathlib.Core.Bool.{cond}
use mathlib.Core.List.{List}
use Prim.Native.Nat.{ℕ, ◌*◌, ◌≤◌, ◌<◌}
use lib.Dec.{eqb}
use lib.ListN.{length}
use borrow.Author.Tests.{lt-ltb, le-ltb}
use Rattle.vocabulary.specs.Bytes.{over}
use Rattle.layout.specs.Words.{bytes_of}
use Rattle.layout.specs.Answers.{answer}
use Rattle.layout.specs.Answers.{Done, Refused}
use Rattle.word_lists.specs.Putting.{Put, given_number, given_answer, given_out}

module _ (list out : List ℕ) where
  short : length out < 2 * length list → given_number list out ≡ 16
  unfolding given_number
  short h = ap (λ b. cond b 16 0) (lt-ltb (length out) (2 * length list) h)

  long : 2 * length list ≤ length out → given_number list out ≡ 0
  unfolding given_number
  long h = ap (λ b. cond b 16 0) (le-ltb (length out) (2 * length list) h)

  pub give_refused : length out < 2 * length list → Refused 16 ≡ given_answer list out
  unfolding given_answer answer
  give_refused h = sym (ap (λ k. cond (eqb k 0) (Done (length list)) (Refused k)) (short h))

  pub give_stays : length out < 2 * length list → out ≡ given_out list out
  unfolding given_out
  give_stays h = sym (ap (λ k. cond (eqb k 0) (over out 0 (bytes_of list)) out) (short h))

  pub give_done : 2 * length list ≤ length out → Done (length list) ≡ given_answer list out
  unfolding given_answer answer
  give_done h = sym (ap (λ k. cond (eqb k 0) (Done (length list)) (Refused k)) (long h))

  pub give_written : (after : List ℕ) (t : ℕ) → 2 * length list ≤ length out → Put out after 0 t list → after ≡ given_out list out
  unfolding given_out
  give_written after t h P = P.text ∙ sym (ap (λ k. cond (eqb k 0) (over out 0 (bytes_of list)) out) (long h))

-- What was added to an empty list, given. Assumes nothing.
use mathlib.Core.Path.{◌≡◌, ap, ◌∙◌}
use mathlib.Core.List.{List}
use Prim.Native.Nat.{ℕ, ◌≤◌}
use lib.ListN.{length, take}
use Rattle.vocabulary.specs.Bytes.{Bytes}
use Rattle.layout.specs.Answers.{Answer}
use Rattle.layout.specs.Limits.{most_elements}
use Rattle.split_classes.specs.Classes.{Appended}
use Rattle.split_cells.proofs.AddLaws.{added_take}
use Rattle.word_lists.specs.Putting.{given_answer, given_out}

pub given_answer_lem : (a b : List ℕ) (n : ℕ) (ws : List ℕ) (out : Bytes) (r : Answer) → Appended a b 0 n ws → most_elements ≤ length a → length ws ≤ most_elements
    → r ≡ given_answer (take n b) out → r ≡ given_answer ws out
given_answer_lem a b n ws out r X l h e = e ∙ ap (λ xs. given_answer xs out) (added_take a b n ws X l h)

pub given_out_lem : (a b : List ℕ) (n : ℕ) (ws : List ℕ) (out after : Bytes) → Appended a b 0 n ws → most_elements ≤ length a → length ws ≤ most_elements → after ≡ given_out (take n b) out
    → after ≡ given_out ws out
given_out_lem a b n ws out after X l h e = e ∙ ap (λ xs. given_out xs out) (added_take a b n ws X l h)

-- How the code writes words one after another, and gives a list of them. No public contract rests on this page. Assumes nothing.
use Rattle.std.specs.Prelude.{◌≡◌, List, [], ◌∷◌, ℕ, ◌+◌, ◌*◌, ltb, length}
use Rattle.vocabulary.specs.Bytes.{Bytes, over}
use Rattle.vocabulary.specs.Tests.{refuse, first_of}
use Rattle.layout.specs.Words.{bytes_of}
use Rattle.layout.specs.Answers.{answer, if_accepted}
use Rattle.layout.specs.Answers.{Answer}

-- the words ws stand in b from word s on, which makes t of them, and nothing else has changed
pub record Put (before after : Bytes) (s t : ℕ) (ws : List ℕ) : Type 0 where
  pub count : t ≡ s + length ws
  pub text : after ≡ over before (2 * s) (bytes_of ws)

-- words given where there is room: 16, the last test, or their count; and the output
unfoldable pub given_number : List ℕ → Bytes → ℕ
given_number ws out = first_of (refuse 16 (ltb (length out) (2 * length ws)) ∷ [])

unfoldable pub given_answer : List ℕ → Bytes → Answer
given_answer ws out = answer (given_number ws out) (length ws)

unfoldable pub given_out : List ℕ → Bytes → Bytes
given_out ws out = if_accepted (given_number ws out) (over out 0 (bytes_of ws)) out

-- A text in a lent buffer, and the text of an input, piece by piece. Assumes nothing.
use Rattle.std.specs.Prelude.{◌≡◌, cond, [], ◌∷◌, ◌++◌, ℕ, ◌≤◌, eqb, length, take}
use Rattle.vocabulary.specs.Bytes.{Bytes}
use Rattle.vocabulary.specs.Tests.{first_of}
use Rattle.split.specs.Split.{split_of}
use Rattle.split.specs.Lists.{split_tests, size_tests, split_input}
use Rattle.list_text.specs.Listing.{ascii, line, split_text}
use Rattle.list_text.specs.Printing.{Printed}

-- room for the text of any input
abbrev pub text_room : ℕ
text_room = 700000

-- a text put into a buffer from its start on, of length t: the whole of it, where the buffer has that room
pub record Listed (before after : Bytes) (t : ℕ) (text : Bytes) : Type 0 where
  pub printed : Printed before after 0 t text
  pub inside : t ≤ length after
  pub whole : text_room ≤ length before → take t after ≡ text

-- ---- the text of the pieces of an input. No public contract rests on what follows.

unfoldable pub pieces_number : Bytes → ℕ → Bytes → Bytes → ℕ
pieces_number m parts owners st = first_of (split_tests (split_input m parts owners st) [] ++ size_tests (split_input m parts owners st))

unfoldable pub pieces_text : Bytes → ℕ → Bytes → Bytes → Bytes
pieces_text m parts owners st =
    cond (eqb (pieces_number m parts owners st) 0) (split_text m (split_of m parts owners st)) (line (ascii "refused") (pieces_number m parts owners st ∷ []))

-- Text put into a lent buffer. Assumes nothing.
use Rattle.std.specs.Prelude.{◌≡◌, List, ◌++◌, map, ℕ, ◌+◌, ◌-◌, length, take}
use Rattle.vocabulary.specs.Bytes.{Bytes, over}
use Rattle.vocabulary.specs.Lists.{joined}
use Rattle.list_text.specs.declared.inner.Printer.{Printer}
use Rattle.list_text.specs.Listing.{ascii, spaced}

-- what of a text has room from the place s on
unfoldable pub fitting : Bytes → ℕ → Bytes → Bytes
fitting b s text = take (length b - s) text

-- a buffer into which a text was put from the place s on, as far as there is room, and the place t after it
pub record Printed (before after : Bytes) (s t : ℕ) (text : Bytes) : Type 0 where
  pub size : length after ≡ length before
  pub end : t ≡ s + length (fitting before s text)
  pub bytes : after ≡ over before s (fitting before s text)

-- what a printer put into the buffer that it has, between two of its states
pub record Put (old new : Printer) (text : Bytes) : Type 0 where
  pub same : new.out.ghost_name ≡ old.out.ghost_name
  pub printed : Printed old.out.now new.out.now old.at new.at text

-- what stands after a line's label
unfoldable pub numbers : List ℕ → Bytes
numbers vs = joined (map spaced vs) ++ ascii "\n"

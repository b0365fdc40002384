-- What a caller learns where it tells the reader's results apart, and in the `else` of `let Ok(header) = read(x) else`: there the reader refused.
-- Assumes nothing.
use mathlib.Core.Path.{◌≡◌, ◌∙◌, sym, ap}
use mathlib.Core.Bool.{true}
use Rattle.std.specs.Prelude.{Result, Err}
use Rattle.vocabulary.specs.Bytes.{Bytes}
use Rattle.layout.specs.declared.refusal.Refusal.{Refusal}
use Rattle.messages.specs.Messages.{bad15, reading}
use Rattle.messages.specs.Readings.{meant_reading}
use Rattle.messages.specs.declared.Header.{Header}
use Rattle.messages.proofs.ReadingLaws.{refusal_told}

module _ (b : Bytes) where
  -- the result by its value
  pub meant_as : {x : Result Header Refusal} (r : Result Header Refusal) → meant_reading b r ≡ reading b → r ≡ x → meant_reading b x ≡ reading b
  meant_as r e o = sym (ap (meant_reading b) o) ∙ e

  pub else_bad : {m : Refusal} (r : Result Header Refusal) → meant_reading b r ≡ reading b → r ≡ Err m → bad15 b ≡ true
  else_bad {m = m} r e o = (refusal_told b m (meant_as r e o)).0

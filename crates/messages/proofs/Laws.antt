-- What the reader answers by the tests that it makes one after the other, and four words stored one after the other. Assumes nothing.
use mathlib.Core.Path.{◌≡◌, sym, ap, ◌∙◌}
use mathlib.Core.Bool.{Bool, true, false, not}
use mathlib.Core.List.{[], ◌∷◌}
use Prim.Native.Nat.{ℕ, ◌≤◌, ◌<◌}
use native.Mathlib.Omega.{arith}
use lib.ListN.{length}
use borrow.Author.Tests.{lt-ltb, le-ltb, eq-eqb, ne_eqb}
use Rattle.vocabulary.specs.Bytes.{Bytes, over}
use Rattle.vocabulary.specs.Intervals.{every}
use Rattle.vocabulary.proofs.ByteLaws.{over_more}
use Rattle.layout.specs.Words.{word_bytes, bytes_of}
use Rattle.depths.specs.Depths.{ranged_at}
use Rattle.messages.specs.Messages.{header_size, message_size, bad15, reading, count_in, from_in, to_in, round_in}
use Rattle.std.specs.Prelude.{Ok, Err}
use Rattle.layout.specs.declared.refusal.Refusal.TheVariants.{Message}
use Rattle.messages.specs.Readings.{IsHeader, meant_reading}
use Rattle.messages.specs.declared.Header.{Header}

-- ---- 15

module _ (b : Bytes) where
  pub too_short : length b < header_size → true ≡ bad15 b
  unfolding bad15
  too_short h = simp (lt-ltb _ _ h)

  module _ (n : ℕ) (h : header_size ≤ length b) (e : n ≡ count_in b) where
    pub other_length : (length b ≡ message_size n → ⊥) → true ≡ bad15 b
    unfolding bad15
    other_length k = simp (le-ltb _ _ h, sym e, ne_eqb _ _ k)

    pub ranged_depths : (t : Bool) → length b ≡ message_size n → t ≡ every 0 n (ranged_at b header_size) → not t ≡ bad15 b
    unfolding bad15
    ranged_depths t k r = simp (le-ltb _ _ h, sym e, eq-eqb _ _ k, sym r)

-- ---- the answer

module _ (b : Bytes) (t : Bool) (r : t ≡ bad15 b) where
  pub not_read : t ≡ true → meant_reading b (Err Message) ≡ reading b
  unfolding meant_reading reading
  not_read e = simp (sym r, e)

  pub is_read : (h : Header) → t ≡ false → IsHeader b h → meant_reading b (Ok h) ≡ reading b
  unfolding meant_reading reading
  is_read h e w = simp (sym r, e, sym w.0, sym w.1, sym w.2, sym w.3)

-- ---- the four words of a header

module _ (b x y z w : Bytes) (f g k n : ℕ) (h : header_size ≤ length b) where
  pub header_stores : x ≡ over b 0 (word_bytes f) → y ≡ over x 2 (word_bytes g) → z ≡ over y 4 (word_bytes k) → w ≡ over z 6 (word_bytes n)
      → w ≡ over b 0 (bytes_of (f ∷ g ∷ k ∷ n ∷ []))
  unfolding word_bytes bytes_of
  header_stores p q r s =
      let q' : y ≡ over b 0 (bytes_of (f ∷ g ∷ [])) = q ∙ ap (λ (c : Bytes). over c 2 (word_bytes g)) p ∙ over_more b 0 (word_bytes f) (omega arith) (word_bytes g) in
      let r' : z ≡ over b 0 (bytes_of (f ∷ g ∷ k ∷ [])) = r ∙ ap (λ (c : Bytes). over c 4 (word_bytes k)) q' ∙ over_more b 0 (bytes_of (f ∷ g ∷ [])) (omega arith) (word_bytes k) in
      s ∙ ap (λ (c : Bytes). over c 6 (word_bytes n)) r' ∙ over_more b 0 (bytes_of (f ∷ g ∷ k ∷ [])) (omega arith) (word_bytes n)

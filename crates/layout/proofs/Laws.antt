-- What the functions' needs ask: words past the end, stored words and copied bytes. Assumes nothing.
use mathlib.Core.Path.{◌≡◌, sym, ap, ◌∙◌}
use mathlib.Core.List.{[], ◌∷◌}
use Prim.Native.Nat.{ℕ, ◌+◌, ◌-◌, ◌*◌, ◌/◌, ◌%◌, ◌≤◌, ◌<◌}
use native.Mathlib.Omega.{arith}
use lib.ListN.{length, take, drop, length-drop}
use lib.Seq.{length-take-le}
use borrow.Rule.Slice.PartMut.{put_mid, mid_of}
use Rattle.std.proofs.Common.{w16}
use Rattle.std.specs.Int.{to_be_bytes}
use Rattle.vocabulary.specs.Bytes.{Bytes, byte_at, over}
use Rattle.vocabulary.proofs.ByteLaws.{byte_past, over_mid}
use Rattle.layout.specs.Words.{word, word_at, word_bytes}
use Rattle.layout.proofs.WordLaws.{word_at_none}

-- ---- words

pub word_here : (b : Bytes) (i r : ℕ) → r ≡ word b (2 * i) → r ≡ word_at b i
unfolding word_at
word_here b i r e = e

-- the low byte is past the end
pub word_half : (b : Bytes) (i h : ℕ) → length b / 2 ≤ i → h ≡ byte_at b (2 * i) → h * 256 ≡ word_at b i
unfolding word_at word
word_half b i h l e = omega (arith, byte_past b (2 * i + 1) (omega arith))

pub word_end : (b : Bytes) (i : ℕ) → length b ≤ i → 0 ≡ word_at b i
word_end b i h = sym (word_at_none b i (omega arith))

-- two stored bytes are one replacement
pub word_stored : (b : Bytes) (o v : ℕ) (ys : Bytes) → v < 65536 → ys ≡ to_be_bytes w16 v → put_mid o (o + 2 - o) b ys ≡ over b o (word_bytes v)
unfolding word_bytes
word_stored b o v ys h e =
    let q : v / 256 % 256 ≡ v / 256 = omega arith in
    over_mid b o (o + 2 - o) (word_bytes v) ys (e ∙ ap (λ x. x ∷ v % 256 ∷ []) q) (omega arith)

-- n bytes of src are copied
pub copied : (b src : Bytes) (at from n : ℕ) (ys : Bytes) → from + n ≤ length src → ys ≡ mid_of from (from + n - from) src → put_mid at (at + n - at) b ys ≡ over b at (take n (drop from src))
copied b src at from n ys h e =
    let same : from + n - from ≡ n = omega arith in
    let room : at + n - at ≡ n = omega arith in
    let there : n ≤ length (drop from src) = omega (arith, length-drop from src) in
    over_mid b at (at + n - at) (take n (drop from src)) ys (e ∙ ap (λ k. take k (drop from src)) same) (length-take-le n (drop from src) there ∙ sym room)

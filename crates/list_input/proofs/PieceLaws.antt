-- The input cut into its pieces, and what is printed for them. Assumes nothing.
use mathlib.Core.Path.{◌≡◌, sym, ap, ap₂, ◌∙◌, subst}
use mathlib.Core.Bool.{Bool, cond}
use mathlib.Core.List.{[], ◌∷◌}
use Prim.Native.Nat.{ℕ, ◌+◌, ◌-◌, ◌*◌, ◌≤◌, ◌<◌}
use lib.Dec.{eqb}
use lib.ListN.{length, take, drop}
use lib.Seq.{drop-drop}
use borrow.Author.Tests.{lt-ltb, le-ltb, eq-eqb, ne_eqb}
use Rattle.vocabulary.specs.Bytes.{Bytes, byte_at}
use Rattle.vocabulary.specs.Intervals.{blocks}
use Rattle.vocabulary.specs.Lists.{joined}
use Rattle.vocabulary.specs.Tests.{first_of}
use Rattle.vocabulary.proofs.TestLaws.{first_of_append}
use Rattle.mesh.specs.Mesh.{elements, record_count, cell_count, mesh_length}
use Rattle.split.specs.Split.{split_of}
use Rattle.split.specs.Lists.{split_tests, size_tests, split_number, sizes_number, split_input}
use Rattle.split.proofs.PassedLaws.{tests_are}
use Rattle.split.proofs.SplitLaws.{split_numbered}
use Rattle.list_text.specs.Listing.{ascii, line, split_text, mesh_piece, map_piece, parts_piece, owners_piece, last_piece, stencil_piece, listing_number, list_text}
use Rattle.list_text.specs.declared.inner.Printer.{Printer}
use Rattle.list_text.specs.Printing.{Put}
use Rattle.list_ranges.specs.Lines.{part_of}
use Rattle.list_input.specs.Pieces.{pieces_number, pieces_text}
use Rattle.list_text.proofs.PrintLaws.{put_both}

-- ---- cuts

pub mesh_length_told : (b : Bytes) (n r : ℕ) → n ≡ elements b → r ≡ record_count b → 2 * (6 + n + 2 * r) ≡ mesh_length b
unfolding mesh_length
mesh_length_told b n r e f = ap₂ (λ x y. 2 * (6 + x + 2 * y)) e f

module _ (b : Bytes) (p q : Printer) where
  pub too_long : 65536 < length b → Put p q (ascii "too long\n") → Put p q (list_text b)
  unfolding list_text line joined
  too_long h X = subst (Put p q) (sym (ap (λ c. cond c (line (ascii "too long") []) whole) (lt-ltb 65536 (length b) h))) X
    where
      whole : Bytes
      whole = cond (eqb (listing_number b) 0) (split_text (mesh_piece b) (split_of (mesh_piece b) (parts_piece b) (owners_piece b) (stencil_piece b))) (line (ascii "refused") (listing_number b ∷ []))

  pieces_are : length b ≤ 65536 → (map last : Bytes) → map ≡ drop (mesh_length b) b → last ≡ drop (cell_count b) (drop 1 map)
      → pieces_text (take (mesh_length b) b) (byte_at map 0) (take (cell_count b) (drop 1 map)) (cond (eqb (length (drop 1 last)) (byte_at last 0)) (drop 1 last) []) ≡ list_text b
  unfolding pieces_text pieces_number list_text listing_number mesh_piece map_piece parts_piece owners_piece last_piece stencil_piece
  pieces_are h map last ae le =
      rw (le, ae)
      (ap (λ (l : Bytes). pieces_text (take (mesh_length b) b) (byte_at (drop (mesh_length b) b) 0) (take (cell_count b) (drop 1 (drop (mesh_length b) b)))
      (cond (eqb (length (drop 1 l)) (byte_at l 0)) (drop 1 l) []))
      (drop-drop (cell_count b) 1 (drop (mesh_length b) b))
      ∙ sym (ap (λ c. cond c (line (ascii "too long") []) (pieces_text (mesh_piece b) (parts_piece b) (owners_piece b) (stencil_piece b))) (le-ltb 65536 (length b) h)))

  pub text_told : (l n parts : ℕ) (m map rest owners last st : Bytes) → length b ≤ 65536 → l ≡ mesh_length b → n ≡ cell_count b → m ≡ take l b → map ≡ drop l b → parts ≡ byte_at map 0
      → rest ≡ drop 1 map → owners ≡ take n rest → last ≡ drop n rest → st ≡ cond (eqb (length (drop 1 last)) (byte_at last 0)) (drop 1 last) []
      → Put p q (pieces_text m parts owners st) → Put p q (list_text b)
  text_told l n parts m map rest owners last st h lm nc me ae pe re oe le se X =
      subst (Put p q) (rw (me, pe, oe, se, lm, nc, re) (pieces_are h map last (rw (← lm) ae) (rw (← nc, ← re) le))) X

-- ---- the number

module _ (m : Bytes) (parts : ℕ) (owners st : Bytes) where
  number_is : pieces_number m parts owners st ≡ cond (eqb (split_number m parts owners (1 ∷ 1 ∷ []) st) 0) (sizes_number m parts owners st) (split_number m parts owners (1 ∷ 1 ∷ []) st)
  unfolding pieces_number split_number sizes_number
  number_is =
      first_of_append (split_tests (split_input m parts owners st) []) (size_tests (split_input m parts owners st)) (split_numbered m parts owners [] st)
      ∙ ap (λ ts. cond (eqb (first_of ts) 0) (first_of (size_tests (split_input m parts owners st))) (first_of ts)) (sym (tests_are m parts owners st))

  module _ (p q : Printer) where
    refused : (n : ℕ) → (n ≡ 0 → ⊥) → pieces_number m parts owners st ≡ n → Put p q (line (ascii "refused") (n ∷ [])) → Put p q (pieces_text m parts owners st)
    unfolding pieces_text
    refused n h e X =
        subst (Put p q)
        (sym (ap (λ x. cond (eqb x 0) (split_text m (split_of m parts owners st)) (line (ascii "refused") (x ∷ []))) e
        ∙ ap (λ (c : Bool). cond c (split_text m (split_of m parts owners st)) (line (ascii "refused") (n ∷ []))) (ne_eqb n 0 h))) X

    pub refused_split : (n : ℕ) → n ≡ split_number m parts owners (1 ∷ 1 ∷ []) st → (n ≡ 0 → ⊥) → Put p q (line (ascii "refused") (n ∷ [])) → Put p q (pieces_text m parts owners st)
    refused_split n e h X =
        refused n h (number_is ∙ ap₂ (λ c x. cond c (sizes_number m parts owners st) x) (ne_eqb (split_number m parts owners (1 ∷ 1 ∷ []) st) 0 (λ q. h (e ∙ q))) (sym e)) X

    module _ (z : split_number m parts owners (1 ∷ 1 ∷ []) st ≡ 0) where
      sizes_left : pieces_number m parts owners st ≡ sizes_number m parts owners st
      sizes_left = number_is ∙ ap (λ c. cond c (sizes_number m parts owners st) (split_number m parts owners (1 ∷ 1 ∷ []) st)) (eq-eqb (split_number m parts owners (1 ∷ 1 ∷ []) st) 0 z)

      pub refused_sizes : (n : ℕ) → n ≡ sizes_number m parts owners st → (n ≡ 0 → ⊥) → Put p q (line (ascii "refused") (n ∷ [])) → Put p q (pieces_text m parts owners st)
      refused_sizes n e h X = refused n h (sizes_left ∙ sym e) X

      pub passed_all : (n : ℕ) → n ≡ sizes_number m parts owners st → n ≡ 0 → Put p q (split_text m (split_of m parts owners st)) → Put p q (pieces_text m parts owners st)
      unfolding pieces_text
      passed_all n e h X =
          subst (Put p q)
          (sym (ap (λ (c : Bool). cond c (split_text m (split_of m parts owners st)) (line (ascii "refused") (pieces_number m parts owners st ∷ [])))
          (eq-eqb (pieces_number m parts owners st) 0 (sizes_left ∙ sym e ∙ h)))) X

  pub split_told : (p q r : Printer) → Put p q (line (ascii "parts") (parts ∷ [])) → Put q r (blocks 1 parts (part_of m parts owners st)) → Put p r (split_text m (split_of m parts owners st))
  unfolding split_text split_of part_of
  split_told p q r X Y = put_both p q r _ _ X Y

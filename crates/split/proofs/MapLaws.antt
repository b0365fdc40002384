-- What the tests 8 and 9 answer, by the tests that the code makes one after the other. Assumes nothing.
use mathlib.Core.Path.{◌≡◌, refl, sym, ap, ap₂, ◌∙◌}
use mathlib.Core.Bool.{Bool, true, false, not, ◌||◌, ◌&&◌, cond}
use mathlib.Core.List.{[], ◌∷◌}
use Prim.Native.Nat.{ℕ, zero, suc, ◌+◌, ◌-◌, ◌≤◌, ◌<◌}
use native.Mathlib.Nat.{zero-add}
use native.Mathlib.Omega.{arith}
use lib.Dec.{eqb, leb}
use lib.ListN.{length, get_or, set, length-set, replicate, length-replicate}
use lib.Seq.{get_or-set_same, get_or-set_other}
use borrow.Author.Tests.{le-leb, lt-leb, eq-eqb, ne_eqb, eqb-true, eqb-false, not-true, not-false}
use Rattle.vocabulary.specs.Bytes.{Bytes, byte_at}
use Rattle.vocabulary.specs.Intervals.{is_up_to, some, picked}
use Rattle.vocabulary.proofs.IntervalLaws.{some_start, some_next, some_cong, some_witness, some_at, picked_none, picked_at, at_last}
use Rattle.vocabulary.specs.Lists.{every_of}
use Rattle.vocabulary.proofs.ListLaws.{every_of_fails, or_right, or_nothing, zeros_at}
use Rattle.vocabulary.specs.Tests.{first_of}
use Rattle.layout.specs.Limits.{most_parts}
use Rattle.mesh.specs.Mesh.{top, first_cell, cell_count, mesh_number}
use Rattle.mesh.proofs.MeshLaws.{mesh_then, mesh_refuses}
use Rattle.mesh.specs.Walks.{bad10}
use Rattle.split.specs.Split.{split_of, owner_at, owns, owned}
use Rattle.split.specs.Lists.{bad8, bad9, map_tests, split_tests, split_number, split_input}
use Rattle.split.specs.Owners.{owns_at, OwnersSeen}

pub part_told : (parts i : ℕ) → 1 ≤ i → leb i parts ≡ is_up_to parts i
unfolding is_up_to
part_told parts i h = simp (le-leb 1 i h)

pub part_low : (parts i : ℕ) → i < 1 → leb 1 i ≡ is_up_to parts i
unfolding is_up_to
part_low parts i h = simp (lt-leb 1 i h)

-- ---- 8

module _ (m : Bytes) (parts : ℕ) (owners : Bytes) (a : Bool) (p : a ≡ is_up_to most_parts parts) where
  pub map_parts : not a ≡ true → true ≡ bad8 m parts owners []
  unfolding bad8
  map_parts t = simp (sym p, not-true a t)

  module _ (n : ℕ) (q : n ≡ cell_count m) where
    pub map_length : not a ≡ false → (length owners ≡ n → ⊥) → true ≡ bad8 m parts owners []
    unfolding bad8 every_of
    map_length t h = simp (sym p, not-false a t, ne_eqb (length owners) (cell_count m) (λ e. h (e ∙ sym q)))

    pub map_owners : (b : Bool) → not a ≡ false → length owners ≡ n → b ≡ every_of owners (is_up_to parts) → not b ≡ bad8 m parts owners []
    unfolding bad8 every_of
    map_owners b t h e = simp (sym p, not-false a t, eq-eqb (length owners) (cell_count m) (h ∙ q), sym e)

-- ---- 9

pub seen_start : (owners seen : Bytes) → seen ≡ replicate 256 0 → OwnersSeen owners 0 seen
seen_start owners seen e = record {
  room = ap length e ∙ length-replicate {A = ℕ} 256 0;
  each = λ i. ap (λ (b : Bytes). byte_at b i) e ∙ zeros_at 256 i ∙ sym (ap (λ b. cond b 1 0) (some_start 0 (owns_at owners i)));
}

pub seen_turn : (owners : Bytes) (q w : ℕ) (seen seen₁ : Bytes) → OwnersSeen owners q seen → w ≡ owner_at owners q → w < 256 → seen₁ ≡ set seen w 1 → OwnersSeen owners (q + 1) seen₁
unfolding owns_at
seen_turn owners q w seen seen₁ M we small e = record {
  room = ap length e ∙ length-set seen w 1 ∙ M.room;
  each = λ i.
      ap (λ (b : Bytes). byte_at b i) e
      ∙ go i (eqb w i) refl
      ∙ sym (ap (λ b. cond b 1 0) (some_next 0 q (λ k. eqb (owner_at owners k) i) ∙ ap (λ x. some 0 q (λ k. eqb (owner_at owners k) i) || eqb x i) (here ∙ sym we)));
}
  where
    here : owner_at owners (0 + q) ≡ owner_at owners q
    here = ap (owner_at owners) (zero-add q)

    go : (i : ℕ) (b : Bool) → eqb w i ≡ b → byte_at (set seen w 1) i ≡ cond (some 0 q (λ k. eqb (owner_at owners k) i) || eqb w i) 1 0
    go i true f =
        ap (byte_at (set seen w 1)) (sym (eqb-true w i f))
        ∙ get_or-set_same seen w 1 0 (omega (arith, M.room))
        ∙ sym (ap (λ b. cond b 1 0) (or_right (some 0 q (λ k. eqb (owner_at owners k) i)) (eqb w i) f))
    go i false f =
        get_or-set_other seen w i 1 0 (λ z. eqb-false w i f (sym z))
        ∙ M.each i
        ∙ sym (ap (λ b. cond b 1 0) (ap (λ b. some 0 q (λ k. eqb (owner_at owners k) i) || b) f ∙ or_nothing (some 0 q (λ k. eqb (owner_at owners k) i))))

pub seen_end : (owners : Bytes) (q n : ℕ) (seen : Bytes) → q ≤ n → n ≤ q → OwnersSeen owners q seen → OwnersSeen owners n seen
seen_end owners q n seen g h M = at_last (λ k. OwnersSeen owners k seen) q n g h M

-- part i owns none of the cells
unfoldable pub owns_none : Bytes → ℕ → Bytes → ℕ → Bool
owns_none m parts owners i = eqb (length (owned (split_of m parts owners []) i)) 0

module _ (m : Bytes) (parts : ℕ) (owners : Bytes) where
  none_told : (i : ℕ) → owns_none m parts owners i ≡ not (some 0 (cell_count m) (owns_at owners i))
  unfolding owns_none owned owns split_of owns_at
  none_told i = go (some 0 (cell_count m) (owns_at owners i)) refl
    where
      place : (k : ℕ) → first_cell m + k - first_cell m ≡ k
      place k = omega arith

      go : (b : Bool) → some 0 (cell_count m) (owns_at owners i) ≡ b → eqb (length (picked (first_cell m) (cell_count m) (λ c. eqb (owner_at owners (c - first_cell m)) i))) 0 ≡ not b
      go true e =
          let w = some_witness 0 (owns_at owners i) (cell_count m) e in
          let a = picked_at (first_cell m) (λ c. eqb (owner_at owners (c - first_cell m)) i) (cell_count m) w.0 w.1
          (ap (λ x. eqb (owner_at owners x) i) (place w.0 ∙ sym (zero-add w.0)) ∙ w.2) in
          ne_eqb (length (picked (first_cell m) (cell_count m) (λ c. eqb (owner_at owners (c - first_cell m)) i))) 0 (λ z. let n : ⊥ = omega (arith, a.place_lt) in n)
      go false e =
          ap (λ xs. eqb (length xs) 0)
          (picked_none (first_cell m) (λ c. eqb (owner_at owners (c - first_cell m)) i) (cell_count m)
          (λ k h. ap (λ x. eqb (owner_at owners x) i) (place k ∙ sym (zero-add k)) ∙ some_at 0 (owns_at owners i) (cell_count m) k e h))

  module _ (n : ℕ) (ce : n ≡ cell_count m) (k : ℕ) (b : Bool) (e : b ≡ some 0 n (owns_at owners (k + 1))) where
    told : owns_none m parts owners (1 + k) ≡ not b
    told =
        let q : 1 + k ≡ k + 1 = omega arith in
        ap (owns_none m parts owners) q ∙ none_told (k + 1) ∙ ap not (ap (λ x. some 0 x (owns_at owners (k + 1))) (sym ce) ∙ sym e)

  -- by the marks
  pub shares_told : (n : ℕ) → n ≡ cell_count m → (seen : Bytes) → OwnersSeen owners n seen → (b : Bool) → b ≡ some 0 parts (λ k. eqb (byte_at seen (k + 1)) 0)
      → b ≡ bad9 (split_of m parts owners [])
  unfolding bad9 owns_none split_of some
  shares_told n ce seen M b e = e ∙ some_cong 0 (λ k. eqb (byte_at seen (k + 1)) 0) (λ k. owns_none m parts owners (1 + k)) parts (λ i h. marked (0 + i)) ∙ up parts
    where
      marked : (k : ℕ) → eqb (byte_at seen (k + 1)) 0 ≡ owns_none m parts owners (1 + k)
      marked k =
          let has = some 0 n (owns_at owners (k + 1)) in ap (λ x. eqb x 0) (M.each (k + 1)) ∙ go has ∙ sym (told n ce k has refl)
        where
          go : (b : Bool) → eqb (cond b 1 0) 0 ≡ not b
          go true = refl
          go false = refl

      up : (n : ℕ) → some 0 n (λ k. owns_none m parts owners (1 + k)) ≡ some 1 n (owns_none m parts owners)
      up zero = refl
      up (suc n) = ap₂ ◌||◌ (up n) (ap (λ x. owns_none m parts owners (1 + x)) (zero-add n))

shares_any : (m : Bytes) (parts : ℕ) (owners st : Bytes) → bad9 (split_of m parts owners []) ≡ bad9 (split_of m parts owners st)
unfolding bad9 owned owns split_of
shares_any m parts owners st = refl

-- a map that is right by itself, and parts named that are there
pub named_fine : (m : Bytes) (parts : ℕ) (owners : Bytes) (i j : ℕ) → bad8 m parts owners [] ≡ false → is_up_to parts i ≡ true → is_up_to parts j ≡ true
    → bad8 m parts owners (i ∷ j ∷ []) ≡ false
unfolding bad8 every_of
named_fine m parts owners i j e f g = ap₂ (λ x y. not (is_up_to most_parts parts) || not (x && (y && true)) || not (eqb (length owners) (cell_count m))
    || not (every_of owners (is_up_to parts))) f g ∙ e

-- ---- the number by the tests up to 10

module _ (m : Bytes) (parts : ℕ) (owners : Bytes) (i j : ℕ) (st : Bytes) (n : ℕ) (ne : n ≡ mesh_number m) where
  pub split_mesh : (n ≡ 0 → ⊥) → n ≡ split_number m parts owners (i ∷ j ∷ []) st
  unfolding split_number split_tests
  split_mesh h = ne ∙ sym (mesh_refuses m _ (λ z. h (ne ∙ z)))

  module _ (z : n ≡ 0) where
    later : split_number m parts owners (i ∷ j ∷ []) st ≡ first_of (map_tests (split_input m parts owners st) (i ∷ j ∷ []))
    unfolding split_number split_tests
    later = mesh_then m (map_tests (split_input m parts owners st) (i ∷ j ∷ [])) (sym ne ∙ z)

    eighth : bad8 m parts owners (i ∷ j ∷ []) ≡ true → 8 ≡ split_number m parts owners (i ∷ j ∷ []) st
    eighth e = sym (later ∙ ap (λ t. cond t 8 (cond (bad9 (split_of m parts owners st)) 9 (cond (bad10 (top m) st) 10 0))) e)

    module _ (a : Bool) (ae : a ≡ bad8 m parts owners []) where
      pub split_map : a ≡ true → 8 ≡ split_number m parts owners (i ∷ j ∷ []) st
      split_map t =
          eighth (unfold bad8 every_of in more (not (is_up_to most_parts parts)) (not (is_up_to parts i && (is_up_to parts j && true))) (not (eqb (length owners) (cell_count m)))
          (not (every_of owners (is_up_to parts))) (sym (unfold bad8 every_of in ae) ∙ t))
        where
          more : (a b c d : Bool) → a || false || c || d ≡ true → a || b || c || d ≡ true
          more true b c d e = refl
          more false true c d e = refl
          more false false c d e = e

      -- one of the parts named is none
      wrong_named : (l : ℕ) → l < 2 → is_up_to parts (get_or (i ∷ j ∷ []) l 0) ≡ false → bad8 m parts owners (i ∷ j ∷ []) ≡ true
      unfolding bad8
      wrong_named l h e =
          ap (λ x. not (is_up_to most_parts parts) || not x || not (eqb (length owners) (cell_count m))
          || not (every_of owners (is_up_to parts))) (every_of_fails (is_up_to parts) (i ∷ j ∷ []) 0 l h e)
          ∙ go (not (is_up_to most_parts parts)) (not (eqb (length owners) (cell_count m))) (not (every_of owners (is_up_to parts)))
        where
          go : (a c d : Bool) → a || true || c || d ≡ true
          go true c d = refl
          go false c d = refl

      module _ (af : a ≡ false) (b : Bool) (be : b ≡ is_up_to parts i) where
        pub split_part : not b ≡ true → 8 ≡ split_number m parts owners (i ∷ j ∷ []) st
        split_part t = eighth (wrong_named 0 (omega arith) (sym be ∙ not-true b t))

        module _ (bf : not b ≡ false) (c : Bool) (ce : c ≡ is_up_to parts j) where
          pub split_other : not c ≡ true → 8 ≡ split_number m parts owners (i ∷ j ∷ []) st
          split_other t = eighth (wrong_named 1 (omega arith) (sym ce ∙ not-true c t))

          module _ (cf : not c ≡ false) where
            fine : bad8 m parts owners (i ∷ j ∷ []) ≡ false
            fine = named_fine m parts owners i j (sym ae ∙ af) (sym be ∙ not-false b bf) (sym ce ∙ not-false c cf)

            module _ (d : Bool) (de : d ≡ bad9 (split_of m parts owners [])) where
              ninth : d ≡ bad9 (split_of m parts owners st)
              ninth = de ∙ shares_any m parts owners st

              pub split_share : d ≡ true → 9 ≡ split_number m parts owners (i ∷ j ∷ []) st
              split_share t = sym (later ∙ ap₂ (λ x y. cond x 8 (cond y 9 (cond (bad10 (top m) st) 10 0))) fine (sym ninth ∙ t))

              module _ (df : d ≡ false) (k : ℕ) (ke : k ≡ top m) (e : Bool) (ee : e ≡ bad10 k st) where
                tenth : e ≡ bad10 (top m) st
                tenth = ee ∙ ap (λ x. bad10 x st) ke

                last : split_number m parts owners (i ∷ j ∷ []) st ≡ cond e 10 0
                last = later ∙ ap₂ (λ x y. cond x 8 (cond y 9 (cond (bad10 (top m) st) 10 0))) fine (sym ninth ∙ df) ∙ ap (λ x. cond x 10 0) (sym tenth)

                pub split_stencil : e ≡ true → 10 ≡ split_number m parts owners (i ∷ j ∷ []) st
                split_stencil t = sym (last ∙ ap (λ x. cond x 10 0) t)

                pub split_passed : e ≡ false → 0 ≡ split_number m parts owners (i ∷ j ∷ []) st
                split_passed t = sym (last ∙ ap (λ x. cond x 10 0) t)

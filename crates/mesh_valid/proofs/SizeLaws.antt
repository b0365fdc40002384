-- What the tests 1 to 3 answer, by the tests that the code makes one after the other, and what they leave. Assumes nothing.
use mathlib.Core.Path.{◌≡◌, refl, sym, ◌∙◌}
use mathlib.Core.Bool.{Bool, true, false, not}
use Prim.Native.Nat.{ℕ, ◌+◌, ◌*◌, ◌≤◌, ◌<◌}
use lib.Dec.{ltb, eqb}
use lib.ListN.{length}
use borrow.Author.Tests.{le-leb, lt-leb, lt-ltb, le-ltb}
use Rattle.vocabulary.specs.Bytes.{Bytes}
use Rattle.vocabulary.specs.Intervals.{some}
use Rattle.vocabulary.specs.Tests.{first_of}
use Rattle.vocabulary.proofs.TestLaws.{passed}
use Rattle.layout.specs.Limits.{most_elements, most_records}
use Rattle.mesh.specs.Mesh.{top, counted, elements, record_count, mesh_length, bad_count, bad1, bad2, bad3}
use Rattle.mesh.proofs.MeshLaws.{sizes_tests}
use Rattle.mesh.specs.Meet.{Sizes}
use Rattle.mesh.proofs.NumberLaws.{sized}

module _ (m : Bytes) (k d c : ℕ) (e : d ≡ top m) (f : c ≡ counted m k) where
  pub none_counted : k ≤ d → eqb c 0 ≡ bad_count m k
  unfolding bad_count
  none_counted h = simp (sym e, le-leb _ _ h, sym f)

  pub some_counted : d < k → ltb 0 c ≡ bad_count m k
  unfolding bad_count
  some_counted h = simp (sym e, lt-leb _ _ h, sym f)

module _ (m : Bytes) (b : Bool) (f : b ≡ some 0 4 (bad_count m)) where
  pub wrongly_counted : b ≡ true → true ≡ bad2 m
  unfolding bad2
  wrongly_counted t = simp (sym f, t)

  module _ (t : b ≡ false) (n : ℕ) (e : n ≡ elements m) where
    pub too_many : most_elements < n → true ≡ bad2 m
    unfolding bad2
    too_many h = simp (sym f, t, sym e, lt-ltb _ _ h)

    pub too_rich : (r : ℕ) → r ≡ record_count m → n ≤ most_elements → ltb most_records r ≡ bad2 m
    unfolding bad2
    too_rich r g h = simp (sym f, t, sym e, le-ltb _ _ h, sym g)

pub wrong_length : (m : Bytes) (n r : ℕ) → n ≡ elements m → r ≡ record_count m → not (eqb (length m) (2 * (6 + n + 2 * r))) ≡ bad3 m
unfolding bad3 mesh_length
wrong_length m n r e f = simp (sym e, sym f)

-- ---- the three together

module _ (m : Bytes) (k : ℕ) (e : k ≡ first_of (sizes_tests m)) (z : k ≡ 0) where
  pub head_sizes : (d n r : ℕ) → d ≡ top m → n ≡ elements m → r ≡ record_count m → Sizes m d n r
  head_sizes d n r p q t =
      let a = passed (sizes_tests m) tt (sym e ∙ z) in
      sized m (bad1 m) (bad2 m) d n r refl a.0 refl a.1.0 p q t

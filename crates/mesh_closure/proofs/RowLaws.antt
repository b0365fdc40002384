-- Loops over a row: tests 6 and 7. Assumes nothing.
use mathlib.Core.Bool.{Bool, true, false, ◌||◌}
use mathlib.Core.Path.{◌≡◌, refl, sym, ap, ◌∙◌}
use mathlib.Core.List.{List, [], ◌∷◌}
use Prim.Native.Nat.{ℕ, suc, ◌+◌, ◌-◌, ◌≤◌, ◌<◌}
use native.Mathlib.Omega.{arith}
use lib.ListN.{length, get_or, set, length-set, drop, drop_of_length-le}
use lib.Seq.{drop-cons}
use Rattle.std.proofs.lemmas.Grind.{get_or_default_zero}
use Rattle.vocabulary.specs.Lists.{some_of}
use Rattle.mesh.specs.Meet.{stamp}
use Rattle.mesh_closure.specs.Rows.{Names}

-- the number that is read at a place
pub names_item : (n : ℕ) (row : List ℕ) (x k : ℕ) → Names n row → k < length row → x ≡ get_or row k x → (1 ≤ x) × (x ≤ n)
names_item n row x k N h e =
    let q : x ≡ get_or row k 0 = e ∙ get_or_default_zero row k x h in
    (omega (arith, N.low k h), omega (arith, N.high k h))

stamp_length_lem : (v : ℕ) (s xs : List ℕ) → length (stamp v s xs) ≡ length s
unfolding stamp
stamp_length_lem v s [] = refl
stamp_length_lem v s (x ∷ xs) = stamp_length_lem v (set s x v) xs ∙ length-set s x v

-- marking leaves as many marks
pub stamp_length : (v : ℕ) (s t xs : List ℕ) → t ≡ stamp v s xs → length t ≡ length s
stamp_length v s t xs e = ap length e ∙ stamp_length_lem v s xs

-- a loop that marks each element: w is what marking the whole row gives
module _ (v t : ℕ) (row s w : List ℕ) (inv : stamp v s (drop t row) ≡ w) where
  pub stamp_done : length row ≤ t → s ≡ w
  unfolding stamp
  stamp_done h = rw (drop_of_length-le row h) at inv

  pub stamp_turn : (g : ℕ) → t < length row → g ≡ get_or row t 0 → stamp v (set s g v) (drop (t + 1) row) ≡ w
  unfolding stamp
  stamp_turn g h e = let q : suc t ≡ t + 1 = omega arith in rw e (rw q at (rw (drop-cons row t 0 h) at inv))

-- a loop with a way out at the first that passes: w is what looking at the whole row tells
module _ (p : ℕ → Bool) (t : ℕ) (row : List ℕ) (w : Bool) (inv : some_of (drop t row) p ≡ w) where
  pub some_done : length row ≤ t → false ≡ w
  unfolding some_of
  some_done h = rw (drop_of_length-le row h) at inv

  module _ (g : ℕ) (h : t < length row) (e : g ≡ get_or row t 0) where
    first : (b : Bool) → p g ≡ b → b || some_of (drop (suc t) row) p ≡ w
    unfolding some_of
    first b f = ap (λ c. c || some_of (drop (suc t) row) p) (sym f ∙ ap p e) ∙ rw (drop-cons row t 0 h) at inv

    pub some_found : p g ≡ true → true ≡ w
    some_found f = first true f

    pub some_turn : p g ≡ false → some_of (drop (t + 1) row) p ≡ w
    some_turn f = let q : suc t ≡ t + 1 = omega arith in rw q at (first false f)

-- ---- rows that a chain gives

module _ (n : ℕ) (row s : List ℕ) (N : Names n row) (h : n < length s) where
  pub names_marks : Names (length s - 1) row
  names_marks = record { low = N.low; high = λ t k. omega (arith, N.high t k) }

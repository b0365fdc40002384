-- The local numbers that are stored at the cells of a list are those of the definition. Assumes nothing.
use mathlib.Core.Path.{◌≡◌, refl, sym, ap, ap₂, ◌∙◌}
use mathlib.Core.Bool.{Bool, true, false, cond}
use mathlib.Core.List.{List, [], ◌∷◌}
use Prim.Native.Nat.{ℕ, zero, suc, ◌+◌, ◌-◌, ◌≤◌, ◌<◌}
use native.Mathlib.Nat.{not-suc-le-zero}
use native.Mathlib.Omega.{arith}
use lib.Dec.{eqb}
use lib.ListN.{length, get_or, take, drop, set, length-set}
use lib.Seq.{length-take-le, get_or-take, drop-cons, drop-length, get_or-set_same, get_or-set_other}
use borrow.Author.Tests.{eqb-true, eqb-false}
use Rattle.vocabulary.specs.Lists.{place_of}
use Rattle.split.specs.Split.{local_of, global_of}
use Rattle.split.specs.Numbering.{numbering}

pub global_is : (order : List ℕ) (l y : ℕ) → y ≡ get_or order (l - 1) 0 → y ≡ global_of order l
unfolding global_of
global_is order l y e = e

-- ---- the cells, from the last to the first

module _ (order : List ℕ) (n : ℕ) (there : n ≤ length order) (local : List ℕ) where
  all : length (take n order) ≡ n
  all = length-take-le n order there

  pub number_start : local ≡ numbering (n - 0) (drop (n - 0) (take n order)) local
  unfolding numbering
  number_start =
      let e : drop (n - 0) (take n order) ≡ [] = ap (λ k. drop k (take n order)) (let z : n - 0 ≡ length (take n order) = omega (arith, all) in z) ∙ drop-length (take n order) in
      sym (ap (λ cs. numbering (n - 0) cs local) e)

  pub number_turn : (k c : ℕ) (x y : List ℕ) → k < n → x ≡ numbering (n - k) (drop (n - k) (take n order)) local → c ≡ global_of order (n - k) → y ≡ set x c (n - k)
      → y ≡ numbering (n - (k + 1)) (drop (n - (k + 1)) (take n order)) local
  unfolding numbering global_of
  number_turn k c x y h xe ce ye =
      let j : n - k ≡ suc (n - (k + 1)) = omega arith in
      let at : n - k - 1 ≡ n - (k + 1) = omega arith in
      let cell : c ≡ get_or (take n order) (n - (k + 1)) 0 = ce ∙ ap (λ i. get_or order i 0) at ∙ sym (get_or-take n order (n - (k + 1)) 0 (omega arith)) in
      let rest : x ≡ numbering (suc (n - (k + 1))) (drop (suc (n - (k + 1))) (take n order)) local = xe ∙ ap (λ i. numbering i (drop i (take n order)) local) j in
      ye
      ∙ ap₂ (λ (w : List ℕ) i. set w c i) rest j
      ∙ ap (λ i. set (numbering (suc (n - (k + 1))) (drop (suc (n - (k + 1))) (take n order)) local) i (suc (n - (k + 1)))) cell
      ∙ sym (ap (λ cs. numbering (n - (k + 1)) cs local) (drop-cons (take n order) (n - (k + 1)) 0 (omega (arith, all))))

  pub number_end : (k : ℕ) (x : List ℕ) → k ≤ n → n ≤ k → x ≡ numbering (n - k) (drop (n - k) (take n order)) local → x ≡ numbering 0 (take n order) local
  number_end k x g h e = let z : n - k ≡ 0 = omega arith in e ∙ ap (λ i. numbering i (drop i (take n order)) local) z

-- ---- what stands in the array

numbering_length : (j : ℕ) (cs local : List ℕ) → length (numbering j cs local) ≡ length local
unfolding numbering
numbering_length j [] local = refl
numbering_length j (c ∷ cs) local = length-set (numbering (suc j) cs local) c (suc j) ∙ numbering_length (suc j) cs local

numbered_from : (j : ℕ) (cs local : List ℕ) (c : ℕ) → place_of c cs < length cs → c < length local → get_or (numbering j cs local) c 0 ≡ suc (j + place_of c cs)
unfolding numbering place_of
numbered_from j [] local c h k = absurd (not-suc-le-zero h)
numbered_from j (y ∷ ys) local c h k = go (eqb c y) refl h (λ g. numbered_from (suc j) ys local c g k)
  where
    go : (b : Bool) → eqb c y ≡ b → cond b zero (suc (place_of c ys)) < suc (length ys) → (place_of c ys < length ys → get_or (numbering (suc j) ys local) c 0 ≡ suc (suc j + place_of c ys))
        → get_or (set (numbering (suc j) ys local) y (suc j)) c 0 ≡ suc (j + cond b zero (suc (place_of c ys)))
    go true e h f =
        let s : c ≡ y = eqb-true c y e in
        let z : suc j ≡ suc (j + 0) = omega arith in
        ap (λ x. get_or (set (numbering (suc j) ys local) x (suc j)) c 0) (sym s)
        ∙ get_or-set_same (numbering (suc j) ys local) c (suc j) 0 (omega (arith, numbering_length (suc j) ys local))
        ∙ z
    go false e h f =
        let z : suc (suc j + place_of c ys) ≡ suc (j + suc (place_of c ys)) = omega arith in
        get_or-set_other (numbering (suc j) ys local) y c (suc j) 0 (eqb-false c y e) ∙ f (omega arith) ∙ z

-- the local number of a cell of the list
pub numbered : (order local : List ℕ) (c : ℕ) → local_of order c ≤ length order → c < length local → get_or (numbering 0 order local) c 0 ≡ local_of order c
unfolding local_of
numbered order local c h k = let z : suc (0 + place_of c order) ≡ place_of c order + 1 = omega arith in numbered_from 0 order local c (omega arith) k ∙ z

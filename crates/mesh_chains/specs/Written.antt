-- How the code writes the chains down as it follows them, so that they are followed once. No public contract rests on this page; the laws in
-- proofs/ tie it to the definitions. Assumes nothing.
use Rattle.std.specs.Prelude.{◌≡◌, Option, MatchOption, Bool, true, false, List, [], ◌∷◌, ℕ, ◌+◌, ◌-◌, ◌≤◌, ◌<◌, eqb, length, get_or, set, take, drop}
use Rattle.vocabulary.specs.Bytes.{Bytes}
use Rattle.vocabulary.specs.Intervals.{is_up_to, blocks}
use Rattle.mesh.specs.Mesh.{top, elements, record_count, element_in, chain, bad4}
use Rattle.mesh.specs.Meet.{Sizes}

-- whether something was amiss, the marks of the records, the place after the last element that was written down, and the elements
pub data ChainNotes : Type 0 where
  noted : Bool → List ℕ → ℕ → List ℕ → ChainNotes

-- meets each record of the list, up to the first that is not from 1 to r or is marked: marks it in s, and writes its element down from place t on
unfoldable pub note : Bytes → ℕ → List ℕ → ℕ → List ℕ → List ℕ → ChainNotes
note m r s t items [] = noted false s t items
note m r s t items (i ∷ is) =
    elim (is_up_to r i) [
      | true ↦ elim (eqb (get_or s i 0) 1) [ true ↦ noted true s t items | false ↦ note m r (set s i 1) (t + 1) (set items t (element_in m i)) is ]
      | false ↦ noted true s t items
    ]

-- what noting the records of a chain came to: the place after the last element, and none where something was amiss
abbrev pub HasNoted : Option ℕ → List ℕ → List ℕ → ChainNotes → Type 0
HasNoted end s items w = MatchOption end ((t : ℕ) × (noted true s t items ≡ w)) (λ t. noted false s t items ≡ w)

-- the items from place a up to place b
unfoldable pub stretch : List ℕ → ℕ → ℕ → List ℕ
stretch items a b = take (b - a) (drop a items)

-- the chains of the elements 1 to k, one after another
unfoldable pub chains : Bytes → ℕ → List ℕ
chains m k = blocks 1 k (chain m)

-- places for the chains of n elements with r records, and for where they end; that of element 0, which is none, is 0
pub record Places (n r : ℕ) (items ends : List ℕ) : Type 0 where
  pub items_long : r ≤ length items
  pub ends_long : n < length ends
  pub none : get_or ends 0 0 ≡ 0

-- marks of the numbers up to n, each below v
pub record MarksBelow (n v : ℕ) (s : List ℕ) : Type 0 where
  pub long : n < length s
  pub each : (i : ℕ) → get_or s i 0 < v

-- these chains stand in items, and ends has the place after each of them
pub record Wrote (m : Bytes) (k : ℕ) (items ends : List ℕ) : Type 0 where
  pub items_long : record_count m ≤ length items
  pub ends_long : elements m < length ends
  pub room : length (chains m k) ≤ record_count m
  pub items_are : take (length (chains m k)) items ≡ chains m k
  pub ends_are : (j : ℕ) → j ≤ k → get_or ends j 0 ≡ length (chains m j)

-- test 4 accepts the mesh, and all its chains are written down
pub record Written (m items ends : List ℕ) : Type 0 where
  pub sizes : Sizes m (top m) (elements m) (record_count m)
  pub four : bad4 m ≡ false
  pub wrote : Wrote m (elements m) items ends

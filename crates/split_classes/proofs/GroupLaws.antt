-- The cells of a row linked by their byte: what is linked from place q on, and how a group is followed. Assumes nothing.
use mathlib.Core.Path.{◌≡◌, refl, sym, ap, ap₂, ◌∙◌, subst}
use mathlib.Core.Logic.{◌⊎◌, inl, inr, ⊎_elim}
use mathlib.Core.Bool.{Bool, true, false, ◌&&◌, ◌||◌, cond}
use mathlib.Core.List.{List, [], ◌∷◌, ◌++◌, map, append-nil, append_assoc}
use Prim.Native.Nat.{ℕ, zero, suc, ◌+◌, ◌-◌, ◌≤◌, ◌<◌}
use native.Mathlib.Omega.{arith}
use lib.Dec.{eqb, ltb}
use lib.ListN.{length, get_or, set, length-set, replicate, length-replicate}
use lib.Seq.{get_or-set_same, get_or-set_other}
use borrow.Author.Tests.{eqb-true, eqb-false, ne_eqb, ltb-true, ltb-false}
use Rattle.vocabulary.specs.Bytes.{Bytes, byte_at}
use Rattle.vocabulary.specs.Intervals.{picked, some, blocks}
use Rattle.vocabulary.proofs.IntervalLaws.{picked_all, blocks_cong}
use Rattle.vocabulary.specs.Lists.{some_of, All}
use Rattle.vocabulary.proofs.ListLaws.{zeros_at, All_split, or_nothing, some_of_append, map_append}
use Rattle.std.proofs.lemmas.List.{get_or_past}
use Rattle.layout.specs.Limits.{most_elements, most_parts}
use Rattle.split_classes.specs.Classes.{of_class, class_cells, class_order}
use Rattle.split_classes.specs.Groups.{group, byte_places, Grouped, group_cells, group_order, Linked}

-- ---- following a group

pub group_none : (next : List ℕ) (n : ℕ) → group next n 0 ≡ []
unfolding group
group_none next zero = refl
group_none next (suc n) = refl

pub group_more : (next : List ℕ) (n s : ℕ) → 1 ≤ s → group next (suc n) s ≡ (s - 1) ∷ group next n (get_or next (s - 1) 0)
unfolding group
group_more next n s h = simp (ne_eqb s 0 (omega arith), group)

-- the link s is the end, or leads to a place from q on that is below n
abbrev pub From : ℕ → ℕ → ℕ → Type 0
From n q s = (s ≡ 0) ⊎ ((q < s) × (s ≤ n))

from_more : (n p q s : ℕ) → p ≤ q → From n q s → From n p s
from_more n p q s h f = ⊎_elim (λ z. inl z) (λ w. inr (omega (arith, w.0), w.1)) f

-- links that agree from place o on, where each leads to a later place: the groups from place q on are the same, whatever the bounds
pub group_same : (next next' : List ℕ) (n o : ℕ) → ((p : ℕ) → o ≤ p → p < n → From n (p + 1) (get_or next p 0))
    → ((p : ℕ) → o ≤ p → p < n → get_or next' p 0 ≡ get_or next p 0)
    → (a b q s : ℕ) → o ≤ q → From n q s → n ≤ q + a → n ≤ q + b → group next' b s ≡ group next a s
group_same next next' n o later same zero b q s l f h k =
    ⊎_elim (λ z. rw z (group_none next' b ∙ sym (group_none next 0))) (λ w. absurd (let no : ⊥ = omega (arith, w.0, w.1) in no)) f
group_same next next' n o later same (suc a) zero q s l f h k =
    ⊎_elim (λ z. rw z (group_none next' 0 ∙ sym (group_none next (suc a)))) (λ w. absurd (let no : ⊥ = omega (arith, w.0, w.1) in no)) f
group_same next next' n o later same (suc a) (suc b) q s l f h k =
    go f (λ u v g. group_same next next' n o later same a b s (get_or next (s - 1) 0) (omega arith) g (omega arith) (omega arith))
  where
    go : From n q s → (q < s → s ≤ n → From n s (get_or next (s - 1) 0) → group next' b (get_or next (s - 1) 0) ≡ group next a (get_or next (s - 1) 0))
        → group next' (suc b) s ≡ group next (suc a) s
    go (inl z) ih = rw z (group_none next' (suc b) ∙ sym (group_none next (suc a)))
    go (inr w) ih =
        let u = w.0 in
        let v = w.1 in
        let e : s - 1 + 1 ≡ s = omega arith in
        group_more next' b s (omega arith)
        ∙ ap (λ x. (s - 1) ∷ group next' b x) (same (s - 1) (omega arith) (omega arith))
        ∙ ap (λ r. (s - 1) ∷ r) (ih u v (subst (λ x. From n x (get_or next (s - 1) 0)) e (later (s - 1) (omega arith) (omega arith))))
        ∙ sym (group_more next a s (omega arith))

-- a loop that follows a group: the end, and a turn
pub group_stop : (next : List ℕ) (n k s : ℕ) → n ≤ k → group next (n - k) s ≡ []
unfolding group
group_stop next n k s h = let e : n - k ≡ 0 = omega arith in ap (λ x. group next x s) e

pub group_turn : (next : List ℕ) (n k s : ℕ) → k < n → 1 ≤ s → group next (n - k) s ≡ (s - 1) ∷ group next (n - (k + 1)) (get_or next (s - 1) 0)
group_turn next n k s h l = let e : n - k ≡ suc (n - (k + 1)) = omega arith in ap (λ x. group next x s) e ∙ group_more next (n - (k + 1)) s l

-- what is left of a group, of which the places `done` were followed in t turns: link s leads on
module _ (next whole : List ℕ) (n : ℕ) where
  pub left_start : (s : ℕ) → group next n s ≡ whole → whole ≡ [] ++ group next (n - 0) s
  left_start s e = let z : n ≡ n - 0 = omega arith in sym e ∙ ap (λ x. group next x s) z

  module _ (t s : ℕ) (done : List ℕ) (left : whole ≡ done ++ group next (n - t) s) where
    pub left_stop : s < 1 → whole ≡ done
    left_stop h =
        let z : s ≡ 0 = omega arith in
        left ∙ ap (λ xs. done ++ xs) (ap (group next (n - t)) z ∙ group_none next (n - t)) ∙ append-nil done

    pub left_end : n ≤ t → whole ≡ done
    left_end h = left ∙ ap (λ xs. done ++ xs) (group_stop next n t s h) ∙ append-nil done

    module _ (h : t < n) (l : 1 ≤ s) where
      left_here : whole ≡ done ++ ((s - 1) ∷ group next (n - (t + 1)) (get_or next (s - 1) 0))
      left_here = left ∙ ap (λ xs. done ++ xs) (group_turn next n t s h l)

      pub left_turn : whole ≡ (done ++ ((s - 1) ∷ [])) ++ group next (n - (t + 1)) (get_or next (s - 1) 0)
      left_turn = left_here ∙ sym (append_assoc done ((s - 1) ∷ []) (group next (n - (t + 1)) (get_or next (s - 1) 0)))

      pub left_all : (P : ℕ → Type 0) → All P whole → P (s - 1)
      left_all P a = (All_split P done ((s - 1) ∷ group next (n - (t + 1)) (get_or next (s - 1) 0)) (subst (All P) left_here a)).1.0

-- ---- the places of a byte

picked_front : (a n : ℕ) (p : ℕ → Bool) → picked a (suc n) p ≡ cond (p a) (a ∷ []) [] ++ picked (a + 1) n p
unfolding picked
picked_front a zero p =
    let e : a + 0 ≡ a = omega arith in
    ap (λ x. cond (p x) (x ∷ []) []) e ∙ sym (append-nil (cond (p a) (a ∷ []) []))
picked_front a (suc n) p =
    let e : a + suc n ≡ a + 1 + n = omega arith in
    ap₂ (λ xs x. xs ++ cond (p x) (x ∷ []) []) (picked_front a n p) e
    ∙ append_assoc (cond (p a) (a ∷ []) []) (picked (a + 1) n p) (cond (p (a + 1 + n)) ((a + 1 + n) ∷ []) [])

module _ (row : Bytes) (k q cells : ℕ) (h : q < cells) where
  places_front : byte_places row k q (cells - q) ≡ cond (eqb (byte_at row q) k) (q ∷ []) [] ++ byte_places row k (q + 1) (cells - (q + 1))
  unfolding byte_places
  places_front =
      let e : cells - q ≡ suc (cells - (q + 1)) = omega arith in
      ap (λ n. picked q n (λ q. eqb (byte_at row q) k)) e ∙ picked_front q (cells - (q + 1)) (λ q. eqb (byte_at row q) k)

  places_yes : eqb (byte_at row q) k ≡ true → byte_places row k q (cells - q) ≡ q ∷ byte_places row k (q + 1) (cells - (q + 1))
  places_yes e = places_front ∙ ap (λ b. cond b (q ∷ []) [] ++ byte_places row k (q + 1) (cells - (q + 1))) e

  places_no : eqb (byte_at row q) k ≡ false → byte_places row k q (cells - q) ≡ byte_places row k (q + 1) (cells - (q + 1))
  places_no e = places_front ∙ ap (λ b. cond b (q ∷ []) [] ++ byte_places row k (q + 1) (cells - (q + 1))) e

pub places_below : (row : Bytes) (k cells : ℕ) → All (λ q. q < cells) (byte_places row k 0 cells)
unfolding byte_places
places_below row k cells = picked_all 0 (λ q. eqb (byte_at row q) k) (λ q. q < cells) cells (λ i h e. omega arith)

-- one of those that pass the first test passes the second
pub some_of_picked : (a n : ℕ) (p f : ℕ → Bool) → some_of (picked a n p) f ≡ some a n (λ q. p q && f q)
unfolding some_of some picked
some_of_picked a zero p f = refl
some_of_picked a (suc n) p f = some_of_append f (picked a n p) (cond (p (a + n)) ((a + n) ∷ []) []) ∙ ap₂ ◌||◌ (some_of_picked a n p f) (one (p (a + n)))
  where
    one : (b : Bool) → some_of (cond b ((a + n) ∷ []) []) f ≡ b && f (a + n)
    one true = or_nothing (f (a + n))
    one false = refl

-- ---- the links from place q on

pub record GroupedFrom (row : Bytes) (cells q : ℕ) (start next : List ℕ) : Type 0 where
  pub start_room : length start ≡ 19
  pub next_room : most_elements ≤ length next
  pub begins : (k : ℕ) → From cells q (get_or start k 0)
  pub later : (p : ℕ) → q ≤ p → p < cells → From cells (p + 1) (get_or next p 0)
  pub told : (k : ℕ) → k < 19 → group next cells (get_or start k 0) ≡ byte_places row k q (cells - q)

pub grouped_start : (row : Bytes) (cells : ℕ) (start next : List ℕ) → start ≡ replicate 19 0 → most_elements ≤ length next → GroupedFrom row cells (cells - 0) start next
unfolding byte_places picked
grouped_start row cells start next e room = record {
  start_room = ap length e ∙ length-replicate {A = ℕ} 19 0;
  next_room = room;
  begins = λ k. inl (zero_at k);
  later = λ p h l. absurd (let no : ⊥ = omega arith in no);
  told = λ k h. ap (group next cells) (zero_at k) ∙ group_none next cells ∙ ap (λ n. picked (cells - 0) n (λ q. eqb (byte_at row q) k)) none;
}
  where
    zero_at : (k : ℕ) → get_or start k 0 ≡ 0
    zero_at k = ap (λ (xs : List ℕ). get_or xs k 0) e ∙ zeros_at 19 k

    none : 0 ≡ cells - (cells - 0)
    none = omega arith

module _ (row : Bytes) (cells q : ℕ) (start next : List ℕ) (small : cells ≤ most_elements) (low : q < cells) (K : GroupedFrom row cells (q + 1) start next) where
  abbrev byte : ℕ
  byte = byte_at row q

  abbrev start' : List ℕ
  start' = set start byte (q + 1)

  abbrev next' : List ℕ
  next' = set next q (get_or start byte 0)

  start_there : (k : ℕ) → (k ≡ byte → ⊥) → get_or start' k 0 ≡ get_or start k 0
  start_there k n = get_or-set_other start byte k (q + 1) 0 n

  next_here : get_or next' q 0 ≡ get_or start byte 0
  next_here = get_or-set_same next q (get_or start byte 0) 0 (omega (arith, K.next_room))

  next_there : (p : ℕ) → q + 1 ≤ p → p < cells → get_or next' p 0 ≡ get_or next p 0
  next_there p h l = get_or-set_other next q p (get_or start byte 0) 0 (omega arith)

  -- a group that begins after place q is as it was
  old_group : (n s : ℕ) → From cells (q + 1) s → cells ≤ q + 1 + n → group next' n s ≡ group next cells s
  old_group n s f h = group_same next next' cells (q + 1) K.later next_there cells n (q + 1) s (omega arith) f (omega arith) h

  new_group : group next' cells (q + 1) ≡ q ∷ group next cells (get_or start byte 0)
  new_group =
      let e : cells ≡ suc (cells - 1) = omega arith in
      let f : q + 1 - 1 ≡ q = omega arith in
      ap (λ n. group next' n (q + 1)) e
      ∙ group_more next' (cells - 1) (q + 1) (omega arith)
      ∙ ap (λ x. x ∷ group next' (cells - 1) (get_or next' x 0)) f
      ∙ ap (λ s. q ∷ group next' (cells - 1) s) next_here
      ∙ ap (λ r. q ∷ r) (old_group (cells - 1) (get_or start byte 0) (K.begins byte) (omega arith))

  grouped_one : GroupedFrom row cells q start' next'
  grouped_one = record {
    start_room = length-set start byte (q + 1) ∙ K.start_room;
    next_room = omega (arith, length-set next q (get_or start byte 0), K.next_room);
    begins = λ k. begin k (eqb k byte) refl (ltb byte 19) refl;
    later = λ p h l. follow p h l (eqb p q) refl;
    told = λ k h. tell k h (eqb byte k) refl;
  }
    where
      begin : (k : ℕ) (b : Bool) → eqb k byte ≡ b → (d : Bool) → ltb byte 19 ≡ d → From cells q (get_or start' k 0)
      begin k true e true f =
          let z : get_or start' k 0 ≡ q + 1 =
          ap (λ x. get_or start' x 0) (eqb-true k byte e) ∙ get_or-set_same start byte (q + 1) 0 (omega (arith, ltb-true byte 19 f, K.start_room)) in
          inr (omega arith, omega arith)
      begin k true e false f =
          inl (get_or_past start' k 0 (omega (arith, ltb-false byte 19 f, eqb-true k byte e, length-set start byte (q + 1), K.start_room)))
      begin k false e d f =
          subst (From cells q) (sym (start_there k (eqb-false k byte e))) (from_more cells q (q + 1) (get_or start k 0) (omega arith) (K.begins k))

      follow : (p : ℕ) → q ≤ p → p < cells → (b : Bool) → eqb p q ≡ b → From cells (p + 1) (get_or next' p 0)
      follow p h l true e =
          let z : p ≡ q = eqb-true p q e in
          subst (λ x. From cells (x + 1) (get_or next' x 0)) (sym z) (subst (From cells (q + 1)) (sym next_here) (K.begins byte))
      follow p h l false e =
          let n : p ≡ q → ⊥ = eqb-false p q e in
          let m : q + 1 ≤ p = omega arith in
          subst (From cells (p + 1)) (sym (next_there p m l)) (K.later p m l)

      tell : (k : ℕ) → k < 19 → (b : Bool) → eqb byte k ≡ b → group next' cells (get_or start' k 0) ≡ byte_places row k q (cells - q)
      tell k h true e =
          let z : byte ≡ k = eqb-true byte k e in
          let l : byte < length start = omega (arith, K.start_room) in
          ap (group next' cells) (ap (λ x. get_or start' x 0) (sym z) ∙ get_or-set_same start byte (q + 1) 0 l)
          ∙ new_group
          ∙ ap (λ r. q ∷ r) (ap (λ x. group next cells (get_or start x 0)) z ∙ K.told k h)
          ∙ sym (places_yes row k q cells low e)
      tell k h false e =
          ap (group next' cells) (start_there k (λ z. eqb-false byte k e (sym z)))
          ∙ old_group cells (get_or start k 0) (K.begins k) (omega arith)
          ∙ K.told k h
          ∙ sym (places_no row k q cells low e)

-- a turn of the loop, and its end
pub grouped_turn : (row : Bytes) (cells t q k s : ℕ) (start next start₁ next₁ : List ℕ) → cells ≤ most_elements → t < cells → GroupedFrom row cells (cells - t) start next
    → q ≡ cells - 1 - t → k ≡ byte_at row q → s ≡ get_or start k 0 → next₁ ≡ set next q s → start₁ ≡ set start k (q + 1)
    → GroupedFrom row cells (cells - (t + 1)) start₁ next₁
grouped_turn row cells t q k s start next start₁ next₁ small h K qe ke se ne ce =
    let a : cells - t ≡ q + 1 = omega arith in
    let b : q ≡ cells - (t + 1) = omega arith in
    let T = grouped_one row cells q start next small (omega arith) (subst (λ x. GroupedFrom row cells x start next) a K) in
    subst (λ (xs : List ℕ). GroupedFrom row cells (cells - (t + 1)) start₁ xs) (sym (ne ∙ ap (set next q) (se ∙ ap (λ x. get_or start x 0) ke)))
    (subst (λ (xs : List ℕ). GroupedFrom row cells (cells - (t + 1)) xs (set next q (get_or start (byte_at row q) 0))) (sym (ce ∙ ap (λ x. set start x (q + 1)) ke))
    (subst (λ x. GroupedFrom row cells x (set start (byte_at row q) (q + 1)) (set next q (get_or start (byte_at row q) 0))) b T))

pub grouped_end : (row : Bytes) (cells t : ℕ) (start next : List ℕ) → cells ≤ t → GroupedFrom row cells (cells - t) start next → Grouped row cells start next
grouped_end row cells t start next h K =
    let e : cells - t ≡ 0 = omega arith in
    let f : cells - (cells - t) ≡ cells = omega arith in
    record { each = λ k l. K.told k l ∙ ap₂ (λ x n. byte_places row k x n) e f }

-- ---- what the links tell

pub grouped_linked : (row : Bytes) (cells : ℕ) (start next : List ℕ) → Grouped row cells start next → Linked cells start next
grouped_linked row cells start next G = record { each = λ k h. subst (All (λ q. q < cells)) (sym (G.each k h)) (places_below row k cells) }

-- the numbers of the places that pass
picked_shifted : (first n : ℕ) (p : ℕ → Bool) → map (λ q. first + q) (picked 0 n p) ≡ blocks 0 n (λ q. cond (p q) ((first + q) ∷ []) [])
unfolding picked blocks
picked_shifted first zero p = refl
picked_shifted first (suc n) p =
    map_append (λ q. first + q) (picked 0 n p) (cond (p (0 + n)) ((0 + n) ∷ []) []) ∙ ap₂ ◌++◌ (picked_shifted first n p) (one (p (0 + n)))
  where
    one : (b : Bool) → map (λ q. first + q) (cond b ((0 + n) ∷ []) []) ≡ cond b ((first + (0 + n)) ∷ []) []
    one true = refl
    one false = refl

-- the numbers of the linked cells are those of the class
pub grouped_cells : (class : Bytes) (first cells : ℕ) (start next : List ℕ) (k : ℕ) → Grouped class cells start next → k < 19
    → group_cells start next first cells k ≡ class_cells class first cells k
unfolding group_cells byte_places class_cells of_class
grouped_cells class first cells start next k G h = ap (map (λ q. first + q)) (G.each k h) ∙ picked_shifted first cells (λ q. eqb (byte_at class q) k)

pub grouped_order : (class : Bytes) (first cells parts : ℕ) (start next : List ℕ) → Grouped class cells start next → parts ≤ most_parts
    → group_order start next first cells parts ≡ class_order class first cells parts
unfolding group_order class_order
grouped_order class first cells parts start next G h =
    ap₂ ◌++◌ (grouped_cells class first cells start next 17 G (omega arith))
    (ap₂ ◌++◌ (grouped_cells class first cells start next 18 G (omega arith))
    (blocks_cong 1 (group_cells start next first cells) (class_cells class first cells) parts (λ j l. grouped_cells class first cells start next (1 + j) G (omega arith))))

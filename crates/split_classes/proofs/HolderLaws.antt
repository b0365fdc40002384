-- How many parts hold each cell, as the code counts them by stamps. Assumes nothing.
use mathlib.Core.Path.{◌≡◌, refl, sym, ap, ap₂, ◌∙◌}
use mathlib.Core.Logic.{◌⊎◌, ⊎_elim}
use mathlib.Core.Bool.{Bool, true, false, not, ◌&&◌, ◌||◌, cond}
use mathlib.Core.List.{List, [], ◌∷◌, ◌++◌}
use Prim.Native.Nat.{ℕ, ◌+◌, ◌-◌, ◌*◌, ◌≤◌, ◌<◌}
use native.Mathlib.Nat.{zero-add}
use native.Mathlib.Omega.{arith}
use lib.Dec.{eqb, ltb}
use lib.ListN.{length, get_or, set, length-set}
use lib.Seq.{get_or-set_same, get_or-set_other}
use borrow.Author.Tests.{eqb-true, eqb-false, eq-eqb, ne_eqb, ltb-true, ltb-false}
use Rattle.vocabulary.specs.Bytes.{Bytes, byte_at}
use Rattle.vocabulary.specs.Intervals.{some, total}
use Rattle.vocabulary.proofs.IntervalLaws.{at_last, some_next, some_start, total_start, total_turn, total_cong}
use Rattle.vocabulary.proofs.CountLaws.{total_swap}
use Rattle.vocabulary.specs.Lists.{some_of}
use Rattle.vocabulary.proofs.ListLaws.{and_left, and_right, or_nothing, some_of_append}
use Rattle.layout.specs.Words.{word_at}
use Rattle.std.proofs.lemmas.List.{get_or_past}
use Rattle.layout.specs.Limits.{most_elements, most_parts}
use Rattle.split.specs.Split.{owner_at}
use Rattle.split.specs.Owners.{owns_at}
use Rattle.split_classes.specs.Classes.{has_entry, reach_has, reached_at, RowCleared, Raised, Few, row_sum, held_by, part_held, Counted, Holders}
use Rattle.split_classes.specs.Groups.{group, byte_places, Grouped, group_reach}
use Rattle.split_classes.proofs.GroupLaws.{left_start, left_turn, left_stop, left_end, some_of_picked}

-- ---- one place

module _ (k x y : ℕ) (stamps holders : Bytes) (e : y ≡ byte_at stamps x) (ls : length stamps ≡ most_elements) (lh : length holders ≡ most_elements) where
  pub stamp_old : y ≡ k → Raised k stamps holders stamps holders (eqb x)
  stamp_old h = record { stamp_room = ls; count_room = lh; stamp = λ z l. sym (same z (eqb x z) refl); count = λ z l. sym (none z (eqb x z) refl) }
    where
      same : (z : ℕ) (b : Bool) → eqb x z ≡ b → cond (eqb x z) k (byte_at stamps z) ≡ byte_at stamps z
      same z true w = ap (λ b. cond b k (byte_at stamps z)) w ∙ sym h ∙ e ∙ ap (byte_at stamps) (eqb-true x z w)
      same z false w = ap (λ b. cond b k (byte_at stamps z)) w

      none : (z : ℕ) (b : Bool) → eqb x z ≡ b → byte_at holders z + cond (eqb x z && not (eqb (byte_at stamps z) k)) 1 0 ≡ byte_at holders z
      none z true w =
          let s : eqb (byte_at stamps z) k ≡ true = eq-eqb (byte_at stamps z) k (ap (byte_at stamps) (sym (eqb-true x z w)) ∙ sym e ∙ h) in
          ap (λ b. byte_at holders z + cond b 1 0) (and_right (eqb x z) (not (eqb (byte_at stamps z) k)) (ap not s))
          ∙ (let n : byte_at holders z + 0 ≡ byte_at holders z = omega arith in n)
      none z false w =
          ap (λ b. byte_at holders z + cond b 1 0) (and_left (eqb x z) (not (eqb (byte_at stamps z) k)) w)
          ∙ (let n : byte_at holders z + 0 ≡ byte_at holders z = omega arith in n)

  pub stamp_new : (c : ℕ) (stamped raised : Bytes) → (y ≡ k → ⊥) → stamped ≡ set stamps x k → c ≡ byte_at holders x → raised ≡ set holders x (c + 1)
      → Raised k stamps holders stamped raised (eqb x)
  stamp_new c stamped raised ne se ce re = record {
    stamp_room = ap length se ∙ length-set stamps x k ∙ ls;
    count_room = ap length re ∙ length-set holders x (c + 1) ∙ lh;
    stamp = λ z l. ap (λ (b : Bytes). byte_at b z) se ∙ stamp z l (eqb x z) refl;
    count = λ z l. ap (λ (b : Bytes). byte_at b z) re ∙ count z l (eqb x z) refl;
  }
    where
      stamp : (z : ℕ) → z < most_elements → (b : Bool) → eqb x z ≡ b → byte_at (set stamps x k) z ≡ cond (eqb x z) k (byte_at stamps z)
      stamp z l true w =
          let p : x ≡ z = eqb-true x z w in
          ap (byte_at (set stamps x k)) (sym p) ∙ get_or-set_same stamps x k 0 (omega arith) ∙ sym (ap (λ b. cond b k (byte_at stamps z)) w)
      stamp z l false w = get_or-set_other stamps x z k 0 (λ p. eqb-false x z w (sym p)) ∙ sym (ap (λ b. cond b k (byte_at stamps z)) w)

      count : (z : ℕ) → z < most_elements → (b : Bool) → eqb x z ≡ b → byte_at (set holders x (c + 1)) z ≡ byte_at holders z + cond (eqb x z && not (eqb (byte_at stamps z) k)) 1 0
      count z l true w =
          let p : x ≡ z = eqb-true x z w in
          ap (byte_at (set holders x (c + 1))) (sym p)
          ∙ get_or-set_same holders x (c + 1) 0 (omega arith)
          ∙ ap (λ n. n + 1) (ce ∙ ap (byte_at holders) p)
          ∙ sym (ap₂ (λ a b. byte_at holders z + cond (a && not b) 1 0) w (ne_eqb (byte_at stamps z) k (λ q. ne (e ∙ ap (byte_at stamps) p ∙ q))))
      count z l false w =
          get_or-set_other holders x z (c + 1) 0 (λ p. eqb-false x z w (sym p))
          ∙ (let n : byte_at holders z ≡ byte_at holders z + 0 = omega arith in n)
          ∙ sym (ap (λ b. byte_at holders z + cond b 1 0) (and_left (eqb x z) (not (eqb (byte_at stamps z) k)) w))

-- ---- several places

raised_none : (k : ℕ) (stamps holders : Bytes) (p : ℕ → Bool) → length stamps ≡ most_elements → length holders ≡ most_elements → ((x : ℕ) → p x ≡ false) → Raised k stamps holders stamps holders p
raised_none k stamps holders p ls lh f = record {
  stamp_room = ls;
  count_room = lh;
  stamp = λ x h. sym (ap (λ b. cond b k (byte_at stamps x)) (f x));
  count = λ x h.
      (let n : byte_at holders x ≡ byte_at holders x + 0 = omega arith in n)
      ∙ sym (ap (λ b. byte_at holders x + cond b 1 0) (and_left (p x) (not (eqb (byte_at stamps x) k)) (f x)));
}

raised_as : (k : ℕ) (a b c d : Bytes) (p r : ℕ → Bool) → ((x : ℕ) → p x ≡ r x) → Raised k a b c d p → Raised k a b c d r
raised_as k a b c d p r f P = record {
  stamp_room = P.stamp_room;
  count_room = P.count_room;
  stamp = λ x h. P.stamp x h ∙ ap (λ t. cond t k (byte_at a x)) (f x);
  count = λ x h. P.count x h ∙ ap (λ t. byte_at b x + cond (t && not (eqb (byte_at a x) k)) 1 0) (f x);
}

-- a place that passes twice is counted once
raised_both : (k : ℕ) (a b c d e f : Bytes) (p r : ℕ → Bool) → Raised k a b c d p → Raised k c d e f r → Raised k a b e f (λ x. p x || r x)
raised_both k a b c d e f p r P Q = record {
  stamp_room = Q.stamp_room;
  count_room = Q.count_room;
  stamp = λ x h. Q.stamp x h ∙ ap (cond (r x) k) (P.stamp x h) ∙ last (p x) (r x) (byte_at a x);
  count = λ x h. Q.count x h ∙ ap₂ (λ n s. n + cond (r x && not (eqb s k)) 1 0) (P.count x h) (P.stamp x h) ∙ once (p x) (r x) (byte_at a x) (byte_at b x);
}
  where
    last : (p r : Bool) (s : ℕ) → cond r k (cond p k s) ≡ cond (p || r) k s
    last true true s = refl
    last true false s = refl
    last false true s = refl
    last false false s = refl

    once : (p r : Bool) (s n : ℕ) → n + cond (p && not (eqb s k)) 1 0 + cond (r && not (eqb (cond p k s) k)) 1 0 ≡ n + cond ((p || r) && not (eqb s k)) 1 0
    once true true s n =
        ap (λ t. n + cond (not (eqb s k)) 1 0 + cond (not t) 1 0) (eq-eqb k k refl)
        ∙ (let z : n + cond (not (eqb s k)) 1 0 + 0 ≡ n + cond (not (eqb s k)) 1 0 = omega arith in z)
    once true false s n = let z : n + cond (not (eqb s k)) 1 0 + 0 ≡ n + cond (not (eqb s k)) 1 0 = omega arith in z
    once false true s n = let z : n + 0 + cond (not (eqb s k)) 1 0 ≡ n + cond (not (eqb s k)) 1 0 = omega arith in z
    once false false s n = let z : n + 0 + 0 ≡ n + 0 = omega arith in z

one_few : (b : Bool) → cond b 1 0 ≤ 1
one_few true = omega arith
one_few false = omega arith

-- what was small is still
pub raised_few : (k n : ℕ) (a b c d : Bytes) (p : ℕ → Bool) → Few n b → Raised k a b c d p → Few (n + 1) d
raised_few k n a b c d p F P = record { room = P.count_room; each = λ x. go x (ltb x most_elements) refl }
  where
    go : (x : ℕ) (t : Bool) → ltb x most_elements ≡ t → byte_at d x ≤ n + 1
    go x true e = omega (arith, P.count x (ltb-true x most_elements e), F.each x, one_few (p x && not (eqb (byte_at a x) k)))
    go x false e = let l : most_elements ≤ x = ltb-false x most_elements e in omega (arith, get_or_past d x 0 (omega (arith, P.count_room)))

pub raised_stamps : (k : ℕ) (a b c d : Bytes) (p : ℕ → Bool) → Few k a → Raised (k + 1) a b c d p → Few (k + 1) c
raised_stamps k a b c d p F P = record { room = P.stamp_room; each = λ x. go x (ltb x most_elements) refl }
  where
    most : (b : Bool) (x : ℕ) → x ≤ k → cond b (k + 1) x ≤ k + 1
    most true x l = omega arith
    most false x l = omega arith

    go : (x : ℕ) (t : Bool) → ltb x most_elements ≡ t → byte_at c x ≤ k + 1
    go x true e = omega (arith, P.stamp x (ltb-true x most_elements e), most (p x) (byte_at a x) (F.each x))
    go x false e = let l : most_elements ≤ x = ltb-false x most_elements e in omega (arith, get_or_past c x 0 (omega (arith, P.stamp_room)))

pub few_more : (n w : ℕ) (row : Bytes) → n ≤ w → Few n row → Few w row
few_more n w row h F = record { room = F.room; each = λ x. omega (arith, F.each x) }

-- ---- the reach of a cell

-- there is room for one more
pub pass_room : (k x : ℕ) (s h s₁ h₁ : Bytes) (p : ℕ → Bool) → Few most_parts h → Raised k s h s₁ h₁ p → (length s₁ ≡ most_elements) × (length h₁ ≡ most_elements) × (byte_at h₁ x < 255)
pass_room k x s h s₁ h₁ p F P = (P.stamp_room, P.count_room, omega (arith, (raised_few k most_parts s h s₁ h₁ p F P).each x))

module _ (table : Bytes) (k a : ℕ) where
  pub pass_start : (stamps holders : Bytes) → length stamps ≡ most_elements → Few most_parts holders → Raised k stamps holders stamps holders (has_entry table a (a - a))
  unfolding has_entry
  pass_start stamps holders l F =
      let z : a - a ≡ 0 = omega arith in
      raised_none k stamps holders (λ x. some a (a - a) (λ t. eqb (word_at table (2 * t)) x)) l F.room
      (λ x. ap (λ n. some a n (λ t. eqb (word_at table (2 * t)) x)) z ∙ some_start a (λ t. eqb (word_at table (2 * t)) x))

  pub pass_turn : (t x : ℕ) (s h s₁ h₁ s₂ h₂ : Bytes) → a ≤ t → Raised k s h s₁ h₁ (has_entry table a (t - a)) → x ≡ word_at table (2 * t) → Raised k s₁ h₁ s₂ h₂ (eqb x)
      → Raised k s h s₂ h₂ (has_entry table a (t + 1 - a))
  unfolding has_entry
  pass_turn t x s h s₁ h₁ s₂ h₂ l P e Q =
      raised_as k s h s₂ h₂ (λ y. some a (t - a) (λ t. eqb (word_at table (2 * t)) y) || eqb x y) (λ y. some a (t + 1 - a) (λ t. eqb (word_at table (2 * t)) y))
      (λ y.
      ap (λ z. some a (t - a) (λ t. eqb (word_at table (2 * t)) y) || eqb z y) (e ∙ ap (λ u. word_at table (2 * u)) here)
      ∙ sym (some_next a (t - a) (λ t. eqb (word_at table (2 * t)) y))
      ∙ ap (λ n. some a n (λ t. eqb (word_at table (2 * t)) y)) next)
      (raised_both k s h s₁ h₁ s₂ h₂ (λ y. some a (t - a) (λ t. eqb (word_at table (2 * t)) y)) (eqb x) P Q)
    where
      here : t ≡ a + (t - a)
      here = omega arith

      next : t - a + 1 ≡ t + 1 - a
      next = omega arith

pub reach_end : (table : Bytes) (ends : List ℕ) (q k : ℕ) (s h s₁ h₁ : Bytes) (a z t : ℕ) → a ≡ get_or ends q 0 → z ≡ get_or ends (q + 1) 0 → z ≤ t → (t ≤ z) ⊎ (t ≡ a)
    → Raised k s h s₁ h₁ (has_entry table a (t - a)) → Raised k s h s₁ h₁ (reach_has table ends q)
unfolding reach_has
reach_end table ends q k s h s₁ h₁ a z t ae ze l c P =
    raised_as k s h s₁ h₁ (has_entry table a (t - a)) (has_entry table (get_or ends q 0) (get_or ends (q + 1) 0 - get_or ends q 0)) (λ x. ap₂ (λ u n. has_entry table u n x) ae whole) P
  where
    whole : t - a ≡ get_or ends (q + 1) 0 - get_or ends q 0
    whole = ⊎_elim (λ g. omega arith) (λ g. omega arith) c

-- ---- the cells of a part by their links

-- the places `done` of the group are counted, and link s leads on
pub record Following (start next : List ℕ) (table : Bytes) (ends : List ℕ) (cells k : ℕ) (stamps holders stamped raised : Bytes) (t s : ℕ) : Type 0 where
  pub done : List ℕ
  pub left : group next cells (get_or start k 0) ≡ done ++ group next (cells - t) s
  pub counted : Raised k stamps holders stamped raised (λ x. some_of done (λ q. reach_has table ends q x))

module _ (start next : List ℕ) (table : Bytes) (ends : List ℕ) (cells k : ℕ) where
  pub follow_start : (s : ℕ) (stamps holders : Bytes) → s ≡ get_or start k 0 → length stamps ≡ most_elements → Few 15 holders
      → Following start next table ends cells k stamps holders stamps holders 0 s
  unfolding some_of
  follow_start s stamps holders e l F = record {
    done = [];
    left = left_start next (group next cells (get_or start k 0)) cells s (ap (group next cells) e);
    counted = raised_none k stamps holders (λ x. false) l F.room (λ x. refl);
  }

  module _ (t s : ℕ) (stamps holders s₁ h₁ : Bytes) (P : Following start next table ends cells k stamps holders s₁ h₁ t s) where
    pub follow_room : s < 65536 → Few 15 holders → (s - 1 < 65536) × (length s₁ ≡ most_elements) × Few most_parts h₁
    follow_room h F = (omega arith, P.counted.stamp_room, raised_few k 15 stamps holders s₁ h₁ _ F P.counted)

    pub follow_turn : (r : ℕ) (s₂ h₂ : Bytes) → t < cells → 1 ≤ s → Raised k s₁ h₁ s₂ h₂ (reach_has table ends (s - 1)) → r ≡ get_or next (s - 1) 0
        → Following start next table ends cells k stamps holders s₂ h₂ (t + 1) r
    unfolding some_of
    follow_turn r s₂ h₂ h l Q e = record {
      done = P.done ++ ((s - 1) ∷ []);
      left =
          left_turn next (group next cells (get_or start k 0)) cells t s P.done P.left h l
          ∙ ap (λ x. (P.done ++ ((s - 1) ∷ [])) ++ group next (cells - (t + 1)) x) (sym e);
      counted =
          raised_as k stamps holders s₂ h₂ (λ x. some_of P.done (λ q. reach_has table ends q x) || reach_has table ends (s - 1) x)
          (λ x. some_of (P.done ++ ((s - 1) ∷ [])) (λ q. reach_has table ends q x))
          (λ x.
          ap (λ b. some_of P.done (λ q. reach_has table ends q x) || b) (sym (or_nothing (reach_has table ends (s - 1) x)))
          ∙ sym (some_of_append (λ q. reach_has table ends q x) P.done ((s - 1) ∷ [])))
          (raised_both k stamps holders s₁ h₁ s₂ h₂ (λ x. some_of P.done (λ q. reach_has table ends q x)) (reach_has table ends (s - 1)) P.counted Q);
    }

    all_done : group next cells (get_or start k 0) ≡ P.done → Raised k stamps holders s₁ h₁ (group_reach start next table ends cells k)
    unfolding group_reach
    all_done e =
        raised_as k stamps holders s₁ h₁ (λ x. some_of P.done (λ q. reach_has table ends q x)) (λ x. some_of (group next cells (get_or start k 0)) (λ q. reach_has table ends q x))
        (λ x. ap (λ xs. some_of xs (λ q. reach_has table ends q x)) (sym e)) P.counted

    pub follow_stop : s < 1 → Raised k stamps holders s₁ h₁ (group_reach start next table ends cells k)
    follow_stop h = all_done (left_stop next (group next cells (get_or start k 0)) cells t s P.done P.left h)

    pub follow_end : cells ≤ t → Raised k stamps holders s₁ h₁ (group_reach start next table ends cells k)
    follow_end h = all_done (left_end next (group next cells (get_or start k 0)) cells t s P.done P.left h)

-- the linked cells of owner k are those that part k owns
pub raised_owned : (owners table : Bytes) (ends : List ℕ) (cells k : ℕ) (start next : List ℕ) (s h s₁ h₁ : Bytes) → Grouped owners cells start next → k < 19
    → Raised k s h s₁ h₁ (group_reach start next table ends cells k) → Raised k s h s₁ h₁ (reached_at owners table ends k cells)
unfolding group_reach reached_at owns_at byte_places
raised_owned owners table ends cells k start next s h s₁ h₁ G l P =
    raised_as k s h s₁ h₁ (λ x. some_of (group next cells (get_or start k 0)) (λ q. reach_has table ends q x)) (λ x. some 0 cells (λ q. eqb (owner_at owners q) k && reach_has table ends q x))
    (λ x. ap (λ xs. some_of xs (λ q. reach_has table ends q x)) (G.each k l) ∙ some_of_picked 0 cells (λ q. eqb (byte_at owners q) k) (λ q. reach_has table ends q x)) P

-- ---- all parts

pub few_start : (row : Bytes) → RowCleared most_elements row → Few 0 row
few_start row C = record { room = C.room; each = λ x. low x (ltb x most_elements) refl }
  where
    low : (x : ℕ) (b : Bool) → ltb x most_elements ≡ b → byte_at row x ≤ 0
    low x true e = omega (arith, C.each x (ltb-true x most_elements e))
    low x false e = let l : most_elements ≤ x = ltb-false x most_elements e in omega (arith, get_or_past row x 0 (omega (arith, C.room)))

module _ (owners table : Bytes) (ends : List ℕ) (cells : ℕ) where
  pub count_start : (holders : Bytes) → RowCleared most_elements holders → Counted owners table ends cells 0 holders
  count_start holders C =
      let F = few_start holders C in
      record { few = F; each = λ q h. (let z : byte_at holders q ≡ 0 = omega (arith, F.each q) in z) ∙ sym (total_start 1 (held_by owners table ends cells q)) }

  pub count_room : (k parts : ℕ) (stamps holders : Bytes) → k < parts → parts ≤ most_parts → Few k stamps → Counted owners table ends cells k holders
      → (length stamps ≡ most_elements) × Few 15 holders
  count_room k parts stamps holders h few T C = (T.room, few_more k 15 holders (omega arith) C.few)

  module _ (k : ℕ) (small : cells ≤ most_elements) (s h s₁ h₁ : Bytes) (T : Few k s) (C : Counted owners table ends cells k h)
      (P : Raised (k + 1) s h s₁ h₁ (reached_at owners table ends (k + 1) cells)) where
    pub count_turn : Counted owners table ends cells (k + 1) h₁
    unfolding held_by
    count_turn = record {
      few = raised_few (k + 1) k s h s₁ h₁ (reached_at owners table ends (k + 1) cells) C.few P;
      each = λ q l.
          P.count q (omega arith)
          ∙ ap₂ (λ n t. n + cond (reached_at owners table ends (k + 1) cells q && not t) 1 0) (C.each q l) (ne_eqb (byte_at s q) (k + 1) (λ e. let no : ⊥ = omega (arith, T.each q) in no))
          ∙ ap (λ b. total 1 k (held_by owners table ends cells q) + cond b 1 0) (all (reached_at owners table ends (k + 1) cells q))
          ∙ ap (λ j. total 1 k (held_by owners table ends cells q) + cond (reached_at owners table ends j cells q) 1 0) (let z : k + 1 ≡ 1 + k = omega arith in z)
          ∙ sym (total_turn 1 (held_by owners table ends cells q) k);
    }
      where
        all : (b : Bool) → b && true ≡ b
        all true = refl
        all false = refl

pub sum_start : (row : Bytes) → 0 ≡ row_sum row 0
unfolding row_sum
sum_start row = sym (total_start 0 (byte_at row))

pub sum_turn : (row : Bytes) (q s x : ℕ) → s ≡ row_sum row q → x ≡ byte_at row q → s + x ≡ row_sum row (q + 1)
unfolding row_sum
sum_turn row q s x e f = ap₂ ◌+◌ e (f ∙ ap (byte_at row) (sym (zero-add q))) ∙ sym (total_turn 0 (byte_at row) q)

pub sum_end : (row : Bytes) (q cells s : ℕ) → q ≤ cells → cells ≤ q → s ≡ row_sum row q → s ≡ row_sum row cells
sum_end row q cells s g h e = at_last (λ n. s ≡ row_sum row n) q cells g h e

pub holders_told : (owners table : Bytes) (ends : List ℕ) (cells k parts : ℕ) (holders : Bytes) (s : ℕ) → k ≤ parts → parts ≤ k → Counted owners table ends cells k holders → s ≡ row_sum holders cells
    → Holders owners table ends cells parts holders s
unfolding row_sum part_held
holders_told owners table ends cells k parts holders s g h C e =
    let D : Counted owners table ends cells parts holders = at_last (λ n. Counted owners table ends cells n holders) k parts g h C in
    record {
      counted = D;
      sum =
          e
          ∙ total_cong 0 (byte_at holders) (λ q. total 1 parts (held_by owners table ends cells q)) cells (λ q l. D.each (0 + q) (omega arith))
          ∙ total_swap 0 cells 1 parts (held_by owners table ends cells);
    }

-- The classes of the cells as the code finds them in one pass, and that they are those of the definitions. Assumes nothing.
use mathlib.Core.Path.{◌≡◌, refl, sym, ap, ap₂, ◌∙◌}
use mathlib.Core.Logic.{◌⊎◌, ⊎_elim}
use mathlib.Core.Bool.{Bool, true, false, not, ◌&&◌, ◌||◌, cond}
use mathlib.Core.List.{List}
use Prim.Native.Nat.{ℕ, suc, ◌+◌, ◌-◌, ◌*◌, ◌≤◌, ◌<◌}
use native.Mathlib.Nat.{zero-add}
use native.Mathlib.Omega.{arith}
use lib.Dec.{eqb, ltb}
use lib.ListN.{length, get_or, set, length-set, replicate, length-replicate}
use lib.Seq.{get_or-set_same, get_or-set_other}
use borrow.Author.Tests.{eqb-true, eqb-false, eq-eqb, ne_eqb, lt-ltb, le-ltb, ltb-true, ltb-false}
use Rattle.split.specs.Split.{owner_at}
use Rattle.vocabulary.specs.Bytes.{Bytes, byte_at}
use Rattle.vocabulary.specs.Intervals.{every, some}
use Rattle.vocabulary.proofs.IntervalLaws.{some_next, at_last}
use Rattle.vocabulary.proofs.ListLaws.{zeros_at, and_left, and_right, or_nothing, not_both}
use Rattle.layout.specs.Words.{word_at}
use Rattle.layout.specs.Limits.{most_elements}
use Rattle.split.specs.Owners.{owns_at}
use Rattle.split_classes.specs.Classes.{entry_owned, inside_at, has_entry, reach_has, entry_is, reached_at, class_at, Classed, RowCleared, OwnersMarked}

-- ---- a cleared row

pub cleared : (before class : Bytes) → length before ≡ most_elements → class ≡ replicate (length before) 0 → RowCleared most_elements class
cleared before class l e = record {
  room = ap length e ∙ length-replicate {A = ℕ} (length before) 0 ∙ l;
  each = λ x h. ap (λ (b : Bytes). byte_at b x) e ∙ zeros_at (length before) x;
}

-- ---- one entry

module _ (owners table : Bytes) (i t w o : ℕ) (we : w ≡ word_at table (2 * t)) (oe : o ≡ owner_at owners w) (inside : Bool) (before : Bytes) where
  own_here : entry_owned owners table i t ≡ eqb o i
  unfolding entry_owned owns_at
  own_here = ap (λ x. eqb (owner_at owners x) i) (sym we) ∙ ap (λ x. eqb x i) (sym oe)

  pub entry_own : o ≡ i → (inside ≡ inside && entry_owned owners table i t) × OwnersMarked owners i before before (entry_is table t)
  unfolding entry_is owns_at
  entry_own e = (sym (ap (λ b. inside && b) (own_here ∙ eq-eqb o i e) ∙ all inside), record { size = refl; each = λ x h. sym (kept x (eqb w x) refl) })
    where
      all : (b : Bool) → b && true ≡ b
      all true = refl
      all false = refl

      kept : (x : ℕ) (b : Bool) → eqb w x ≡ b → cond (entry_is table t x && not (owns_at owners i x)) (owner_at owners x) (byte_at before x) ≡ byte_at before x
      kept x true p =
          ap (λ b. cond b (owner_at owners x) (byte_at before x))
          (and_right (eqb (word_at table (2 * t)) x) (not (eqb (owner_at owners x) i)) (ap not (eq-eqb (owner_at owners x) i (ap (owner_at owners) (sym (eqb-true w x p)) ∙ sym oe ∙ e))))
      kept x false p =
          ap (λ b. cond b (owner_at owners x) (byte_at before x)) (and_left (eqb (word_at table (2 * t)) x) (not (eqb (owner_at owners x) i)) (ap (λ y. eqb y x) (sym we) ∙ p))

  pub entry_other : (after : Bytes) → (o ≡ i → ⊥) → after ≡ set before w o → (false ≡ inside && entry_owned owners table i t) × OwnersMarked owners i before after (entry_is table t)
  unfolding entry_is owns_at
  entry_other after ne e = (
    sym (ap (λ b. inside && b) (own_here ∙ ne_eqb o i ne) ∙ none inside),
    record { size = ap length e ∙ length-set before w o; each = λ x h. ap (λ (c : Bytes). byte_at c x) e ∙ told x h (eqb w x) refl },
  )
    where
      none : (b : Bool) → b && false ≡ false
      none true = refl
      none false = refl

      told : (x : ℕ) → x < length before → (b : Bool) → eqb w x ≡ b → byte_at (set before w o) x ≡ cond (entry_is table t x && not (owns_at owners i x)) (owner_at owners x) (byte_at before x)
      told x h true p =
          let q : w ≡ x = eqb-true w x p in
          let here : owner_at owners x ≡ o = ap (owner_at owners) (sym q) ∙ sym oe in
          ap (byte_at (set before w o)) (sym q)
          ∙ get_or-set_same before w o 0 (omega arith)
          ∙ sym here
          ∙ sym (ap₂ (λ a b. cond (a && not b) (owner_at owners x) (byte_at before x)) (ap (λ y. eqb y x) (sym we) ∙ p) (ne_eqb (owner_at owners x) i (λ z. ne (sym here ∙ z))))
      told x h false p =
          get_or-set_other before w x o 0 (λ q. eqb-false w x p (sym q))
          ∙ sym (ap (λ a. cond (a && not (eqb (owner_at owners x) i)) (owner_at owners x) (byte_at before x)) (ap (λ y. eqb y x) (sym we) ∙ p))

-- ---- the entries of a reach, from a up to but without t

pub record Passing (owners table : Bytes) (i a t : ℕ) (inside : Bool) (before after : Bytes) : Type 0 where
  pub told : inside ≡ every a (t - a) (entry_owned owners table i)
  pub marked : OwnersMarked owners i before after (has_entry table a (t - a))

pub pass_start : (owners table : Bytes) (i a : ℕ) (class : Bytes) → Passing owners table i a a true class class
unfolding has_entry
pass_start owners table i a class =
    let z : a - a ≡ 0 = omega arith in
    record {
      told = sym (ap (λ n. every a n (entry_owned owners table i)) z ∙ (unfold every in refl));
      marked = record {
        size = refl;
        each = λ x h. sym (ap (λ n. cond (some a n (λ t. eqb (word_at table (2 * t)) x) && not (owns_at owners i x)) (owner_at owners x) (byte_at class x)) z ∙ (unfold some in refl));
      };
    }

pub pass_turn : (owners table : Bytes) (i a t : ℕ) (b c : Bool) (before class after : Bytes) → a ≤ t → Passing owners table i a t b before class → c ≡ b && entry_owned owners table i t
    → OwnersMarked owners i class after (entry_is table t) → Passing owners table i a (t + 1) c before after
unfolding has_entry entry_is some every
pass_turn owners table i a t b c before class after l P ce M = record {
  told = ce ∙ ap₂ (λ x y. x && entry_owned owners table i y) P.told (sym here) ∙ sym (ap (λ n. every a n (entry_owned owners table i)) next);
  marked = record {
    size = M.size ∙ P.marked.size;
    each = λ x h. M.each x (omega (arith, P.marked.size)) ∙ ap
        (λ y. cond (entry_is table t x && not (owns_at owners i x)) (owner_at owners x) y) (P.marked.each x h) ∙ twice (entry_is table t x) (has_entry table a (t - a) x)
        (owns_at owners i x) (owner_at owners x) (byte_at before x) ∙ ap (λ y. cond (y && not (owns_at owners i x)) (owner_at owners x) (byte_at before x)) (more x);
  };
}
  where
    here : a + (t - a) ≡ t
    here = omega arith

    next : t + 1 - a ≡ suc (t - a)
    next = omega arith

    twice : (p q o : Bool) (x y : ℕ) → cond (p && not o) x (cond (q && not o) x y) ≡ cond ((q || p) && not o) x y
    twice true true true x y = refl
    twice true true false x y = refl
    twice true false true x y = refl
    twice true false false x y = refl
    twice false true true x y = refl
    twice false true false x y = refl
    twice false false true x y = refl
    twice false false false x y = refl

    more : (x : ℕ) → has_entry table a (t - a) x || entry_is table t x ≡ has_entry table a (t + 1 - a) x
    more x = ap (λ y. some a (t - a) (λ t. eqb (word_at table (2 * t)) x) || eqb (word_at table (2 * y)) x) (sym here) ∙ sym (ap (λ n. some a n (λ t. eqb (word_at table (2 * t)) x)) next)

pub pass_end : (owners table : Bytes) (ends : List ℕ) (i q a z t : ℕ) (b : Bool) (before after : Bytes) → a ≡ get_or ends q 0 → z ≡ get_or ends (q + 1) 0 → z ≤ t → (t ≤ z) ⊎ (t ≡ a)
    → Passing owners table i a t b before after → (b ≡ inside_at owners table ends i q) × OwnersMarked owners i before after (reach_has table ends q)
unfolding inside_at reach_has
pass_end owners table ends i q a z t b before after ae ze h c P = (
  P.told ∙ ap₂ (λ x y. every x y (entry_owned owners table i)) ae whole,
  record { size = P.marked.size; each = λ x l. P.marked.each x l ∙ ap₂ (λ u n. cond (has_entry table u n x && not (owns_at owners i x)) (owner_at owners x) (byte_at before x)) ae whole },
)
  where
    whole : t - a ≡ get_or ends (q + 1) 0 - get_or ends q 0
    whole = ⊎_elim (λ g. omega arith) (λ g. omega arith) c

-- ---- one cell more

pub class_start : (owners table : Bytes) (ends : List ℕ) (i : ℕ) (class : Bytes) → RowCleared most_elements class → Classed owners table ends i 0 class
unfolding class_at reached_at some
class_start owners table ends i class C = record { room = C.room; each = λ x h. C.each x h ∙ sym (none x) }
  where
    either : (b : Bool) → ◌≡◌ {A = ℕ} (cond b 0 0) 0
    either true = refl
    either false = refl

    none : (x : ℕ) → class_at owners table ends i 0 x ≡ 0
    none x = ap (λ b. cond (owns_at owners i x) (cond b (cond (inside_at owners table ends i x) 17 18) 0) 0) (le-ltb x 0 (omega arith)) ∙ either (owns_at owners i x)

module _ (owners table : Bytes) (ends : List ℕ) (i q o : ℕ) (small : q < most_elements) (oe : o ≡ owner_at owners q) (before : Bytes) (C : Classed owners table ends i q before) where
  -- whether x stands before q + 1, where it is not q
  before_next : (x : ℕ) → (x ≡ q → ⊥) → ltb x (q + 1) ≡ ltb x q
  before_next x ne = go (ltb x q) refl
    where
      go : (b : Bool) → ltb x q ≡ b → ltb x (q + 1) ≡ b
      go true e = lt-ltb x (q + 1) (omega (arith, ltb-true x q e))
      go false e = let l : q ≤ x = ltb-false x q e in le-ltb x (q + 1) (omega arith)

  reached_next : (x : ℕ) → reached_at owners table ends i (q + 1) x ≡ reached_at owners table ends i q x || (owns_at owners i q && reach_has table ends q x)
  unfolding reached_at
  reached_next x =
      some_next 0 q (λ q. owns_at owners i q && reach_has table ends q x)
      ∙ ap (λ y. some 0 q (λ q. owns_at owners i q && reach_has table ends q x) || (owns_at owners i y && reach_has table ends y x)) (zero-add q)

  pub class_skip : (o ≡ i → ⊥) → Classed owners table ends i (q + 1) before
  unfolding owns_at class_at
  class_skip ne = record { room = C.room; each = λ x h. C.each x h ∙ go x (owns_at owners i x) refl }
    where
      other : owns_at owners i q ≡ false
      other = ne_eqb (owner_at owners q) i (λ z. ne (oe ∙ z))

      go : (x : ℕ) (b : Bool) → owns_at owners i x ≡ b → class_at owners table ends i q x ≡ class_at owners table ends i (q + 1) x
      go x true e =
          ap (λ l. cond (owns_at owners i x) (cond l (cond (inside_at owners table ends i x) 17 18) 0) (cond (reached_at owners table ends i q x) (owner_at owners x) 0))
          (sym (before_next x (λ z. not_same (sym e ∙ ap (owns_at owners i) z ∙ other))))
          ∙ ap (λ b. cond b (cond (ltb x (q + 1)) (cond (inside_at owners table ends i x) 17 18) 0) (cond (reached_at owners table ends i q x) (owner_at owners x) 0)) e
          ∙ sym (ap (λ b. cond b (cond (ltb x (q + 1)) (cond (inside_at owners table ends i x) 17 18) 0) (cond (reached_at owners table ends i (q + 1) x) (owner_at owners x) 0)) e)
        where
          not_same : true ≡ false → ⊥
          not_same z = not_both true refl z
      go x false e =
          ap (λ b. cond b (cond (ltb x q) (cond (inside_at owners table ends i x) 17 18) 0) (cond (reached_at owners table ends i q x) (owner_at owners x) 0)) e
          ∙ ap (λ b. cond b (owner_at owners x) 0)
          (sym (reached_next x ∙ ap (λ b. reached_at owners table ends i q x || (b && reach_has table ends q x)) other ∙ or_nothing
          (reached_at owners table ends i q x)))
          ∙ sym (ap (λ b. cond b (cond (ltb x (q + 1)) (cond (inside_at owners table ends i x) 17 18) 0) (cond (reached_at owners table ends i (q + 1) x) (owner_at owners x) 0)) e)

  pub class_own : (inside : Bool) (marked after : Bytes) (k : ℕ) → o ≡ i → inside ≡ inside_at owners table ends i q
      → OwnersMarked owners i before marked (reach_has table ends q) → k ≡ cond inside 17 18
      → after ≡ set marked q k → Classed owners table ends i (q + 1) after
  unfolding owns_at class_at
  class_own inside marked after k own ie M ke e = record {
    room = ap length e ∙ length-set marked q k ∙ M.size ∙ C.room;
    each = λ x h. ap (λ (c : Bytes). byte_at c x) e ∙ go x h (eqb x q) refl;
  }
    where
      mine : owns_at owners i q ≡ true
      mine = eq-eqb (owner_at owners q) i (sym oe ∙ own)

      -- another place, by whether part i owns it
      rest : (x : ℕ) → (x ≡ q → ⊥) → (b : Bool) → owns_at owners i x ≡ b
          → cond (reach_has table ends q x && not (owns_at owners i x)) (owner_at owners x) (class_at owners table ends i q x) ≡ class_at owners table ends i (q + 1) x
      rest x ne true w =
          ap (λ y. cond y (owner_at owners x)
          (cond (owns_at owners i x) (cond (ltb x q) (cond (inside_at owners table ends i x) 17 18) 0)
          (cond (reached_at owners table ends i q x) (owner_at owners x) 0))) (and_right (reach_has table ends q x) (not (owns_at owners i x)) (ap not w))
          ∙ ap₂ (λ y l. cond y (cond l (cond (inside_at owners table ends i x) 17 18) 0) (cond (reached_at owners table ends i q x) (owner_at owners x) 0)) w (sym (before_next x ne))
          ∙ sym (ap (λ b. cond b (cond (ltb x (q + 1)) (cond (inside_at owners table ends i x) 17 18) 0) (cond (reached_at owners table ends i (q + 1) x) (owner_at owners x) 0)) w)
      rest x ne false w =
          ap (λ y. cond (reach_has table ends q x && not y) (owner_at owners x)
          (cond y (cond (ltb x q) (cond (inside_at owners table ends i x) 17 18) 0) (cond (reached_at owners table ends i q x) (owner_at owners x) 0))) w
          ∙ twice (reach_has table ends q x) (reached_at owners table ends i q x) (owner_at owners x)
          ∙ ap (λ b. cond b (owner_at owners x) 0) (sym (reached_next x ∙ ap (λ b. reached_at owners table ends i q x || (b && reach_has table ends q x)) mine))
          ∙ sym (ap (λ b. cond b (cond (ltb x (q + 1)) (cond (inside_at owners table ends i x) 17 18) 0) (cond (reached_at owners table ends i (q + 1) x) (owner_at owners x) 0)) w)
        where
          twice : (p r : Bool) (y : ℕ) → cond (p && true) y (cond r y 0) ≡ cond (r || p) y 0
          twice true true y = refl
          twice true false y = refl
          twice false true y = refl
          twice false false y = refl

      go : (x : ℕ) → x < most_elements → (b : Bool) → eqb x q ≡ b → byte_at (set marked q k) x ≡ class_at owners table ends i (q + 1) x
      go x h true w =
          let z : x ≡ q = eqb-true x q w in
          ap (byte_at (set marked q k)) z
          ∙ get_or-set_same marked q k 0 (omega (arith, M.size, C.room))
          ∙ ke
          ∙ ap (λ b. cond b 17 18) ie
          ∙ sym (ap (class_at owners table ends i (q + 1)) z ∙
          (unfold class_at in ap₂
          (λ a b. cond a (cond b (cond (inside_at owners table ends i q) 17 18) 0) (cond (reached_at owners table ends i (q + 1) q) (owner_at owners q) 0)) mine
          (lt-ltb q (q + 1) (omega arith))))
      go x h false w =
          let ne : x ≡ q → ⊥ = eqb-false x q w in
          get_or-set_other marked q x k 0 ne
          ∙ M.each x (omega (arith, C.room))
          ∙ ap (λ y. cond (reach_has table ends q x && not (owns_at owners i x)) (owner_at owners x) y) (C.each x h)
          ∙ rest x ne (owns_at owners i x) refl

pub class_end : (owners table : Bytes) (ends : List ℕ) (i q cells : ℕ) (class : Bytes) → q ≤ cells → cells ≤ q → Classed owners table ends i q class → Classed owners table ends i cells class
class_end owners table ends i q cells class g h C = at_last (λ n. Classed owners table ends i n class) q cells g h C

-- Following the cells of a part by their links: which cells they stamp, and which of them bear a stamp. What is followed is said by what is left of
-- the links: whatever comes of the rest is what comes of the whole. Assumes nothing.
use mathlib.Core.Path.{◌≡◌, refl, sym, ap, ap₂, ◌∙◌, subst}
use mathlib.Core.Logic.{◌⊎◌, ⊎_elim}
use mathlib.Core.Bool.{Bool, true, false, ◌&&◌, ◌||◌, cond}
use mathlib.Core.List.{List, [], ◌∷◌, ◌++◌, append-nil, append_assoc}
use Prim.Native.Nat.{ℕ, zero, suc, ◌+◌, ◌-◌, ◌*◌, ◌≤◌, ◌<◌}
use native.Mathlib.Omega.{arith}
use lib.Dec.{eqb}
use lib.ListN.{length, get_or, set, length-set}
use lib.Seq.{get_or-set_same, get_or-set_other}
use borrow.Author.Tests.{eqb-true, eqb-false}
use Rattle.vocabulary.specs.Bytes.{Bytes, byte_at}
use Rattle.vocabulary.specs.Lists.{some_of, All}
use Rattle.vocabulary.proofs.ListLaws.{some_of_append, or_nothing}
use Rattle.vocabulary.specs.Intervals.{picked, some, blocks}
use Rattle.vocabulary.proofs.IntervalLaws.{some_start, some_next}
use Rattle.layout.specs.Words.{word_at}
use Rattle.layout.specs.Limits.{most_elements}
use Rattle.split.specs.Owners.{owns_at}
use Rattle.split_classes.specs.Classes.{has_entry, reach_has, reached_at, of_class, Appended}
use Rattle.split_classes.specs.Groups.{group, byte_places, Grouped}
use Rattle.split_classes.proofs.GroupLaws.{group_none, group_stop, group_turn, places_below}
use Rattle.split_cells.proofs.AddLaws.{add_none, add_both}
use Rattle.part_start_lists.specs.Starting.{Stamped, reached_from, Below, class_among}

-- ---- stamps

stamped_none : (k : ℕ) (a : Bytes) (p : ℕ → Bool) → length a ≡ most_elements → ((x : ℕ) → p x ≡ false) → Stamped k a a p
stamped_none k a p l f = record { room = l; each = λ x h. sym (ap (λ b. cond b k (byte_at a x)) (f x)) }

stamped_as : (k : ℕ) (a b : Bytes) (p r : ℕ → Bool) → ((x : ℕ) → p x ≡ r x) → Stamped k a b p → Stamped k a b r
stamped_as k a b p r f P = record { room = P.room; each = λ x h. P.each x h ∙ ap (λ t. cond t k (byte_at a x)) (f x) }

stamped_both : (k : ℕ) (a b c : Bytes) (p r : ℕ → Bool) → Stamped k a b p → Stamped k b c r → Stamped k a c (λ x. p x || r x)
stamped_both k a b c p r P Q = record { room = Q.room; each = λ x h. Q.each x h ∙ ap (cond (r x) k) (P.each x h) ∙ last (p x) (r x) (byte_at a x) }
  where
    last : (p r : Bool) (s : ℕ) → cond r k (cond p k s) ≡ cond (p || r) k s
    last true true s = refl
    last true false s = refl
    last false true s = refl
    last false false s = refl

stamped_one : (k x : ℕ) (a b : Bytes) → length a ≡ most_elements → b ≡ set a x k → Stamped k a b (eqb x)
stamped_one k x a b l e = record { room = ap length e ∙ length-set a x k ∙ l; each = λ z h. ap (λ (r : Bytes). byte_at r z) e ∙ told z h (eqb x z) refl }
  where
    told : (z : ℕ) → z < most_elements → (b : Bool) → eqb x z ≡ b → byte_at (set a x k) z ≡ cond (eqb x z) k (byte_at a z)
    told z h true w =
        let p : x ≡ z = eqb-true x z w in
        ap (byte_at (set a x k)) (sym p) ∙ get_or-set_same a x k 0 (omega arith) ∙ sym (ap (λ b. cond b k (byte_at a z)) w)
    told z h false w = get_or-set_other a x z k 0 (λ p. eqb-false x z w (sym p)) ∙ sym (ap (λ b. cond b k (byte_at a z)) w)

-- ---- the reach of a cell

module _ (table : Bytes) (k a : ℕ) where
  pub entries_start : (t : ℕ) (s : Bytes) → t ≡ a → length s ≡ most_elements → Stamped k s s (has_entry table a (t - a))
  unfolding has_entry
  entries_start t s e l =
      let z : t - a ≡ 0 = omega arith in
      stamped_none k s (λ x. some a (t - a) (λ t. eqb (word_at table (2 * t)) x)) l
      (λ x. ap (λ n. some a n (λ t. eqb (word_at table (2 * t)) x)) z ∙ some_start a (λ t. eqb (word_at table (2 * t)) x))

  pub entries_turn : (t x : ℕ) (s s₁ s₂ : Bytes) → a ≤ t → Stamped k s s₁ (has_entry table a (t - a)) → x ≡ word_at table (2 * t) → s₂ ≡ set s₁ x k
      → Stamped k s s₂ (has_entry table a (t + 1 - a))
  unfolding has_entry
  entries_turn t x s s₁ s₂ l P e w =
      stamped_as k s s₂ (λ y. some a (t - a) (λ t. eqb (word_at table (2 * t)) y) || eqb x y) (λ y. some a (t + 1 - a) (λ t. eqb (word_at table (2 * t)) y))
      (λ y.
      ap (λ z. some a (t - a) (λ t. eqb (word_at table (2 * t)) y) || eqb z y) (e ∙ ap (λ u. word_at table (2 * u)) here)
      ∙ sym (some_next a (t - a) (λ t. eqb (word_at table (2 * t)) y))
      ∙ ap (λ n. some a n (λ t. eqb (word_at table (2 * t)) y)) next)
      (stamped_both k s s₁ s₂ (λ y. some a (t - a) (λ t. eqb (word_at table (2 * t)) y)) (eqb x) P (stamped_one k x s₁ s₂ P.room w))
    where
      here : t ≡ a + (t - a)
      here = omega arith

      next : t - a + 1 ≡ t + 1 - a
      next = omega arith

pub entries_end : (table : Bytes) (ends : List ℕ) (q k : ℕ) (s s₁ : Bytes) (t : ℕ) → get_or ends (q + 1) 0 ≤ t → (t ≤ get_or ends (q + 1) 0) ⊎ (t ≡ get_or ends q 0)
    → Stamped k s s₁ (has_entry table (get_or ends q 0) (t - get_or ends q 0)) → Stamped k s s₁ (reach_has table ends q)
unfolding reach_has
entries_end table ends q k s s₁ t l c P =
    stamped_as k s s₁ (has_entry table (get_or ends q 0) (t - get_or ends q 0)) (λ x. has_entry table (get_or ends q 0) (get_or ends (q + 1) 0 - get_or ends q 0) x)
    (λ x. ap (λ n. has_entry table (get_or ends q 0) n x) whole) P
  where
    whole : t - get_or ends q 0 ≡ get_or ends (q + 1) 0 - get_or ends q 0
    whole = ⊎_elim (λ g. omega arith) (λ g. omega arith) c

-- ---- the cells of a group, by what is left of it

-- what the rest stamps is what is left of the whole
pub record Stamping (k : ℕ) (before now : Bytes) (rest whole : ℕ → Bool) : Type 0 where
  pub room : length now ≡ most_elements
  pub finish : (after : Bytes) → Stamped k now after rest → Stamped k before after whole

-- a turn of a loop that follows a group
followed : (next : List ℕ) (n j s q s₁ : ℕ) → j < n → (s ≡ 0 → ⊥) → q ≡ s - 1 → s₁ ≡ get_or next q 0 → group next (n - j) s ≡ q ∷ group next (n - (j + 1)) s₁
followed next n j s q s₁ h ne qe se =
    group_turn next n j s h (omega arith) ∙ ap₂ (λ x y. x ∷ group next (n - (j + 1)) y) (sym qe) (ap (λ x. get_or next x 0) (sym qe) ∙ sym se)

module _ (table : Bytes) (ends next : List ℕ) (k n : ℕ) where
  pub stamping_start : (s : ℕ) (a : Bytes) → length a ≡ most_elements → Stamping k a a (reached_from table ends (group next (n - 0) s)) (reached_from table ends (group next n s))
  stamping_start s a l =
      let z : n - 0 ≡ n = omega arith in
      record { room = l; finish = λ b P. subst (λ j. Stamped k a b (reached_from table ends (group next j s))) z P }

  module _ (whole : ℕ → Bool) (j s : ℕ) (a b : Bytes) (I : Stamping k a b (reached_from table ends (group next (n - j) s)) whole) where
    done : group next (n - j) s ≡ [] → Stamped k a b whole
    unfolding reached_from some_of
    done e =
        I.finish b
        (stamped_none k b (reached_from table ends (group next (n - j) s)) I.room (λ x. ap (λ (qs : List ℕ). some_of qs (λ q. reach_has table ends q x)) e))

    pub stamping_stop : s ≡ 0 → Stamped k a b whole
    stamping_stop z = done (ap (group next (n - j)) z ∙ group_none next (n - j))

    pub stamping_end : n ≤ j → Stamped k a b whole
    stamping_end h = done (group_stop next n j s h)

    pub stamping_turn : (q s₁ : ℕ) (c : Bytes) → j < n → (s ≡ 0 → ⊥) → q ≡ s - 1 → Stamped k b c (reach_has table ends q) → s₁ ≡ get_or next q 0
        → Stamping k a c (reached_from table ends (group next (n - (j + 1)) s₁)) whole
    unfolding reached_from some_of
    stamping_turn q s₁ c h ne qe P se = record {
      room = P.room;
      finish = λ d Q.
          I.finish d
          (stamped_as k b d (λ x. reach_has table ends q x || reached_from table ends (group next (n - (j + 1)) s₁) x) (reached_from table ends (group next (n - j) s))
          (λ x. sym (ap (λ (qs : List ℕ). some_of qs (λ q. reach_has table ends q x)) (followed next n j s q s₁ h ne qe se)))
          (stamped_both k b c d (reach_has table ends q) (reached_from table ends (group next (n - (j + 1)) s₁)) P Q));
    }

-- what the rest adds to a list is what is left of the whole
pub record Appending (before now : List ℕ) (s t : ℕ) (rest whole : List ℕ) : Type 0 where
  pub finish : (after : List ℕ) (u : ℕ) → Appended now after t u rest → Appended before after s u whole

module _ (class : Bytes) (first k : ℕ) (next : List ℕ) (n : ℕ) where
  pub appending_start : (s m : ℕ) (a : List ℕ) → Appending a a m m (class_among class first k (group next (n - 0) s)) (class_among class first k (group next n s))
  appending_start s m a =
      let z : n - 0 ≡ n = omega arith in
      record { finish = λ b u P. subst (λ j. Appended a b m u (class_among class first k (group next j s))) z P }

  module _ (whole : List ℕ) (j s m t : ℕ) (a b : List ℕ) (I : Appending a b m t (class_among class first k (group next (n - j) s)) whole) where
    added : group next (n - j) s ≡ [] → Appended a b m t whole
    unfolding class_among
    added e = I.finish b t (subst (λ (qs : List ℕ). Appended b b t t (class_among class first k qs)) (sym e) (add_none b t))

    pub appending_stop : s ≡ 0 → Appended a b m t whole
    appending_stop z = added (ap (group next (n - j)) z ∙ group_none next (n - j))

    pub appending_end : n ≤ j → Appended a b m t whole
    appending_end h = added (group_stop next n j s h)

    pub appending_turn : (q s₁ t₁ : ℕ) (c : List ℕ) → j < n → (s ≡ 0 → ⊥) → q ≡ s - 1 → Appended b c t t₁ (of_class class first k q) → s₁ ≡ get_or next q 0
        → Appending a c m t₁ (class_among class first k (group next (n - (j + 1)) s₁)) whole
    unfolding class_among
    appending_turn q s₁ t₁ c h ne qe X se = record {
      finish = λ d u Y.
          I.finish d u
          (subst (λ (qs : List ℕ). Appended b d t u (class_among class first k qs)) (sym (followed next n j s q s₁ h ne qe se))
          (add_both b c d t t₁ u (of_class class first k q) (class_among class first k (group next (n - (j + 1)) s₁)) X Y));
    }

-- the places that are left are below the number of cells
pub below_start : (next : List ℕ) (n s : ℕ) → Below n (group next n s) → Below n (group next (n - 0) s)
below_start next n s B = let z : n ≡ n - 0 = omega arith in subst (λ j. Below n (group next j s)) z B

module _ (next : List ℕ) (n j s q : ℕ) (h : j < n) (ne : s ≡ 0 → ⊥) (qe : q ≡ s - 1) (B : Below n (group next (n - j) s)) where
  below_both : (q < n) × All (λ x. x < n) (group next (n - (j + 1)) (get_or next q 0))
  below_both = subst (All (λ x. x < n)) (followed next n j s q (get_or next q 0) h ne qe refl) B.each

  pub below_here : q < n
  below_here = below_both.0

  pub below_turn : (s₁ : ℕ) → s₁ ≡ get_or next q 0 → Below n (group next (n - (j + 1)) s₁)
  below_turn s₁ e = subst (λ x. Below n (group next (n - (j + 1)) x)) (sym e) (record { each = below_both.1 })

-- ---- the groups of the owners

-- what passes, among what was picked
picked_some : (a n : ℕ) (p r : ℕ → Bool) → some_of (picked a n p) r ≡ some a n (λ q. p q && r q)
unfolding picked some some_of
picked_some a zero p r = refl
picked_some a (suc n) p r =
    some_of_append r (picked a n p) (cond (p (a + n)) ((a + n) ∷ []) [])
    ∙ ap₂ ◌||◌ (picked_some a n p r) (one (p (a + n)))
  where
    one : (b : Bool) → some_of (cond b ((a + n) ∷ []) []) r ≡ b && r (a + n)
    one true = or_nothing (r (a + n))
    one false = refl

among_append : (class : Bytes) (first k : ℕ) (xs ys : List ℕ) → class_among class first k (xs ++ ys) ≡ class_among class first k xs ++ class_among class first k ys
unfolding class_among
among_append class first k [] ys = refl
among_append class first k (x ∷ xs) ys =
    ap (λ (zs : List ℕ). of_class class first k x ++ zs) (among_append class first k xs ys)
    ∙ sym (append_assoc (of_class class first k x) (class_among class first k xs) (class_among class first k ys))

picked_among : (class : Bytes) (first k a n : ℕ) (p : ℕ → Bool) → class_among class first k (picked a n p) ≡ blocks a n (λ q. cond (p q && eqb (byte_at class q) k) ((first + q) ∷ []) [])
unfolding picked blocks class_among of_class
picked_among class first k a zero p = refl
picked_among class first k a (suc n) p =
    among_append class first k (picked a n p) (cond (p (a + n)) ((a + n) ∷ []) [])
    ∙ ap₂ ◌++◌ (picked_among class first k a n p) (one (p (a + n)))
  where
    one : (b : Bool) → class_among class first k (cond b ((a + n) ∷ []) []) ≡ cond (b && eqb (byte_at class (a + n)) k) ((first + (a + n)) ∷ []) []
    one true = append-nil (cond (eqb (byte_at class (a + n)) k) ((first + (a + n)) ∷ []) [])
    one false = refl

module _ (owners : Bytes) (cells : ℕ) (start next : List ℕ) (G : Grouped owners cells start next) (k s : ℕ) (small : k < 19) (se : s ≡ get_or start k 0) where
  group_is : group next cells s ≡ byte_places owners k 0 cells
  group_is = ap (group next cells) se ∙ G.each k small

  pub group_below : Below cells (group next cells s)
  group_below = record { each = subst (All (λ q. q < cells)) (sym group_is) (places_below owners k cells) }

  pub group_stamps : (table : Bytes) (ends : List ℕ) (j : ℕ) (a b : Bytes) → Stamped j a b (reached_from table ends (group next cells s)) → Stamped j a b (reached_at owners table ends k cells)
  unfolding reached_from reached_at byte_places owns_at
  group_stamps table ends j a b P =
      stamped_as j a b (λ x. some_of (group next cells s) (λ q. reach_has table ends q x)) (λ x. some 0 cells (λ q. eqb (byte_at owners q) k && reach_has table ends q x))
      (λ x.
      ap (λ (qs : List ℕ). some_of qs (λ q. reach_has table ends q x)) group_is
      ∙ picked_some 0 cells (λ q. eqb (byte_at owners q) k) (λ q. reach_has table ends q x)) P

  pub group_among : (class : Bytes) (first j : ℕ)
      → class_among class first j (group next cells s) ≡ blocks 0 cells (λ q. cond (owns_at owners k q && eqb (byte_at class q) j) ((first + q) ∷ []) [])
  unfolding byte_places owns_at
  group_among class first j = ap (class_among class first j) group_is ∙ picked_among class first j 0 cells (λ q. eqb (byte_at owners q) k)

-- Lists to which numbers are added, and the numbers of a class. Assumes nothing.
use mathlib.Core.Path.{◌≡◌, refl, sym, ap, ap₂, ◌∙◌, subst}
use mathlib.Core.Bool.{Bool, true, false, cond}
use mathlib.Core.List.{List, [], ◌∷◌, ◌++◌, map}
use Prim.Native.Nat.{ℕ, ◌+◌, ◌-◌, ◌≤◌, ◌<◌}
use native.Mathlib.Nat.{zero-add}
use native.Mathlib.Omega.{arith}
use lib.Dec.{eqb}
use lib.ListN.{length, get_or, set, length-append, length-set, take, drop}
use borrow.Author.Tests.{eq-eqb, ne_eqb}
use Rattle.vocabulary.specs.Bytes.{Bytes, byte_at, over}
use Rattle.vocabulary.proofs.ByteLaws.{over_none, over_more, over_one, over_front}
use Rattle.vocabulary.specs.Intervals.{blocks}
use Rattle.vocabulary.proofs.ListLaws.{map_append}
use Rattle.vocabulary.proofs.IntervalLaws.{blocks_turn, blocks_start, at_last, blocks_length, total_bound, total_start, total_turn, total_cong}
use Rattle.layout.specs.Limits.{most_elements, most_parts}
use Rattle.split_classes.specs.Classes.{of_class, class_cells, place_count, class_count, class_order, Appended}
use Rattle.split_classes.specs.Groups.{group, Grouped, group_cells, group_order, Linked}
use Rattle.split_classes.proofs.GroupLaws.{left_start, left_turn, left_all, left_stop, left_end, grouped_order}
use lib.Seq.{take-append_seam}

-- ---- adding to a list

pub add_none : (b : List ℕ) (s : ℕ) → Appended b b s s []
add_none b s = record { size = refl; count = omega arith; text = λ h. sym (over_none b s) }

pub add_one : (b a : List ℕ) (s x : ℕ) → a ≡ set b s x → Appended b a s (s + 1) (x ∷ [])
add_one b a s x e = record { size = ap length e ∙ length-set b s x; count = refl; text = λ h. e ∙ sym (over_one b s x (omega arith)) }

pub add_both : (a b c : List ℕ) (s t u : ℕ) (xs ys : List ℕ) → Appended a b s t xs → Appended b c t u ys → Appended a c s u (xs ++ ys)
add_both a b c s t u xs ys X Y = record {
  size = Y.size ∙ X.size;
  count = omega (arith, X.count, Y.count, length-append xs ys);
  text = λ h. text h;
}
  where
    text : u ≤ length a → c ≡ over a s (xs ++ ys)
    text h =
        let k : t ≤ length a = omega (arith, Y.count) in
        Y.text (omega (arith, X.size)) ∙ ap₂ (λ (x : List ℕ) n. over x n ys) (X.text k) X.count ∙ over_more a s xs (omega (arith, X.count)) ys

module _ (g : ℕ → List ℕ) where
  pub add_start : (b : List ℕ) (s : ℕ) → Appended b b s s (blocks 0 0 g)
  add_start b s = subst (Appended b b s s) (sym (blocks_start 0 g)) (add_none b s)

  pub add_turn : (a b c : List ℕ) (s t u q : ℕ) → Appended a b s t (blocks 0 q g) → Appended b c t u (g q) → Appended a c s u (blocks 0 (q + 1) g)
  add_turn a b c s t u q X Y =
      subst (Appended a c s u) (ap (λ x. blocks 0 q g ++ g x) (sym (zero-add q)) ∙ sym (blocks_turn 0 g q)) (add_both a b c s t u (blocks 0 q g) (g q) X Y)

  pub add_end : (a b : List ℕ) (s t q n : ℕ) → q ≤ n → n ≤ q → Appended a b s t (blocks 0 q g) → Appended a b s t (blocks 0 n g)
  add_end a b s t q n h k X = at_last (λ j. Appended a b s t (blocks 0 j g)) q n h k X

-- v is added where its class y, which the code read as x, is the one wanted
module _ (x y k v : ℕ) (e : x ≡ y) (b : List ℕ) (s : ℕ) where
  pub class_skips : (x ≡ k → ⊥) → Appended b b s s (cond (eqb y k) (v ∷ []) [])
  class_skips n = subst (λ c. Appended b b s s (cond c (v ∷ []) [])) (sym (ne_eqb y k (λ z. n (e ∙ z)))) (add_none b s)

  pub class_adds : (a : List ℕ) → x ≡ k → a ≡ set b s v → Appended b a s (s + 1) (cond (eqb y k) (v ∷ []) [])
  class_adds a n f = subst (λ c. Appended b a s (s + 1) (cond c (v ∷ []) [])) (sym (eq-eqb y k (sym e ∙ n))) (add_one b a s v f)

-- ---- the numbers of a class

pub class_end : (class : Bytes) (first cells k : ℕ) (a b : List ℕ) (s t q : ℕ) → q ≤ cells → cells ≤ q → Appended a b s t (blocks 0 q (of_class class first k))
    → Appended a b s t (class_cells class first cells k)
unfolding class_cells
class_end class first cells k a b s t q h l X = add_end (of_class class first k) a b s t q cells h l X

-- ---- the local order by the links

-- the places `done` of the group are added, and link i leads on
pub record Adding (start next : List ℕ) (k first cells : ℕ) (before after : List ℕ) (s t n i : ℕ) : Type 0 where
  pub done : List ℕ
  pub left : group next cells (get_or start k 0) ≡ done ++ group next (cells - n) i
  pub added : Appended before after s t (map (λ q. first + q) done)

module _ (start next : List ℕ) (k first cells : ℕ) where
  pub adding_start : (b : List ℕ) (s i : ℕ) → i ≡ get_or start k 0 → Adding start next k first cells b b s s 0 i
  adding_start b s i e = record { done = []; left = left_start next (group next cells (get_or start k 0)) cells i (ap (group next cells) e); added = add_none b s }

  module _ (a b : List ℕ) (s t n i : ℕ) (X : Adding start next k first cells a b s t n i) where
    -- the cell that is met is one of the cells
    pub adding_number : Linked cells start next → k < 19 → first + cells ≤ 65536 → n < cells → 1 ≤ i → first + (i - 1) < 65536
    adding_number L h f l g =
        let m : i - 1 < cells = left_all next (group next cells (get_or start k 0)) cells n i X.done X.left l g (λ q. q < cells) (L.each k h) in
        omega arith

    pub adding_turn : (c : List ℕ) (j : ℕ) → n < cells → 1 ≤ i → c ≡ set b t (first + (i - 1)) → j ≡ get_or next (i - 1) 0 → Adding start next k first cells a c s (t + 1) (n + 1) j
    adding_turn c j l g e f = record {
      done = X.done ++ ((i - 1) ∷ []);
      left =
          left_turn next (group next cells (get_or start k 0)) cells n i X.done X.left l g
          ∙ ap (λ x. (X.done ++ ((i - 1) ∷ [])) ++ group next (cells - (n + 1)) x) (sym f);
      added =
          subst (Appended a c s (t + 1)) (sym (map_append (λ q. first + q) X.done ((i - 1) ∷ [])))
          (add_both a b c s t (t + 1) (map (λ q. first + q) X.done) ((first + (i - 1)) ∷ []) X.added (add_one b c t (first + (i - 1)) e));
    }

    all_added : group next cells (get_or start k 0) ≡ X.done → Appended a b s t (group_cells start next first cells k)
    unfolding group_cells
    all_added e = subst (Appended a b s t) (ap (map (λ q. first + q)) (sym e)) X.added

    pub adding_stop : i < 1 → Appended a b s t (group_cells start next first cells k)
    adding_stop h = all_added (left_stop next (group next cells (get_or start k 0)) cells n i X.done X.left h)

    pub adding_end : cells ≤ n → Appended a b s t (group_cells start next first cells k)
    adding_end h = all_added (left_end next (group next cells (get_or start k 0)) cells n i X.done X.left h)

module _ (start next : List ℕ) (first cells : ℕ) where
  pub imported_start : (b : List ℕ) (s : ℕ) → Appended b b s s (blocks 1 0 (group_cells start next first cells))
  imported_start b s = subst (Appended b b s s) (sym (blocks_start 1 (group_cells start next first cells))) (add_none b s)

  pub imported_turn : (a b c : List ℕ) (s t u j : ℕ) → Appended a b s t (blocks 1 j (group_cells start next first cells))
      → Appended b c t u (group_cells start next first cells (j + 1)) → Appended a c s u (blocks 1 (j + 1) (group_cells start next first cells))
  imported_turn a b c s t u j X Y =
      let q : j + 1 ≡ 1 + j = omega arith in
      subst (Appended a c s u)
      (ap (λ x. blocks 1 j (group_cells start next first cells) ++ group_cells start next first cells x) q ∙ sym (blocks_turn 1 (group_cells start next first cells) j))
      (add_both a b c s t u (blocks 1 j (group_cells start next first cells)) (group_cells start next first cells (j + 1)) X Y)

  pub imported_end : (a b : List ℕ) (s t j parts : ℕ) → j ≤ parts → parts ≤ j → Appended a b s t (blocks 1 j (group_cells start next first cells))
      → Appended a b s t (blocks 1 parts (group_cells start next first cells))
  imported_end a b s t j parts h k X = at_last (λ n. Appended a b s t (blocks 1 n (group_cells start next first cells))) j parts h k X

  pub groups_added : (a b c d : List ℕ) (s t u parts : ℕ) → Appended a b 0 s (group_cells start next first cells 17) → Appended b c s t (group_cells start next first cells 18)
      → Appended c d t u (blocks 1 parts (group_cells start next first cells)) → Appended a d 0 u (group_order start next first cells parts)
  unfolding group_order
  groups_added a b c d s t u parts X Y Z = add_both a b d 0 s u _ _ X (add_both b c d s t u _ _ Y Z)

pub order_added : (class : Bytes) (first cells parts : ℕ) (start next a b : List ℕ) (t : ℕ) → Grouped class cells start next → parts ≤ most_parts
    → Appended a b 0 t (group_order start next first cells parts) → Appended a b 0 t (class_order class first cells parts)
order_added class first cells parts start next a b t G h X = subst (Appended a b 0 t) (grouped_order class first cells parts start next G h) X

-- ---- how many there are

module _ (class : Bytes) (k q x : ℕ) (e : x ≡ byte_at class q) where
  pub place_one : x ≡ k → 1 ≡ place_count class k q
  unfolding place_count
  place_one h = sym (ap (λ b. cond b 1 0) (eq-eqb (byte_at class q) k (sym e ∙ h)))

  pub place_none : (x ≡ k → ⊥) → 0 ≡ place_count class k q
  unfolding place_count
  place_none h = sym (ap (λ b. cond b 1 0) (ne_eqb (byte_at class q) k (λ z. h (e ∙ z))))

module _ (class : Bytes) (k : ℕ) where
  pub count_start : 0 ≡ class_count class 0 k
  unfolding class_count
  count_start = sym (total_start 0 (place_count class k))

  pub count_turn : (q s n : ℕ) → s ≡ class_count class q k → n ≡ place_count class k q → s + n ≡ class_count class (q + 1) k
  unfolding class_count
  count_turn q s n e f = ap₂ ◌+◌ e (f ∙ ap (place_count class k) (sym (zero-add q))) ∙ sym (total_turn 0 (place_count class k) q)

  -- it is the length of the list
  pub class_count_lem : (first cells : ℕ) → length (class_cells class first cells k) ≡ class_count class cells k
  unfolding class_cells class_count
  class_count_lem first cells =
      blocks_length 0 (of_class class first k) cells
      ∙ total_cong 0 (λ q. length (of_class class first k q)) (place_count class k) cells (λ q h. unfold of_class place_count in one (0 + q) (eqb (byte_at class (0 + q)) k))
    where
      one : (q : ℕ) (b : Bool) → length (cond b ((first + q) ∷ []) []) ≡ cond b 1 0
      one q true = refl
      one q false = refl

-- no more than there are places
pub class_few : (class : Bytes) (first cells k : ℕ) → length (class_cells class first cells k) ≤ cells
unfolding class_cells
class_few class first cells k = omega (arith, blocks_length 0 (of_class class first k) cells, total_bound 0 (λ q. length (of_class class first k q)) 1 cells (λ q h. one (0 + q)))
  where
    one : (q : ℕ) → length (of_class class first k q) ≤ 1
    one q = unfold of_class in go (eqb (byte_at class q) k)
      where
        go : (b : Bool) → length (cond b ((first + q) ∷ []) []) ≤ 1
        go true = omega arith
        go false = omega arith

-- ---- what was added to an empty list

pub added_fits : (a b : List ℕ) (n : ℕ) (ws : List ℕ) → Appended a b 0 n ws → most_elements ≤ length a → length ws ≤ most_elements → n ≤ length b
added_fits a b n ws X l h = omega (arith, X.size, X.count)

pub added_take : (a b : List ℕ) (n : ℕ) (ws : List ℕ) → Appended a b 0 n ws → most_elements ≤ length a → length ws ≤ most_elements → take n b ≡ ws
added_take a b n ws X l h =
    let e : n ≡ length ws = omega (arith, X.count) in
    ap₂ (λ k (xs : List ℕ). take k xs) e (X.text (omega arith) ∙ over_front a ws) ∙ take-append_seam ws (drop (length ws) a)

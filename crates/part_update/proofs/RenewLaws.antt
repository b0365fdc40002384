-- The new values of a part's owned cells, from the lists of its state. Assumes nothing.
use mathlib.Core.Path.{◌≡◌, refl, sym, ap, ap₂, ◌∙◌, subst}
use mathlib.Core.Bool.{false}
use mathlib.Core.List.{map}
use Prim.Native.Nat.{ℕ, ◌+◌, ◌-◌, ◌*◌, ◌≤◌, ◌<◌}
use native.Mathlib.Nat.{zero-add}
use native.Mathlib.Omega.{arith}
use lib.ListN.{length, take, drop}
use lib.Seq.{length-take-le}
use Rattle.vocabulary.specs.Bytes.{Bytes, over}
use Rattle.vocabulary.specs.Intervals.{listed, blocks}
use Rattle.vocabulary.proofs.IntervalLaws.{listed_map, listed_moved}
use Rattle.layout.specs.Words.{word, word_at}
use Rattle.depths.specs.Depths.{Valid, four, value_bytes}
use Rattle.depths.proofs.DepthLaws.{length_four, fours_store, ranged_valid}
use Rattle.depths.specs.declared.Value.{Value}
use Rattle.round_rule.specs.Rules.{Old, new_depth, bad11, weight_count}
use Rattle.round_rule.proofs.RuleLaws.{rule_known, new_length}
use Rattle.round_rule.specs.Kinds.{kind_number, rule_of}
use Rattle.round_rule.specs.declared.Kind.{Kind}
use Rattle.std.specs.Prelude.{Result, Ok, Err}
use Rattle.layout.specs.declared.refusal.Refusal.{Refusal}
use Rattle.round_rule.proofs.KindLaws.{known_number, unknown_number}
use Rattle.round_update.specs.Update.{table_entries, olds_at, UpdateReady}
use Rattle.round_update.specs.Update as update
use Rattle.round_update.proofs.UpdateLaws.{weighed_from}
use Rattle.part_state.specs.State.{LocalNear, lists_in, rule_kind, step_count, weights, held_count, owned_count, reach_end, weights_place, reach_count}
use Rattle.part_state.specs.State.{entry_at, local_reach, depth_place, depths_place, entry_word, reach_word}
use Rattle.part_state.specs.Checks.{reach_start, entry_start, Counts, depth_base}
use Rattle.part_state.specs.declared.places.Sizes.{Sizes}
use Rattle.part_calls.specs.Calls.{depth_at, new_at}
use Rattle.part_state.proofs.StateLaws.{Whole}
use Rattle.part_calls.specs.Opened.{Opened}
use Rattle.part_calls.proofs.OpenedLaws.{whole, own_few, long}

word_of : (b : Bytes) (o i : ℕ) → o ≡ 2 * i → word b o ≡ word_at b i
unfolding word_at
word_of b o i e = ap (word b) e

-- the old value of an entry of a local reach
abbrev old_of : Bytes → ℕ → LocalNear → Old
old_of b changes e = record { layer = e.layer; depth = depth_at changes b e.local }

new_is : (lists : Bytes) (changes : ℕ) (b : Bytes) (l : ℕ) → new_depth (rule_kind lists) (weights lists) (four b (depth_place changes l)) (map (old_of b changes) (local_reach lists l))
    ≡ new_at (lists_in lists) changes b l
unfolding new_at lists_in
new_is lists changes b l = refl

module _ (lists : Bytes) (changes : ℕ) (b : Bytes) (o : Opened lists changes b) where
  w : Whole lists changes b
  w = whole lists changes b o

  pub lists_length : length lists ≡ changes
  lists_length = ap length o.lists_are ∙ length-take-le changes b (omega (arith, long lists changes b o))

  -- a word's count of entries is small, since the lists are no longer than their bytes
  few_entries : reach_count lists ≤ 65535
  few_entries = omega (arith, w.lists_fit, o.place_small)

  deep : (x : ℕ) → 1 ≤ x → x ≤ held_count lists → Valid b (depth_place changes x)
  deep x h k =
      let p : depths_place changes + 4 * (x - 1) ≡ depth_place changes x = omega arith in
      subst (λ y. Valid b y) p (ranged_valid b (depths_place changes) (held_count lists) (x - 1) w.ranged (omega arith))

  -- the two ends of a reach, at words that are there
  module _ (z : Sizes) (C : Counts lists z) (ends l : ℕ) (ee : ends ≡ reach_start z) (h : 1 ≤ l) (k : l ≤ z.owned) where
    pub last_end_there : 2 * (ends + (l - 1)) + 2 + 1 < length lists
    last_end_there = omega (arith, lists_length, w.lists_fit, C.held_is, C.owned_is)

    pub first_end_there : 2 * (ends + (l - 1)) + 1 < length lists
    first_end_there = omega (arith, last_end_there)

  module _ (z : Sizes) (C : Counts lists z) (ends at l from to : ℕ) (ee : ends ≡ reach_start z) (ae : at ≡ entry_start z) (h : 1 ≤ l) (k : l ≤ z.owned)
      (fe : from ≡ word lists (2 * (ends + (l - 1)))) (te : to ≡ word lists (2 * (ends + (l - 1)) + 2)) where
    abbrev n : ℕ
    n = to - from

    own_l : l ≤ owned_count lists
    own_l = omega (arith, C.owned_is)

    from_is : reach_end lists (l - 1) ≡ from
    unfolding word_at
    from_is = let p : 2 * (reach_word (held_count lists) + (l - 1)) ≡ 2 * (ends + (l - 1)) = omega (arith, C.held_is) in ap (λ x. word lists x) p ∙ sym fe

    to_is : reach_end lists l ≡ to
    unfolding word_at
    to_is = let p : 2 * (reach_word (held_count lists) + l) ≡ 2 * (ends + (l - 1)) + 2 = omega (arith, C.held_is) in ap (λ x. word lists x) p ∙ sym te

    size_is : reach_end lists l - reach_end lists (l - 1) ≡ n
    size_is = ap₂ ◌-◌ to_is from_is

    pub ends_rise : from ≤ to
    ends_rise = omega (arith, from_is, to_is, w.reach_ends (l - 1) l (omega arith) own_l)

    row_fits : from + n ≤ reach_count lists
    row_fits =
        omega (
          arith,
          from_is,
          to_is,
          w.reach_ends (l - 1) l (omega arith) own_l,
          w.reach_ends l (owned_count lists) own_l (omega arith),
        )

    module _ (t : ℕ) (q : t < n) where
      entry_local : word lists (2 * at + 4 * from + 4 * t) ≡ (entry_at lists (from + t)).local
      entry_local = word_of lists _ (entry_word (held_count lists) (owned_count lists) + 2 * (from + t)) (omega (arith, ae, C.held_is, C.owned_is))

      entry_layer : word lists (2 * at + 4 * from + 4 * t + 2) ≡ (entry_at lists (from + t)).layer
      entry_layer = word_of lists _ (entry_word (held_count lists) (owned_count lists) + 2 * (from + t) + 1) (omega (arith, ae, C.held_is, C.owned_is))

    -- the reach in local numbers, as the update finds it
    near : olds_at b (depth_base changes) (table_entries lists (2 * at + 4 * from) n) ≡ map (old_of b changes) (local_reach lists l)
    unfolding olds_at table_entries local_reach
    near =
        listed_map (update.old_at b (depth_base changes)) 0 (update.table_entry lists (2 * at + 4 * from)) n
        ∙ listed_moved 0 from (λ t. update.old_at b (depth_base changes) (update.table_entry lists (2 * at + 4 * from) t)) (λ t. old_of b changes (entry_at lists t)) n
        (λ t q.
        ap (λ x. update.old_at b (depth_base changes) (update.table_entry lists (2 * at + 4 * from) x)) (zero-add t)
        ∙ ap₂ (λ x y. record { layer = y; depth = four b (depth_place changes x) }) (entry_local t q) (entry_layer t q))
        ∙ ap₂ (λ x m. listed x m (λ t. old_of b changes (entry_at lists t))) (sym from_is) (sym size_is)
        ∙ sym (listed_map (old_of b changes) (reach_end lists (l - 1)) (entry_at lists) (reach_end lists l - reach_end lists (l - 1)))

    pub renew_ready : (kind : ℕ) (v : Bytes) → kind ≡ rule_kind lists → v ≡ weights lists → UpdateReady kind v lists (2 * at + 4 * from) n b (depth_base changes) l
    renew_ready kind v ke ve = record {
      reached = record {
        few = omega (arith, row_fits, few_entries);
        listed_there = omega (arith, row_fits, lists_length, w.lists_fit, ae, C.held_is, C.owned_is);
        there = λ t q. let e = w.entries (from + t) (omega (arith, row_fits)) in omega (arith, entry_local t q, e.1, long lists changes b o);
        ranged = λ t q. let e = w.entries (from + t) (omega (arith, row_fits)) in deep (word lists (2 * at + 4 * from + 4 * t))
            (omega (arith, entry_local t q, e.0)) (omega (arith, entry_local t q, e.1));
      };
      own_there = omega (arith, own_l, own_few lists changes b o, long lists changes b o);
      own_ranged = deep l h (omega (arith, own_l, own_few lists changes b o));
      weighed = λ one.
          let r : bad11 1 (step_count lists) v ≡ false = subst (λ x. bad11 x (step_count lists) v ≡ false) (sym ke ∙ one) (ap (bad11 (rule_kind lists) (step_count lists)) ve ∙ w.rule) in
          weighed_from v lists (2 * at + 4 * from) n (step_count lists) r w.steps_few (λ t q. omega (arith, entry_layer t q, w.layers (from + t) (omega (arith, row_fits))));
    }

    pub renew_told : (kind : ℕ) (v : Bytes) → kind ≡ rule_kind lists → v ≡ weights lists → (new : Value)
        → value_bytes new ≡ new_depth kind v (four b (depth_place changes l)) (olds_at b (depth_base changes) (table_entries lists (2 * at + 4 * from) n))
        → value_bytes new ≡ new_at (lists_in lists) changes b l
    renew_told kind v ke ve new e =
        e
        ∙ ap₂ (λ x (y : Bytes). new_depth x y (four b (depth_place changes l)) (olds_at b (depth_base changes) (table_entries lists (2 * at + 4 * from) n))) ke ve
        ∙ ap (new_depth (rule_kind lists) (weights lists) (four b (depth_place changes l))) near
        ∙ new_is lists changes b l

-- ---- one cell after the other

pub new_four : (lists : Bytes) (changes : ℕ) (b : Bytes) (l : ℕ) → length (new_at (lists_in lists) changes b l) ≡ 4
new_four lists changes b l = ap length (sym (new_is lists changes b l)) ∙ new_length (rule_kind lists) (weights lists) _ _ (length_four b (depth_place changes l))

module _ (lists : Bytes) (changes : ℕ) (b new : Bytes) (owned : ℕ) where
  pub renew_turn : 4 * owned ≤ length new → (l : ℕ) → 1 ≤ l → l < owned + 1 → (n : Value) → value_bytes n ≡ new_at (lists_in lists) changes b l → (x y : Bytes)
      → x ≡ over new 0 (blocks 1 (l - 1) (new_at (lists_in lists) changes b)) → y ≡ over x (4 * (l - 1)) (value_bytes n)
      → y ≡ over new 0 (blocks 1 (l + 1 - 1) (new_at (lists_in lists) changes b))
  renew_turn room l h k n e x y p q =
      let i : l ≡ 1 + (l - 1) = omega arith in
      let j : l - 1 + 1 ≡ l + 1 - 1 = omega arith in
      q
      ∙ ap₂ (λ (u : Bytes) (v : Bytes). over u (4 * (l - 1)) v) p (e ∙ ap (new_at (lists_in lists) changes b) i)
      ∙ ap (λ n. over (over new 0 (blocks 1 (l - 1) (new_at (lists_in lists) changes b))) n (new_at (lists_in lists) changes b (1 + (l - 1)))) (sym (zero-add (4 * (l - 1))))
      ∙ fours_store 1 (l - 1) (new_at (lists_in lists) changes b) (λ t c. new_four lists changes b (1 + t)) new 0 (omega arith)
      ∙ ap (λ n. over new 0 (blocks 1 n (new_at (lists_in lists) changes b))) j

-- ---- the rule

-- the kind that the number in the lists stands for
pub kind_is : (lists : Bytes) (number : ℕ) (r : Result Kind Refusal) (k : Kind) → number ≡ rule_kind lists → r ≡ rule_of number → r ≡ Ok k → kind_number k ≡ rule_kind lists
kind_is lists number r k ne e q = sym (known_number number k (sym e ∙ q)) ∙ ne

-- a state has a known one
pub kind_known : {x : Refusal} (lists : Bytes) (changes : ℕ) (b : Bytes) → Opened lists changes b → (number : ℕ) (r : Result Kind Refusal) → number ≡ rule_kind lists
    → r ≡ rule_of number → r ≡ Err x → ⊥
kind_known lists changes b o number r ne e q =
    omega (arith, unknown_number number (sym e ∙ q), ne, rule_known (rule_kind lists) (step_count lists) (weights lists) (whole lists changes b o).rule)

-- the weights, as they are cut out of the lists
pub weights_cut : (lists : Bytes) (kind n count : ℕ) → kind ≡ rule_kind lists → n ≡ step_count lists → count ≡ weight_count kind n
    → take (weights_place + 2 * count - weights_place) (drop weights_place lists) ≡ weights lists
unfolding weights
weights_cut lists kind n count ke ne ce =
    let p : weights_place + 2 * count - weights_place ≡ 2 * weight_count kind n = omega (arith, ce) in
    ap (λ x. take x (drop weights_place lists)) p ∙ ap₂ (λ k m. take (2 * weight_count k m) (drop weights_place lists)) ke ne

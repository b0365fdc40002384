-- The prepared tables say what the definitions say. Assumes nothing.
use mathlib.Core.Path.{◌≡◌, sym, ap, ap₂, ◌∙◌}
use mathlib.Core.Bool.{Bool, true, false, cond}
use mathlib.Core.List.{List, []}
use Prim.Native.Nat.{ℕ, ◌+◌, ◌-◌, ◌*◌, ◌≤◌, ◌<◌}
use native.Mathlib.Omega.{arith}
use lib.Dec.{eqb, ltb}
use lib.ListN.{length, get_or}
use borrow.Author.Tests.{lt-ltb, le-ltb}
use Rattle.vocabulary.specs.Bytes.{Bytes, over}
use Rattle.vocabulary.specs.Intervals.{every, total}
use Rattle.vocabulary.proofs.IntervalLaws.{every_at, every_intro}
use Rattle.vocabulary.specs.Lists.{every_of}
use Rattle.vocabulary.proofs.ListLaws.{same_test, every_of_at, every_of_intro, All_intro}
use Rattle.layout.specs.Words.{word_at, bytes_of}
use Rattle.layout.specs.Limits.{most_held}
use Rattle.mesh.specs.Mesh.{top, first_cell, cell_count}
use Rattle.mesh.specs.Walks.{Near, reach, bad10, bad13}
use Rattle.mesh.specs.Accepted.{Accepted}
use Rattle.walk_reach_table.specs.Tables.{table_words, entry_count, EndTable, Tabled}
use Rattle.walk_part_reach.specs.Rows.{row_reach_count}
use Rattle.walk_reach_table.proofs.EntryLaws.{count_more, entry_is}
use Rattle.walk_reach_table.proofs.SizeLaws.{table_made}
use Rattle.split.specs.Split.{split_of, owner_at, owns, inside}
use Rattle.split.specs.Lists.{bad8, bad12, size_tests, sizes_number}
use Rattle.split.specs.Owners.{owns_at}
use Rattle.split_classes.specs.Classes.{entry_owned, inside_at, Holders, Prepared}
use Rattle.split_classes.proofs.HoldLaws.{walked_told, sum_told, class_told, held_told}

-- ---- the table of the reaches

module _ (m st before table : Bytes) (e : table ≡ over before 0 (bytes_of (table_words m st (cell_count m)))) where
  every_list : {A : Type 0} (a : ℕ) (p : ℕ → Bool) (xs : List A) (d : A) (r : A → Bool) → ((t : ℕ) → t < length xs → p (a + t) ≡ r (get_or xs t d)) → every a (length xs) p ≡ every_of xs r
  every_list a p xs d r f =
      same_test _ _ (λ s. every_of_intro r xs (All_intro (λ x. r x ≡ true) xs d (λ t h. sym (f t h) ∙ every_at a p (length xs) t s h)))
      (λ s. every_intro a p (length xs) (λ t h. f t h ∙ every_of_at r xs d t s h))

  pub insides_are : (parts : ℕ) (owners : Bytes) (ends : List ℕ) → EndTable m st ends (cell_count m) → (i q : ℕ) → q < cell_count m
      → inside_at owners table ends i q ≡ inside (split_of m parts owners st) i (first_cell m + q)
  unfolding inside_at entry_owned owns_at inside owns split_of
  insides_are parts owners ends E i q h =
      let a : get_or ends q 0 ≡ entry_count m st q = E.each q (omega arith) in
      let b : get_or ends (q + 1) 0 ≡ entry_count m st (q + 1) = E.each (q + 1) (omega arith) in
      let n : get_or ends (q + 1) 0 - get_or ends q 0 ≡ length (reach m st (first_cell m + q)) = omega (arith, count_more m st q) in
      let d : Near = record { cell = 0; layer = 0 } in
      ap₂ (λ x y. every x y (λ t. eqb (owner_at owners (word_at table (2 * t))) i)) a n
      ∙ every_list (entry_count m st q) (λ t. eqb (owner_at owners (word_at table (2 * t))) i) (reach m st (first_cell m + q)) d (λ e. eqb (owner_at owners (e.cell - first_cell m)) i)
      (λ t k. ap (λ x. eqb (owner_at owners x) i) (entry_is m st before table e q t d h k).0)

-- ---- the tests 12 and 13, and the tables, where the reaches are found first

module _ (m : Bytes) (parts : ℕ) (owners st : Bytes) where
  pub overflow_twelve : (s : ℕ) → s ≡ total 1 parts (row_reach_count m st owners) → most_held < s → 12 ≡ sizes_number m parts owners st
  unfolding sizes_number size_tests
  overflow_twelve s e h = sym (ap (λ b. cond b 12 (cond (bad13 m st) 13 0)) (sym (walked_told m parts owners st s e) ∙ lt-ltb most_held s h))

  pub overflow_thirteen : (s : ℕ) → s ≡ total 1 parts (row_reach_count m st owners) → s ≤ most_held → bad13 m st ≡ true → 13 ≡ sizes_number m parts owners st
  unfolding sizes_number size_tests
  overflow_thirteen s e h t = sym (ap₂ (λ a b. cond a 12 (cond b 13 0)) (sym (walked_told m parts owners st s e) ∙ le-ltb most_held s h) t)

  module _ (start table : Bytes) (ends : List ℕ) (r : ℕ) (T : Tabled m st start table ends r) where
    module _ (right : bad8 m parts owners [] ≡ false) (cells : ℕ) (ce : cells ≡ cell_count m) (holders : Bytes) (s : ℕ)
        (H : Holders owners table ends cells parts holders s) where
      N : (i q : ℕ) → q < cell_count m → inside_at owners table ends i q ≡ inside (split_of m parts owners st) i (first_cell m + q)
      N = insides_are m st start table T.text parts owners ends T.ended

      twelve : ltb most_held s ≡ bad12 (split_of m parts owners st)
      twelve = sum_told m parts owners st table ends T.ended (entry_is m st start table T.text) N cells ce holders s H

      pub tables_held : most_held < s → 12 ≡ sizes_number m parts owners st
      unfolding sizes_number size_tests
      tables_held h = sym (ap (λ b. cond b 12 (cond (bad13 m st) 13 0)) (sym twelve ∙ lt-ltb most_held s h))

      pub tables_passed : s ≤ most_held → 0 ≡ sizes_number m parts owners st
      unfolding sizes_number size_tests
      tables_passed h = sym (ap₂ (λ a b. cond a 12 (cond b 13 0)) (sym twelve ∙ le-ltb most_held s h) (table_made m st start table ends r T))

      pub tables_prepared : Accepted m → bad10 (top m) st ≡ false → Prepared m parts owners st table ends holders
      tables_prepared A stencil = record {
        mesh = A;
        map = right;
        stencil = stencil;
        ended = T.ended;
        entries = entry_is m st start table T.text;
        classes = class_told m parts owners st table ends T.ended (entry_is m st start table T.text) N;
        held = held_told m parts owners st table ends T.ended (entry_is m st start table T.text) N cells ce holders s H;
      }

-- Take, by the tests that the code makes one after the other. Assumes nothing.
use mathlib.Core.Path.{◌≡◌, refl, sym, ap, ap₂, ◌∙◌, subst}
use mathlib.Core.Bool.{Bool, true, false, not, ◌&&◌, ◌||◌}
use Prim.Native.Nat.{ℕ, ◌+◌, ◌-◌, ◌*◌, ◌≤◌, ◌<◌}
use native.Mathlib.Omega.{arith}
use lib.Dec.{eqb, ltb}
use lib.ListN.{length, set, take, length-drop}
use lib.Seq.{take_all}
use borrow.Author.Tests.{eq-eqb, ne_eqb, lt-ltb, le-ltb, not-true, not-false}
use Rattle.vocabulary.specs.Bytes.{Bytes, byte_at, over}
use Rattle.vocabulary.proofs.ListLaws.{and_true, or_false}
use Rattle.vocabulary.specs.Tests.{first_of}
use Rattle.vocabulary.specs.Intervals.{is_up_to}
use Rattle.vocabulary.proofs.IntervalLaws.{up_to_true}
use Rattle.layout.specs.Words.{word, word_at}
use Rattle.layout.proofs.AnswerLaws.{refuses, accepts, exit_answer}
use Rattle.std.specs.Prelude.{Result, Ok, Err}
use Rattle.std.specs.Result.{IsErrAnd, result_and}
use Rattle.layout.specs.Answers.{Answer, Done, Refused, answer_of, refusal_number}
use Rattle.layout.specs.declared.refusal.Refusal.{Refusal}
use Rattle.layout.specs.Limits.{most_parts}
use Rattle.messages.specs.Messages.{depths_of, message_size, bad15, from_in, to_in, round_in, count_in, reading}
use Rattle.messages.specs.Readings.{IsHeader, meant_reading}
use Rattle.messages.proofs.ReadingLaws.{message_told, refusal_told}
use Rattle.messages.specs.declared.Header.{Header}
use Rattle.messages.proofs.Else.{meant_as, else_bad}
use Rattle.part_state.specs.State.{Lists, lists_in, lists_of, dynamic, bad20, held_count, depth_place, state_length, taken_place, import_word, part_number}
use Rattle.part_calls.specs.Calls.{imports_from, take_tests_in, taken_in, take_number, take_answer, take_state}
use Rattle.part_calls.proofs.CallLaws.{Room, room_of, Taken, taken_facts}
use Rattle.part_calls.specs.Opened.{Opened, bad_sender, take_rest}
use Rattle.part_calls.proofs.OpenedLaws.{whole, long, good_state, lists_is, part_few}
use Rattle.part_state.specs.Checks.{before_imports}

-- ---- the sender (21)

module _ (lists : Bytes) (from to count part : ℕ) (pe : part ≡ part_number lists) where
  pub sender_1 : (to ≡ part → ⊥) → true ≡ bad_sender (lists_in lists) from to count
  unfolding bad_sender lists_in
  sender_1 z = simp (sym pe, ne_eqb _ _ z)

  module _ (te : to ≡ part) (u : Bool) (ue : u ≡ is_up_to most_parts from) where
    pub sender_2 : not u ≡ true → true ≡ bad_sender (lists_in lists) from to count
    unfolding bad_sender lists_in imports_from
    sender_2 z = simp (sym pe, eq-eqb _ _ te, sym ue, not-true u z)

    module _ (uf : not u ≡ false) where
      up : (1 ≤ from) × (from ≤ most_parts)
      up = part_few from u ue uf

      module _ (n : ℕ) (ne : n ≡ word_at lists (before_imports + from + 1) - word_at lists (before_imports + from)) where
        import_is : word_at lists (import_word + from) - word_at lists (import_word + (from - 1)) ≡ n
        import_is =
            let p : import_word + from ≡ before_imports + from + 1 = omega arith in
            let q : import_word + (from - 1) ≡ before_imports + from = omega (arith, up.0) in
            ap₂ (λ x y. word_at lists x - word_at lists y) p q ∙ sym ne

        pub sender_3 : n < 1 → true ≡ bad_sender (lists_in lists) from to count
        unfolding bad_sender lists_in imports_from
        sender_3 h = let z : n ≤ 0 = omega arith in simp (sym pe, eq-eqb _ _ te, sym ue, not-false u uf, import_is, le-ltb 0 n z)

        pub sender_4 : 1 ≤ n → not (eqb count n) ≡ bad_sender (lists_in lists) from to count
        unfolding bad_sender lists_in imports_from
        sender_4 h = simp (sym pe, eq-eqb _ _ te, sym ue, not-false u uf, import_is, lt-ltb 0 n h)

-- a message that is not refused comes from one of the parts
pub sender_few : (lists : Bytes) (from to count : ℕ) (w : Bool) → w ≡ bad_sender (lists_in lists) from to count → w ≡ false → from ≤ most_parts
unfolding bad_sender imports_from
sender_few lists from to count w we wf =
    let a = not (eqb to (lists_in lists).part) in
    let c = not (is_up_to most_parts from && ltb 0 ((lists_in lists).imported from)) in
    let e = not (eqb count ((lists_in lists).imported from)) in
    let p = or_false (a || c) e (sym we ∙ wf) in
    (up_to_true most_parts from (and_true (is_up_to most_parts from) (ltb 0 ((lists_in lists).imported from)) (not-false _ (or_false a c p.0).1)).0).1

-- ---- the words of a message (21, 22, 23)

module _ (lists b : Bytes) (changes from to count : ℕ) (w : Bool) (we : w ≡ bad_sender (lists_in lists) from to count) where
  pub rest_1 : (round : ℕ) → w ≡ true → 21 ≡ take_rest (lists_in lists) changes b from to round count
  unfolding take_rest
  rest_1 round t = simp (sym we, t)

  module _ (round : ℕ) (wf : w ≡ false) where
    module _ (r : ℕ) (re : r ≡ word b changes) where
      pub rest_2 : (round ≡ r → ⊥) → 22 ≡ take_rest (lists_in lists) changes b from to round count
      unfolding take_rest
      rest_2 z = simp (sym we, wf, sym re, ne_eqb _ _ z)

      module _ (rr : round ≡ r) (y : ℕ) (ye : y ≡ byte_at b (taken_place changes from)) where
        pub rest_3 : y ≡ 1 → 23 ≡ take_rest (lists_in lists) changes b from to round count
        unfolding take_rest
        rest_3 e = simp (sym we, wf, sym re, eq-eqb _ _ rr, sym ye, eq-eqb _ _ e)

        pub rest_4 : (y ≡ 1 → ⊥) → 0 ≡ take_rest (lists_in lists) changes b from to round count
        unfolding take_rest
        rest_4 z = simp (sym we, wf, sym re, eq-eqb _ _ rr, sym ye, ne_eqb _ _ z)

-- ---- what is stored

pub store_told : (b x y z : Bytes) (i at count : ℕ) → length x ≡ message_size count → z ≡ set b i 1 → y ≡ over z at (take (4 * count) (depths_of x)) → y ≡ over (set b i 1) at (depths_of x)
store_told b x y z i at count l f e =
    e ∙ ap₂ (λ (u : Bytes) (w : Bytes). over u at w) f (take_all (4 * count) (depths_of x) (omega (arith, length-drop 8 x)))

-- ---- the reader's result is a message

pub message_good : {h : Header} (x : Bytes) (r : Result Header Refusal) → meant_reading x r ≡ reading x → r ≡ Ok h → bad15 x ≡ false
message_good {h = h} x r e o = (message_told x h (meant_as x r e o)).0

pub message_header : (x : Bytes) (r : Result Header Refusal) (h : Header) → meant_reading x r ≡ reading x → r ≡ Ok h → IsHeader x h
message_header x r h e m = let p = message_told x h (meant_as x r e m) in (p.1, p.2, p.3, p.4)

-- ---- the answer

module _ (b x : Bytes) where
  abbrev Answered : Answer → Bytes → Type 0
  Answered r y = (r ≡ take_answer b x) × (y ≡ take_state b x)

  refused : (n : ℕ) → take_number b x ≡ n → (n ≡ 0 → ⊥) → Answered (Refused n) b
  unfolding take_answer take_state
  refused = refuses (take_number b x) 0 (taken_in (lists_of b) (dynamic b) b x) b

  done : take_number b x ≡ 0 → Answered (Done 0) (taken_in (lists_of b) (dynamic b) b x)
  unfolding take_answer take_state
  done = accepts (take_number b x) 0 (taken_in (lists_of b) (dynamic b) b x) b

  here : (L : Lists) (changes : ℕ) → over (set b (taken_place changes (from_in x)) 1) (depth_place changes (L.before (from_in x) + 1)) (depths_of x) ≡ taken_in L changes b x
  unfolding taken_in
  here L changes = refl

  -- the reader refused
  pub told_15 : {m : Refusal} (r : Result Header Refusal) → meant_reading x r ≡ reading x → r ≡ Err m → Answered (Refused 15) b
  unfolding take_number take_tests_in
  told_15 r e o = refused 15 (simp (else_bad x r e o)) (λ k. omega (arith, k))

  -- and its refusal is what is passed on
  pub told_reading : {m : Refusal} (r : Result Header Refusal) → meant_reading x r ≡ reading x → r ≡ Err m → (a : Result ℕ Refusal) → a ≡ result_and r (Ok 0)
      → Answered (answer_of a) b
  told_reading {m = m} r e o a ae =
      let told = told_15 r e o in
      let given : a ≡ Err m = ae ∙ ap (λ y. result_and y (Ok 0)) o in
      (ap answer_of given ∙ ap Refused (refusal_told x m (meant_as x r e o)).1 ∙ told.0, told.1)

  -- there is no state
  pub told_20 : {h : Header} (r : Result Header Refusal) → meant_reading x r ≡ reading x → r ≡ Ok h → (e : Refusal) (a : Result ℕ Refusal) → IsErrAnd a (λ y. y ≡ e)
      → (refusal_number e ≡ 20) × (bad20 b ≡ true) → Answered (answer_of a) b
  unfolding take_number take_tests_in
  told_20 r re o e a ae q =
      let told = refused 20 (simp (message_good x r re o, q.1)) (λ k. omega (arith, k)) in
      (exit_answer e a 20 ae q.0 ∙ told.0, told.1)

-- by what the opened state has of the bytes
module _ (b x lists : Bytes) {changes : ℕ} {was : Bytes} (opened : Opened lists changes was) (at : was ≡ b) (fifteen : bad15 x ≡ false) (h : Header) (w : IsHeader x h) where
  o : Opened lists changes b
  o = subst (λ y. Opened lists changes y) at opened

  number_here : take_number b x ≡ take_rest (lists_of b) (dynamic b) b (from_in x) (to_in x) (round_in x) (count_in x)
  unfolding take_number take_tests_in take_rest bad_sender
  number_here = simp (fifteen, good_state lists changes b o)

  number_is : take_number b x ≡ take_rest (lists_in lists) changes b h.from h.to h.round h.count
  number_is =
      number_here
      ∙ ap₂ (λ (L : Lists) p. take_rest L p b (from_in x) (to_in x) (round_in x) (count_in x)) (lists_is lists changes b o) (sym o.place_is)
      ∙ ap₂ (λ f t. take_rest (lists_in lists) changes b f t (round_in x) (count_in x)) (sym w.0) (sym w.1)
      ∙ ap₂ (λ r c. take_rest (lists_in lists) changes b h.from h.to r c) (sym w.2) (sym w.3)

  module _ (n : ℕ) (ne : n ≡ take_rest (lists_in lists) changes was h.from h.to h.round h.count) where
    number_was : take_number b x ≡ n
    number_was = number_is ∙ sym (ne ∙ ap (λ y. take_rest (lists_in lists) changes y h.from h.to h.round h.count) at)

    pub told_refused : (n ≡ 0 → ⊥) → (Refused n ≡ take_answer b x) × (b ≡ take_state b x)
    told_refused = refused b x n number_was

    module _ (nz : n ≡ 0) where
      accepted : take_number b x ≡ 0
      accepted = number_was ∙ nz

      facts : Taken (lists_in lists) changes b x
      unfolding take_number
      facts =
          taken_facts (lists_in lists) changes b x
          (ap₂ (λ (L : Lists) p. first_of (take_tests_in L p b x)) (sym (lists_is lists changes b o)) o.place_is ∙ accepted)

      pub from_few : h.from ≤ most_parts
      from_few = omega (arith, facts.from_most)

      module _ (before : ℕ) (be : before ≡ word_at lists (before_imports + h.from)) where
        before_is : (lists_in lists).before (from_in x) ≡ before
        unfolding lists_in
        before_is =
            let p : import_word + (from_in x - 1) ≡ before_imports + h.from = omega (arith, facts.from_least) in
            ap (word_at lists) p ∙ sym be

        held_room : before + h.count ≤ held_count lists
        unfolding lists_in
        held_room =
            let room : Room (lists_in lists) changes b = room_of lists changes b (whole lists changes b o) in
            omega (arith, room.fits (from_in x) facts.from_least facts.from_most, before_is, facts.count_is, w.3)

        pub store_fits : (changes < 131072) × (h.from ≤ most_parts) × (before < 65536) × (h.count < 65536) × (state_length changes (before + h.count) ≤ length b) × (length x ≡ message_size h.count)
        store_fits = (
          o.place_small,
          from_few,
          omega (arith, held_room, (whole lists changes b o).few),
          omega (arith, held_room, (whole lists changes b o).few),
          omega (arith, held_room, long lists changes b o),
          facts.size ∙ ap (λ k. message_size k) (sym w.3),
        )

        pub told_done : (y : Bytes) → y ≡ over (set b (taken_place changes h.from) 1) (depth_place changes (before + 1)) (depths_of x) → (Done 0 ≡ take_answer b x) × (y ≡ take_state b x)
        told_done y e = let a = done b x accepted in (a.0, e ∙ taken_is ∙ a.1)
          where
            taken_is : over (set b (taken_place changes h.from) 1) (depth_place changes (before + 1)) (depths_of x) ≡ taken_in (lists_of b) (dynamic b) b x
            taken_is =
                ap₂ (λ f k. over (set b (taken_place changes f) 1) (depth_place changes (k + 1)) (depths_of x)) w.0 (sym before_is)
                ∙ here b x (lists_in lists) changes
                ∙ ap₂ (λ (L : Lists) p. taken_in L p b x) (sym (lists_is lists changes b o)) o.place_is

-- The call that gives a list: what its tests give, and what it answers. Assumes nothing.
use mathlib.Core.Path.{◌≡◌, refl, sym, ap, ap₂, ◌∙◌, subst}
use mathlib.Core.Bool.{cond}
use mathlib.Core.List.{List, [], ◌∷◌}
use Prim.Native.Nat.{ℕ, ◌*◌, ◌≤◌}
use native.Mathlib.Omega.{arith}
use lib.Dec.{eqb, ltb}
use lib.ListN.{length, take}
use borrow.Author.Tests.{eq-eqb, ne_eqb}
use Rattle.vocabulary.specs.Bytes.{Bytes, over}
use Rattle.vocabulary.specs.Tests.{refuse, first_of}
use Rattle.vocabulary.proofs.TestLaws.{first_of_append}
use Rattle.layout.specs.Words.{bytes_of}
use Rattle.layout.specs.Answers.{answer}
use Rattle.layout.proofs.AnswerLaws.{refuses}
use Rattle.layout.specs.Answers.{Answer}
use Rattle.layout.specs.Answers.{Refused}
use Rattle.layout.specs.Limits.{most_elements}
use Rattle.split.specs.Lists.{SplitInput, split_tests, size_tests, split_number, sizes_number, others, list_words, list_number, list_answer, list_out, split_input}
use Rattle.split.proofs.PassedLaws.{Passed, twice, passed_facts}
use Rattle.split.proofs.SplitLaws.{split_numbered, sizes_numbered}
use Rattle.mesh.specs.Mesh.{cell_count}
use Rattle.split_classes.specs.Classes.{Classed, Prepared, Appended}
use Rattle.word_lists.specs.Putting.{given_number, given_answer, given_out}
use Rattle.split_wanted.specs.Giving.{other_of, row_of, chosen}
use Rattle.split.specs.declared.Wanted.{Wanted}
use Rattle.split.specs.declared.Wanted.TheVariants.{Interior, Halo, Locals, Imports, Exports, Private, Exposed, Shared, Copied}
use Rattle.split_cells.proofs.AddLaws.{added_fits}
use Rattle.split_wanted.proofs.ChosenLaws.{chosen_is, list_few}
use Rattle.split_lists.proofs.GivingLaws.{given_answer_lem, given_out_lem}

module _ (m : Bytes) (parts : ℕ) (owners : Bytes) (i : ℕ) (st : Bytes) (w : Wanted) where
  -- what the call is given
  abbrev pub D : SplitInput
  D = split_input m parts owners st

  -- ---- the tests up to 10: a list that names no other part names its own twice

  named : (v : Wanted) → split_tests D (i ∷ other_of v i ∷ []) ≡ split_tests D (i ∷ others v)
  unfolding others
  named Interior = twice m parts owners i st
  named Halo = twice m parts owners i st
  named Locals = twice m parts owners i st
  named (Imports j) = refl
  named (Exports j) = refl
  named (Private k) = twice m parts owners i st
  named (Exposed k) = twice m parts owners i st
  named (Shared k) = twice m parts owners i st
  named (Copied k) = twice m parts owners i st

  number_named : split_number m parts owners (i ∷ other_of w i ∷ []) st ≡ split_number m parts owners (i ∷ others w) st
  unfolding split_number
  number_named = ap first_of (named w)

  pub number_found : (n j : ℕ) → j ≡ other_of w i → n ≡ split_number m parts owners (i ∷ j ∷ []) st → n ≡ split_number m parts owners (i ∷ others w) st
  number_found n j je e = e ∙ ap (λ x. split_number m parts owners (i ∷ x ∷ []) st) je ∙ number_named

  pub facts : split_number m parts owners (i ∷ others w) st ≡ 0 → Passed m parts owners i (other_of w i) st
  facts p = passed_facts m parts owners i (other_of w i) st (number_named ∙ p)

  -- ---- the answer

  module _ (out : Bytes) where
    abbrev ws : List ℕ
    ws = list_words D i w

    abbrev after_sizes : ℕ
    after_sizes = cond (eqb (sizes_number m parts owners st) 0) (given_number ws out) (sizes_number m parts owners st)

    number_is : list_number D i w out
        ≡ cond (eqb (split_number m parts owners (i ∷ others w) st) 0) after_sizes (split_number m parts owners (i ∷ others w) st)
    unfolding list_number split_number sizes_number given_number
    number_is =
        let tests = split_tests D (i ∷ others w) in
        first_of_append tests _ (split_numbered m parts owners (i ∷ others w) st)
        ∙ ap (λ n. cond (eqb (first_of tests) 0) n (first_of tests))
        (first_of_append (size_tests D) (refuse 16 (ltb (length out) (2 * length ws)) ∷ []) (sizes_numbered m parts owners st))

    refusing : (n : ℕ) → (n ≡ 0 → ⊥) → list_number D i w out ≡ n
        → (Refused n ≡ list_answer D i w out) × (out ≡ list_out D i w out)
    unfolding list_answer list_out
    refusing n h e = refuses (list_number D i w out) (length ws) (over out 0 (bytes_of ws)) out n e h

    pub refused_split : (n : ℕ) → n ≡ split_number m parts owners (i ∷ others w) st → (n ≡ 0 → ⊥)
        → (Refused n ≡ list_answer D i w out) × (out ≡ list_out D i w out)
    refused_split n e h = refusing n h (number_is ∙ ap₂ (λ b x. cond b after_sizes x) (ne_eqb _ 0 (λ z. h (e ∙ z))) (sym e))

    module _ (p : split_number m parts owners (i ∷ others w) st ≡ 0) where
      sizes_left : list_number D i w out ≡ after_sizes
      sizes_left = number_is ∙ ap (λ b. cond b after_sizes (split_number m parts owners (i ∷ others w) st)) (eq-eqb _ 0 p)

      pub refused_sizes : (n : ℕ) → n ≡ sizes_number m parts owners st → (n ≡ 0 → ⊥)
          → (Refused n ≡ list_answer D i w out) × (out ≡ list_out D i w out)
      refused_sizes n e h = refusing n h (sizes_left ∙ ap₂ (λ b x. cond b (given_number ws out) x) (ne_eqb _ 0 (λ z. h (e ∙ z))) (sym e))

      module _ (q : sizes_number m parts owners st ≡ 0) (table : Bytes) (ends : List ℕ) (holders : Bytes) (R : Prepared m parts owners st table ends holders)
          (cells : ℕ) (ce : cells ≡ cell_count m) (class : Bytes) (r : ℕ) (re : r ≡ row_of w i) (C : Classed owners table ends r cells class) where
        words_are : chosen w m parts class holders i ≡ ws
        unfolding list_words
        words_are =
            let f = facts p in
            chosen_is m parts owners st table ends holders R w i f.i_in.0 f.i_high f.j_in.0 f.j_high f.few cells ce class
            (subst (λ x. Classed owners table ends x cells class) re C)

        chosen_few : length (chosen w m parts class holders i) ≤ most_elements
        chosen_few = subst (λ (xs : List ℕ). length xs ≤ most_elements) (sym words_are) (unfold list_words in list_few m parts owners st table ends holders R w i)

        given : list_number D i w out ≡ given_number ws out
        given = sizes_left ∙ ap (λ b. cond b (given_number ws out) (sizes_number m parts owners st)) (eq-eqb _ 0 q)

        given_list : (x : Answer) (after : Bytes)
            → (x ≡ given_answer (chosen w m parts class holders i) out) × (after ≡ given_out (chosen w m parts class holders i) out)
            → (x ≡ list_answer D i w out) × (after ≡ list_out D i w out)
        unfolding given_answer given_out list_answer list_out
        given_list x after g = (
          g.0 ∙ ap (λ xs. answer (given_number xs out) (length xs)) words_are ∙ ap (λ n. answer n (length ws)) (sym given),
          g.1
              ∙ ap (λ xs. cond (eqb (given_number xs out) 0) (over out 0 (bytes_of xs)) out) words_are
              ∙ ap (λ n. cond (eqb n 0) (over out 0 (bytes_of ws)) out) (sym given),
        )

        -- the list as it was made in work space, and given from there
        module _ (a b : List ℕ) (n : ℕ) (X : Appended a b 0 n (chosen w m parts class holders i)) (long : most_elements ≤ length a) where
          pub give_fits : (n ≤ length b) × (n ≤ 65536)
          give_fits = (added_fits a b n (chosen w m parts class holders i) X long chosen_few, omega (arith, X.count, chosen_few))

          pub give_list : (x : Answer) (after : Bytes) → (x ≡ given_answer (take n b) out) × (after ≡ given_out (take n b) out)
              → (x ≡ list_answer D i w out) × (after ≡ list_out D i w out)
          give_list x after g =
              given_list x after (
                given_answer_lem a b n (chosen w m parts class holders i) out x X long chosen_few g.0,
                given_out_lem a b n (chosen w m parts class holders i) out after X long chosen_few g.1,
              )

-- An imported cell stands at its place: in its import list, behind the import lists before it in the local order, and in every message of a run. Assumes nothing.
use mathlib.Core.Path.{◌≡◌, refl, sym, ap, ◌∙◌}
use mathlib.Core.Bool.{true, false, cond}
use mathlib.Core.List.{List, [], map}
use Prim.Native.Nat.{ℕ, zero, suc, ◌+◌, ◌-◌, ◌*◌, ◌/◌, ◌<◌, ◌≤◌}
use native.Mathlib.Omega.{arith}
use lib.ListN.{length, get_or, take, drop, length-map}
use lib.Seq.{take_at}
use borrow.Author.Tests.{eq-eqb}
use Rattle.vocabulary.specs.Bytes.{Bytes, over}
use Rattle.vocabulary.proofs.ByteLaws.{over_front}
use Rattle.vocabulary.specs.Lists.{is_in}
use Rattle.vocabulary.proofs.ListLaws.{is_in_at, not_both, mem_all, get_or_map_any}
use Rattle.vocabulary.specs.Intervals.{total}
use Rattle.vocabulary.specs.Tests.{first_of}
use Rattle.layout.specs.Words.{words, bytes_of}
use Rattle.layout.proofs.WordLaws.{length_bytes_of, words_bytes_of}
use Rattle.depths.specs.Depths.{four}
use Rattle.round.specs.Rounds.{depth_in, undivided}
use Rattle.messages.specs.Messages.{depth_start, from_in, to_in, round_in, count_in}
use Rattle.split.specs.Split.{Split, owned, imports, exports, locals, local_of}
use Rattle.split.specs.Lists.{SplitInput, split_in, split_number, list_words, list_number, list_out}
use Rattle.split.specs.declared.Wanted.{Wanted}
use Rattle.split.proofs.SplitLaws.{SplitCell, import_facts, import_at, import_fits, own_has, own_local, order_length, map_facts, split_owner}
use Rattle.split.proofs.PassedLaws.{twice, passed_facts}
use Rattle.split.proofs.OrderLaws.{cells_rise, local_number}
use Rattle.part_state.specs.State.{Lists, lists_in}
use Rattle.part_start_plan.specs.Start.{Inputs, scheme_in, import_ends}
use Rattle.run_theorem.specs.Run.{end_of}
use Rattle.run_theorem.proofs.RunLaws.{RightMessage}
use Rattle.run_theorem.proofs.WorldLaws.{lists_at}
use Rattle.run_theorem.proofs.StartLaws.{Ready, front_in, order_in, lists_exports, lists_global, local_least}
use Rattle.run_theorem.proofs.DemandLaws.{inputs, end_inv}
use Rattle.place_search.specs.Places.{place_in, words_in}
use Rattle.place_search.proofs.PlaceLaws.{place_theorem}
use Rattle.import_places.specs.ImportPlaces.{imported_by, ImportTheorem}

-- ---- places in an import list

module _ (S : Split) (i j c : ℕ) where
  import_place : (place_in c (imports S i j) ≡ 0 → is_in c (imports S i j) ≡ false) × (is_in c (imports S i j) ≡ false → place_in c (imports S i j) ≡ 0)
  import_place = (place_theorem.each_list c (imports S i j)).none_absent ((cells_rise S i).4 j)

  -- a cell of the list stands in it at its place
  found_at : is_in c (imports S i j) ≡ true → (p : ℕ) × (place_in c (imports S i j) ≡ suc p) × (p < length (imports S i j)) × (get_or (imports S i j) p 0 ≡ c)
  found_at t = go (place_in c (imports S i j)) refl
    where
      go : (q : ℕ) → place_in c (imports S i j) ≡ q → (p : ℕ) × (place_in c (imports S i j) ≡ suc p) × (p < length (imports S i j)) × (get_or (imports S i j) p 0 ≡ c)
      go zero e = absurd (not_both (is_in c (imports S i j)) t (import_place.0 e))
      go (suc p) e = let h = (place_theorem.each_list c (imports S i j)).place_has p e in (p, e, h.0, h.1)

  import_local : ((c : ℕ) → SplitCell S c → (1 ≤ S.owner c) × (S.owner c ≤ S.parts)) → is_in c (imports S i j) ≡ true
      → local_of (locals S i) c ≡ import_ends S i (locals S i) (j - 1) + place_in c (imports S i j)
  unfolding import_ends
  import_local owner_in t =
      let f = import_facts S i j c (is_in_at c (imports S i j) t) in
      let o = owner_in c f.0 in
      let low : 1 ≤ j = omega (arith, f.2, o.0) in
      let high : j ≤ S.parts = omega (arith, f.2, o.1) in
      let a = found_at t in
      let l : ℕ = length (owned S i) + total 1 (j - 1) (λ k. length (imports S i k)) + 1 + a.0 in
      ap (local_of (locals S i)) (sym (import_at S i j a.0 low high a.2 ∙ a.3))
      ∙ local_number S i l (omega arith) (import_fits S i j a.0 low high a.2)
      ∙ (omega (arith, a.1))

-- ---- places in a message of a run

module _ (I : Inputs) (R : Ready I) (x : Bytes) (M : RightMessage (scheme_in I) I.field I.split.parts (lists_at I (front_in I)) x) where
  abbrev S : Split
  S = split_in I.split

  -- the lists of the sender
  abbrev L : Lists
  L = lists_in (front_in I (from_in x))

  abbrev sent : List ℕ
  sent = imported_by I x

  exports_are : L.exports (to_in x) ≡ map (local_of (order_in I (from_in x))) sent
  unfolding exports
  exports_are = lists_exports I R (from_in x) (to_in x) M.receiver.0 M.receiver.1

  message_count : count_in x ≡ length sent
  message_count = M.count ∙ ap (λ ls. length ls) exports_are ∙ length-map sent (local_of (order_in I (from_in x)))

  message_place : (c : ℕ) → is_in c sent ≡ true → four x (depth_start (place_in c sent - 1)) ≡ depth_in (scheme_in I) (undivided (scheme_in I) I.field (round_in x)) c
  message_place c t =
      let a = found_at S (to_in x) (from_in x) c t in
      let f = import_facts S (to_in x) (from_in x) c (is_in_at c sent t) in
      let own = own_local S (from_in x) c (own_has S (from_in x) c f.0 f.2) in
      let export : get_or (L.exports (to_in x)) a.0 0 ≡ local_of (order_in I (from_in x)) c =
      ap (λ ls. get_or ls a.0 0) exports_are ∙ get_or_map_any (local_of (order_in I (from_in x))) sent a.0 0 0 a.2 ∙ ap (local_of (order_in I (from_in x))) a.3 in
      let cell : L.global (local_of (order_in I (from_in x)) c) ≡ c =
      lists_global I R (from_in x) (local_of (order_in I (from_in x)) c) (local_least I R (from_in x) c) (omega (arith, own.0, order_length S (from_in x))) ∙ own.1 in
      let at : place_in c sent - 1 ≡ a.0 = omega (arith, a.1) in
      ap (λ n. four x (depth_start n)) at
      ∙ M.depths a.0 (omega (arith, message_count, a.2))
      ∙ ap (depth_in (scheme_in I) (undivided (scheme_in I) I.field (round_in x))) (ap L.global export ∙ cell)

-- ---- a list that was given

words_back : (ws : List ℕ) → words_in (bytes_of ws) ≡ ws
unfolding words_in
words_back ws =
    let n : length (bytes_of ws) / 2 ≡ length ws = omega (arith, length_bytes_of ws) in
    ap (words (bytes_of ws) 0) n ∙ words_bytes_of ws

given_back : (D : SplitInput) (i : ℕ) (w : Wanted) (out : Bytes) → list_number D i w out ≡ 0 → words_in (take (2 * length (list_words D i w)) (list_out D i w out)) ≡ list_words D i w
unfolding list_out
given_back D i w out e =
    let ws : List ℕ = list_words D i w in
    ap (λ t. words_in (take (2 * length ws) (cond t (over out 0 (bytes_of ws)) out))) (eq-eqb _ 0 e)
    ∙ ap (λ b. words_in (take (2 * length ws) b)) (over_front out (bytes_of ws))
    ∙ ap words_in (take_at (bytes_of ws) (drop (length (bytes_of ws)) out) (2 * length ws) (length_bytes_of ws))
    ∙ words_back ws

-- ---- the theorem

pub import_theorem : ImportTheorem
unfolding split_number
import_theorem = record {
  lists = λ D i e.
      let p = passed_facts D.mesh D.parts D.owners i i D.stencil (ap first_of (twice D.mesh D.parts D.owners i D.stencil) ∙ e) in
      let owner_in = split_owner D.mesh D.parts D.owners D.stencil (map_facts D.mesh D.parts D.owners [] p.map).owner_in in
      record { import_place = import_place (split_in D) i; import_local = λ j c t. import_local (split_in D) i j c owner_in t };
  given_back = given_back;
  messages = λ I r x written.
      let M = mem_all (RightMessage (scheme_in I) I.field I.split.parts (lists_at I (front_in I))) (end_of r).sent written (end_inv I r).right in
      record { long = M.long; count = message_count I (inputs I r) x M; message_place = message_place I (inputs I r) x M };
}

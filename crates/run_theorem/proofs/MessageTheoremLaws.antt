-- What an accepted write gives is read back, and no other bytes are read as it. Assumes nothing.
use mathlib.Core.Path.{◌≡◌, refl, sym, ap, ◌∙◌}
use mathlib.Core.Bool.{true}
use Prim.Native.Nat.{ℕ, ◌+◌, ◌-◌, ◌≤◌}
use native.Mathlib.Omega.{arith}
use lib.ListN.{take}
use Rattle.vocabulary.specs.Bytes.{Bytes}
use Rattle.vocabulary.specs.Lists.{All}
use Rattle.vocabulary.proofs.ListLaws.{All_map, All_of_map}
use Rattle.vocabulary.proofs.IntervalLaws.{listed_all}
use Rattle.layout.specs.Limits.{most_parts}
use Rattle.depths.specs.Depths.{value_of}
use Rattle.depths.proofs.DepthLaws.{length_four, within_valid}
use Rattle.messages.specs.Messages.{encode, reading}
use Rattle.messages.proofs.MessageLaws.{Sound, read_back, read_once}
use Rattle.part_state.specs.State.{lists_in, lists_of, dynamic, is_state, local_exports, export_end, export_at, held_count, depth_place}
use Rattle.part_state.proofs.StateLaws.{state_at, Whole, whole_is}
use Rattle.part_calls.specs.Calls.{depth_at, sent_message, message_to, message}
use Rattle.run_theorem.specs.Run.{MessageTheorem}
use Rattle.run_theorem.proofs.StepLaws.{on_states, write_part, written_is}
use Rattle.run_theorem.proofs.KeptLaws.{ranged_local}

message_is : (b : Bytes) (j : ℕ) → message b j ≡ encode (sent_message b j)
unfolding message message_to
message_is b j = refl

-- the cells that a state exports are held, so their depths may stand in a message
module _ (b : Bytes) (s : is_state b ≡ true) where
  whole : Whole (take (dynamic b) b) (dynamic b) b
  whole = whole_is (take (dynamic b) b) (dynamic b) b (sym (state_at b) ∙ s)

  exports_held : (j : ℕ) → 1 ≤ j → j ≤ most_parts → All (λ l. (1 ≤ l) × (l ≤ held_count (take (dynamic b) b))) (local_exports (take (dynamic b) b) j)
  unfolding local_exports
  exports_held j least most =
      let lists : Bytes = take (dynamic b) b in
      listed_all (λ l. (1 ≤ l) × (l ≤ held_count lists)) (export_end lists (j - 1)) (export_end lists j - export_end lists (j - 1)) (export_at lists)
      (λ t h.
      let e = whole.exported (export_end lists (j - 1) + t) (omega (arith, whole.export_ends (j - 1) j (omega arith) most, whole.export_ends j most_parts most (omega arith))) in
      (e.0, omega (arith, e.1, whole.ends 0 most_parts (omega arith) (omega arith))))

  sent_sound : (j : ℕ) → 1 ≤ j → j ≤ most_parts → All Sound (sent_message b j).depths
  unfolding lists_of lists_in
  sent_sound j least most =
      let lists : Bytes = take (dynamic b) b in
      All_of_map Sound (depth_at (dynamic b) b) (local_exports lists j)
      (All_map (local_exports lists j)
      (λ l h. (length_four b (depth_place (dynamic b) l), within_valid (value_of (depth_at (dynamic b) b l)) (ranged_local b (dynamic b) (held_count lists) l whole.ranged h.0 h.1)))
      (exports_held j least most))

pub message_theorem : MessageTheorem
message_theorem = record {
  read_back = λ b out j e.
      let u = write_part b j out e in
      ap (λ x. reading x) (written_is b j out e ∙ message_is b j) ∙ read_back (sent_message b j) (sent_sound b ((on_states b).0 j out e) j u.0 u.1);
  read_once = λ b out j e x a r. read_once x (sent_message b j) a r ∙ sym (written_is b j out e ∙ message_is b j);
}

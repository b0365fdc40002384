-- What a caller learns from the reader's answer, a message or a refusal, where it means what reading gives. Assumes nothing.
use Rattle.std.specs.Prelude.{◌≡◌, Bool, Ok, Err}
use Rattle.std.proofs.Math.Path.{refl, sym, ap}
use Rattle.std.proofs.Common.{◌∙◌, true≢false}
use Rattle.std.proofs.Math.Bool.{true, false, cond}
use Rattle.std.proofs.Math.ListN.{length}
use Rattle.vocabulary.specs.Bytes.{Bytes}
use Rattle.vocabulary.specs.Intervals.{listed}
use Rattle.vocabulary.proofs.IntervalLaws.{listed_length}
use Rattle.depths.specs.Depths.{four}
use Rattle.layout.specs.Answers.{refusal_number}
use Rattle.layout.specs.declared.refusal.Refusal.{Refusal}
use Rattle.messages.specs.Messages.{depth_start, from_in, to_in, round_in, count_in, bad15, Message, read, refused, reading}
use Rattle.messages.proofs.MessageLaws.{message_in, is_read, held, numbered}
use Rattle.messages.specs.Readings.{meant_reading}
use Rattle.messages.specs.declared.Header.{Header}

module _ (b : Bytes) where
  -- the message whose words are h
  abbrev within : Header → Message
  within h = record {
    from = h.from;
    to = h.to;
    round = h.round;
    depths = listed 0 h.count (λ t. four b (depth_start t));
  }

  -- the count is the number of depths, so it follows, too
  pub message_told : (h : Header) → meant_reading b (Ok h) ≡ reading b
      → (bad15 b ≡ false) × (h.from ≡ from_in b) × (h.to ≡ to_in b) × (h.round ≡ round_in b) × (h.count ≡ count_in b)
  unfolding meant_reading reading
  message_told h e = go (bad15 b) refl e
    where
      go : (t : Bool) → bad15 b ≡ t → read (within h) ≡ cond t (refused 15) (read (message_in b))
          → (bad15 b ≡ false) × (h.from ≡ from_in b) × (h.to ≡ to_in b) × (h.round ≡ round_in b) × (h.count ≡ count_in b)
      go true q p = absurd (true≢false (ap is_read p))
      go false q p =
          let same : within h ≡ message_in b = ap (held (within h)) p in
          let depths : length (within h).depths ≡ length (message_in b).depths = ap (λ (x : Message). length x.depths) same in (
            q,
            ap (λ (x : Message). x.from) same,
            ap (λ (x : Message). x.to) same,
            ap (λ (x : Message). x.round) same,
            sym (listed_length 0 (λ t. four b (depth_start t)) h.count) ∙ depths ∙ listed_length 0 (λ t. four b (depth_start t)) (count_in b),
          )

  pub refusal_told : (r : Refusal) → meant_reading b (Err r) ≡ reading b → (bad15 b ≡ true) × (refusal_number r ≡ 15)
  unfolding meant_reading reading
  refusal_told r e = go (bad15 b) refl e
    where
      go : (t : Bool) → bad15 b ≡ t → refused (refusal_number r) ≡ cond t (refused 15) (read (message_in b)) → (bad15 b ≡ true) × (refusal_number r ≡ 15)
      go true q p = (q, ap numbered p)
      go false q p = absurd (true≢false (sym (ap is_read p)))

-- What the result of the code's reader means: the paper's message, or the number of its refusal. Assumes nothing.
use Rattle.std.specs.Prelude.{◌≡◌, Result, Ok, Err}
use Rattle.vocabulary.specs.Bytes.{Bytes}
use Rattle.vocabulary.specs.Intervals.{listed}
use Rattle.depths.specs.Depths.{four}
use Rattle.layout.specs.Answers.{refusal_number}
use Rattle.layout.specs.declared.refusal.Refusal.{Refusal}
use Rattle.messages.specs.Messages.{depth_start, from_in, to_in, round_in, count_in, Reading, read, refused}
use Rattle.messages.specs.declared.Header.{Header}

-- h are the four words at the front of the bytes b
abbrev pub IsHeader : Bytes → Header → Type 0
IsHeader b h = (h.from ≡ from_in b) × (h.to ≡ to_in b) × (h.round ≡ round_in b) × (h.count ≡ count_in b)

-- what the result says of the bytes b that were read: the depths stand behind the header
unfoldable pub meant_reading : Bytes → Result Header Refusal → Reading
meant_reading b (Ok h) =
    read (record {
      from = h.from;
      to = h.to;
      round = h.round;
      depths = listed 0 h.count (λ t. four b (depth_start t));
    })
meant_reading b (Err refusal) = refused (refusal_number refusal)

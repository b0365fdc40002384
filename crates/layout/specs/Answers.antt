-- What a call answers. "A refusal gives its number and zero for every count". Assumes nothing.
use Rattle.std.specs.Prelude.{cond, ℕ, eqb, Result, Ok, Err}
use Rattle.vocabulary.specs.Bytes.{Bytes}
use Rattle.layout.specs.declared.refusal.Refusal.{Refusal}
use Rattle.layout.specs.declared.refusal.Refusal.TheVariants.{MeshHead, Counts, MeshLength, Record, ChainElement, Closure, Uncovered, PartMap, EmptyPart, Stencil, Rule, Held, Reach, Field, Message}
use Rattle.layout.specs.declared.refusal.Refusal.TheVariants.{Output, State, Sender, MessageRound, AlreadyTaken, NotTaken, NotWritten, LastRound, Receiver, OtherRound, PointReach}

-- how many words, bytes or cells a call gave, or the number of its refusal
pub data Answer : Type 0 where
  Done : ℕ → Answer
  Refused : ℕ → Answer

-- the number of document 01 for each refusal
abbrev pub refusal_number : Refusal → ℕ
refusal_number MeshHead = 1
refusal_number Counts = 2
refusal_number MeshLength = 3
refusal_number Record = 4
refusal_number ChainElement = 5
refusal_number Closure = 6
refusal_number Uncovered = 7
refusal_number PartMap = 8
refusal_number EmptyPart = 9
refusal_number Stencil = 10
refusal_number Rule = 11
refusal_number Held = 12
refusal_number Reach = 13
refusal_number Field = 14
refusal_number Message = 15
refusal_number Output = 16
refusal_number State = 20
refusal_number Sender = 21
refusal_number MessageRound = 22
refusal_number AlreadyTaken = 23
refusal_number NotTaken = 24
refusal_number NotWritten = 25
refusal_number LastRound = 26
refusal_number Receiver = 27
refusal_number OtherRound = 28
refusal_number PointReach = 29

-- what the result of a call answers
abbrev pub answer_of : Result ℕ Refusal → Answer
answer_of (Ok count) = Done count
answer_of (Err refusal) = Refused (refusal_number refusal)

-- the number of the refusal that a test gives, and 0 where it accepts
abbrev pub refused_as : {T : Type 0} → Result T Refusal → ℕ
refused_as (Ok value) = 0
refused_as (Err refusal) = refusal_number refusal

-- the answer of a call whose number is n, 0 where it is accepted, and which then gives this count
unfoldable pub answer : ℕ → ℕ → Answer
answer n count = cond (eqb n 0) (Done count) (Refused n)

-- what a call whose number is n leaves in a buffer: new bytes where it is accepted, and after a refusal "all lent bytes stay"
abbrev pub if_accepted : ℕ → Bytes → Bytes → Bytes
if_accepted n new old = cond (eqb n 0) new old

-- the number of document 01, and 0 where the call is accepted
abbrev pub number_of : Answer → ℕ
number_of (Done count) = 0
number_of (Refused number) = number

abbrev pub count_of : Answer → ℕ
count_of (Done count) = count
count_of (Refused number) = 0

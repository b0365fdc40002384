-- Where an imported cell stands: in its import list, among the local numbers of its part, and in the messages of a run (F-3). Assumes nothing.
use Rattle.std.specs.Prelude.{◌≡◌, ◌↔◌, true, false, ℕ, ◌+◌, ◌-◌, ◌*◌, length, take}
use mathlib.Core.List.{List, [], ◌∷◌, Memᴰ}
use Rattle.vocabulary.specs.Bytes.{Bytes}
use Rattle.vocabulary.specs.Lists.{is_in}
use Rattle.vocabulary.specs.Tests.{first_of}
use Rattle.depths.specs.Depths.{four}
use Rattle.round.specs.Rounds.{depth_in, undivided}
use Rattle.messages.specs.Messages.{depth_start, message_size, from_in, to_in, round_in, count_in}
use Rattle.split.specs.Split.{Split, imports, locals, local_of}
use Rattle.split.specs.Lists.{SplitInput, split_in, split_tests, list_words, list_number, list_out}
use Rattle.split.specs.declared.Wanted.{Wanted}
use Rattle.part_start_plan.specs.Start.{Inputs, scheme_in, import_ends}
use Rattle.run_theorem.specs.Run.{Run, end_of}
use Rattle.place_search.specs.Places.{place_in, words_in}

-- what holds of the import lists of part i
pub record ImportPlaces (S : Split) (i : ℕ) : Type 0 where
  -- "none, which in a rising list means that the cell isn't in it": an import list rises
  pub import_place : (j c : ℕ) → (place_in c (imports S i j) ≡ 0) ↔ (is_in c (imports S i j) ≡ false)
  -- the local number of an imported cell is its place in its import list, behind the owned cells and the import lists of the parts before
  pub import_local : (j c : ℕ) → is_in c (imports S i j) ≡ true → local_of (locals S i) c ≡ import_ends S i (locals S i) (j - 1) + place_in c (imports S i j)

-- the cells that the receiver of a message imports from its sender
abbrev pub imported_by : Inputs → Bytes → List ℕ
imported_by I x = imports (split_in I.split) (to_in x) (from_in x)

-- what holds of a message x of a run: it is as long as its count says and has a value for each of these cells; that of a cell stands at its place among them, and is
-- what the undivided field has there after as many rounds as the message names
pub record MessagePlaces (I : Inputs) (x : Bytes) : Type 0 where
  pub long : length x ≡ message_size (count_in x)
  pub count : count_in x ≡ length (imported_by I x)
  pub message_place : (c : ℕ) → is_in c (imported_by I x) ≡ true
      → four x (depth_start (place_in c (imported_by I x) - 1)) ≡ depth_in (scheme_in I) (undivided (scheme_in I) I.field (round_in x)) c

pub record ImportTheorem : Type 0 where
  -- for every mesh, part map, part and stencil that pass the tests 1 to 10
  pub lists : (D : SplitInput) (i : ℕ) → first_of (split_tests D (i ∷ [])) ≡ 0 → ImportPlaces (split_in D) i
  -- what an accepted list call wrote is searched as that list
  pub given_back : (D : SplitInput) (i : ℕ) (w : Wanted) (out : Bytes) → list_number D i w out ≡ 0
      → words_in (take (2 * length (list_words D i w)) (list_out D i w out)) ≡ list_words D i w
  -- for every message that a run has written
  pub messages : (I : Inputs) (r : Run I) (x : Bytes) → Memᴰ x (end_of r).sent → MessagePlaces I x

-- Test 13 as the table tells it: the reaches are too many just where there is no table. Assumes nothing.
use mathlib.Core.Path.{◌≡◌, refl, sym}
use Rattle.std.proofs.Common.{Option, None, Some, MatchOption, is_some}
use Rattle.std.specs.Prelude.{is_none}
use Rattle.vocabulary.proofs.ListLaws.{not_both}
use mathlib.Core.Bool.{true, false}
use mathlib.Core.List.{List}
use Prim.Native.Nat.{ℕ, ◌≤◌, ◌<◌}
use native.Mathlib.Omega.{arith}
use borrow.Author.Tests.{lt-ltb, le-ltb}
use Rattle.vocabulary.specs.Bytes.{Bytes}
use Rattle.layout.specs.Limits.{most_reached}
use Rattle.mesh.specs.Mesh.{cell_count}
use Rattle.mesh.specs.Walks.{bad13}
use Rattle.walk_reach_table.specs.Tables.{entry_count, Tabled}

pub entries_refused : (m st : Bytes) → most_reached < entry_count m st (cell_count m) → bad13 m st ≡ true
unfolding bad13 entry_count
entries_refused m st h = lt-ltb most_reached _ h

pub table_made : (m st before after : Bytes) (ends : List ℕ) (r : ℕ) → Tabled m st before after ends r → bad13 m st ≡ false
unfolding bad13 entry_count
table_made m st before after ends r t = le-ltb most_reached _ (let h : entry_count m st (cell_count m) ≤ most_reached = omega (arith, t.count, t.few) in unfold entry_count in h)

-- of what the code's functions answer: there is no table just where test 13 refuses
pub table_refused : (m st before after : Bytes) (ends : List ℕ) (result : Option ℕ) → MatchOption result (bad13 m st ≡ true) (Tabled m st before after ends)
    → is_none result ≡ bad13 m st
table_refused m st before after ends None h = sym h
table_refused m st before after ends (Some r) h = sym (table_made m st before after ends r h)

-- what a test for None tells
pub present : (o : Option ℕ) (P : Type 0) (Q : ℕ → Type 0) → is_some o ≡ true → MatchOption o P Q → (t : ℕ) × Q t
present None P Q e h = absurd (not_both false e refl)
present (Some t) P Q e h = (t, h)

pub absent : (o : Option ℕ) (P : Type 0) (Q : ℕ → Type 0) → is_some o ≡ false → MatchOption o P Q → P
absent None P Q e h = h
absent (Some t) P Q e h = absurd (not_both true refl e)

-- The words for what a call reads in a state that it has opened. No public contract rests on this page. Assumes nothing.
use Rattle.std.specs.Prelude.{ℕ, length}
use Rattle.part_state.specs.State.{Lists, lists_in}
use Rattle.part_calls.specs.declared.state.State.{State}

-- its lists, and the place of what calls change
abbrev pub lists_at : State → Lists
lists_at s = lists_in s.lists.now

abbrev pub changes_at : State → ℕ
changes_at s = length s.lists.now

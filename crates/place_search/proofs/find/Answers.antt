-- `place_search::find` meets its contract. The invariant: the first k numbers are below the one sought. Assumes nothing.
use Prim.Native.Nat.{◌≤◌}
use mathlib.Core.Path.{◌∙◌}
use native.Mathlib.Omega.{arith}
use Rattle.place_search.proofs.SearchLaws.{search_turn, search_told, search_read, search_ended, search_all}
use borrow.Author.Rules.{rules}
use Rattle.place_search.proofs.find.Goals as goal

pub returns-then-sought-y : goal.returns-then-sought-y
returns-then-sought-y c =
    let not_below : c.args.sought ≤ c.word_in-y.result = omega arith in
    (c.then_some.ensures ∙ search search_told, search search_read)

pub loop-k-preserved : goal.loop-k-preserved
loop-k-preserved c = (search rules, search rules, search search_turn)

pub returns : goal.returns
returns c = (search search_ended, search search_all)

-- `mesh_closure::inner::bad6` meets its contract. The invariant: every chain so far is closed, and every mark is below e. Assumes nothing.
use mathlib.Core.Path.{refl}
use mathlib.Core.Bool.{true}
use native.Mathlib.Omega.{arith}
use Rattle.vocabulary.proofs.ListLaws.{not_both}
use Rattle.mesh_closure.proofs.ClosureLaws.{elements_few, closed_fresh, closed_in, closed_start, unclosed_found, unclosed_turn, closed_end, closed_marks}
use borrow.Author.Rules.{rules}
use Rattle.mesh_closure.proofs.inner.bad6.Goals as goal

pub loop-e-init : goal.loop-e-init
loop-e-init c =
    let W = c.args.chains.written in (
      search rules,
      closed_in _ _ _ W c.requires.0 _ c.below_of-low.ensures.0 _ c.args.chains.mesh.sized.n_is,
      refl,
      elements_few _ _ _ W c.requires.0 _ c.args.chains.mesh.sized.n_is,
      refl,
      closed_fresh _ _ _ W c.requires.0 _ _ _ c.requires.1,
      closed_start _ _ _ W c.requires.0 _ c.below_of-low.ensures.0,
    )

pub unclosed-requires : goal.unclosed-requires
unclosed-requires c = (search rules, omega (arith, c.args.chains.mesh.sized.n_is), search rules, omega (arith, c.args.chains.mesh.sized.n_is, c.loop-e.invariant.5.long))

pub returns-then-unclosed : goal.returns-then-unclosed
returns-then-unclosed c = (
  unclosed_found _ _ _ c.args.chains.written c.requires.0 _ c.args.chains.mesh.sized.n_is _ c.loop-e.invariant.0 (search rules)
      _ _ c.loop-e.invariant.5 c.unclosed.ensures.0 _ c.unclosed.ensures.1 c.if-unclosed.true,
  λ q. absurd (not_both true refl q),
)

pub loop-e-preserved : goal.loop-e-preserved
loop-e-preserved c =
    let turned =
    unclosed_turn _ _ _ c.args.chains.written c.requires.0 _ c.args.chains.mesh.sized.n_is _ c.loop-e.invariant.0 (search rules)
    _ _ c.loop-e.invariant.5 c.unclosed.ensures.0 _ c.unclosed.ensures.1 c.loop-e.invariant.6 c.if-unclosed.false in
    (search rules, search rules, search rules, search rules, search rules, turned.0, turned.1)

pub returns : goal.returns
returns c = (
  closed_end _ _ _ c.args.chains.written c.requires.0 _ c.args.chains.mesh.sized.n_is _ c.loop-e.invariant.0 c.loop-e.invariant.6 (search rules) (search rules),
  λ q. closed_marks _ _ _ c.args.chains.written c.requires.0 _ c.args.chains.mesh.sized.n_is _ c.loop-e.invariant.0 _ c.loop-e.invariant.5 (search rules),
)

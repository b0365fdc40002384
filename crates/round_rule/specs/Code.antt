-- What the code computes in place of a definition: a mean by its two sums, and a least depth by depth. RuleLaws says that it is the same. No public contract
-- rests on this page. Assumes nothing.
use Rattle.std.specs.Prelude.{cond, ℕ, eqb, ℤ}
use Rattle.depths.specs.declared.Value.{Value}
use Rattle.depths.specs.declared.Value.TheVariants.{Depth, Gap}
use Rattle.round_rule.specs.Rules.{quotient, lesser}

-- a mean by its two sums, and one more depth in a least
abbrev pub divided_by : ℤ → ℕ → Value
divided_by sum w = cond (eqb w 0) Gap (Depth (quotient sum w))

unfoldable pub lesser_of : ℤ → Value → Value
lesser_of y (Depth z) = Depth (lesser y z)
lesser_of y Gap = Depth y

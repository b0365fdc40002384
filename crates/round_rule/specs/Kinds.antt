-- The kinds of a rule in the code, and the paper's number of each. Assumes nothing.
--
-- "The rule kind is 0 hold, 1 mean, 2 shoalest."
use Rattle.std.specs.Prelude.{ℕ, zero, suc, Result, Ok, Err}
use Rattle.layout.specs.declared.refusal.Refusal.{Refusal}
use Rattle.layout.specs.declared.refusal.Refusal.TheVariants.{Rule}
use Rattle.round_rule.specs.declared.Kind.{Kind}
use Rattle.round_rule.specs.declared.Kind.TheVariants.{Hold, Mean, Shoalest}

unfoldable pub kind_number : Kind → ℕ
kind_number Hold = 0
kind_number Mean = 1
kind_number Shoalest = 2

-- the kind of a number; every other number is an "Unknown rule" (11)
unfoldable pub rule_of : ℕ → Result Kind Refusal
rule_of zero = Ok Hold
rule_of (suc zero) = Ok Mean
rule_of (suc (suc zero)) = Ok Shoalest
rule_of (suc (suc (suc number))) = Err Rule

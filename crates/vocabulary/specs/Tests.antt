-- A call's refusals as a list of tests in the order in which they are tried: its number is that of the first test that holds, and 0
-- where none does. Assumes nothing.
use Rattle.std.specs.Prelude.{Bool, true, ◌&&◌, cond, List, [], ◌∷◌, ℕ}

pub record Test : Type 0 where
  pub number : ℕ
  pub holds : Bool

-- refuse with this number where the test holds
abbrev pub refuse : ℕ → Bool → Test
refuse n t = record { number = n; holds = t }

-- the number of the first test that holds, and 0 where none does
abbrev pub first_of : List Test → ℕ
first_of [] = 0
first_of (t ∷ ts) = cond t.holds t.number (first_of ts)

-- all of the tests hold
abbrev pub all_of : List Bool → Bool
all_of [] = true
all_of (t ∷ ts) = t && all_of ts

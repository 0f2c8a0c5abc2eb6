-- Floyd's combination algorithm (J. Bentley and R. Floyd, "A sample of brilliance", 1987), for a
-- sample of any size.
use Rattle.std.specs.Prelude.{◌≡◌, ℕ, suc, ◌-◌, Bool, false, if◌then◌else◌, ◌||◌, List, [], ◌∷◌, length, ◌==◌}

-- whether a number is in a sample
abbrev pub member : ℕ → List ℕ → Bool
member i [] = false
member i (s ∷ ss) = i == s || member i ss

-- one step: the number t, from 0 to j, joins the sample; where it is there already, j does
abbrev pub floyd_step : ℕ → ℕ → List ℕ → List ℕ
floyd_step j t s = if member t s then j ∷ s else t ∷ s

-- a step for each of the numbers ts, the first at j, the next at j + 1, and so on
abbrev pub floyd_steps : ℕ → List ℕ → List ℕ → List ℕ
floyd_steps j [] s = s
floyd_steps j (t ∷ ts) s = floyd_steps (suc j) ts (floyd_step j t s)

-- a sample of the numbers below n, one for each random number of ts; the last step is at n - 1
abbrev pub floyd : ℕ → List ℕ → List ℕ
floyd n ts = floyd_steps (n - length ts) ts []

-- the same numbers, in whatever order
abbrev pub SameSet : List ℕ → List ℕ → Type 0
SameSet xs ys = (i : ℕ) → member i xs ≡ member i ys

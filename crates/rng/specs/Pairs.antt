-- Remainder pairs, and the two places that one gives.
use Rattle.std.specs.Prelude.{◌≡◌, ℕ, ◌-◌, ◌*◌, ◌%◌, ◌<◌, Bool, true, if◌then◌else◌, ◌&&◌, ◌≢◌, List, [], ◌∷◌, ◌==◌}
use Rattle.lists.specs.Sums.{sum_below, count_below}

-- how many remainder pairs, x below n - 1 and y below n, pass the test
abbrev pub count_pairs : ℕ → (ℕ → ℕ → Bool) → ℕ
count_pairs n p = sum_below (n - 1) (λ x. count_below n (p x))

-- the first place of a remainder pair: x, or n - 1 where y is the same; the second place is y
abbrev pub first_place : ℕ → ℕ → ℕ → ℕ
first_place n x y = if x == y then n - 1 else x

-- both places of a remainder pair
abbrev pub places : ℕ → ℕ → ℕ → List ℕ
places n x y = first_place n x y ∷ y ∷ []

-- the two places below n by two words
abbrev pub places_of_words : ℕ → ℕ → ℕ → List ℕ
places_of_words n v w = places n (v % (n - 1)) (w % n)

-- two different places below n
pub record TwoBelow (n a b : ℕ) : Type 0 where
  pub first : a < n
  pub second : b < n
  pub differ : a ≢ b

-- whether the remainder pair x, y gives the place a and then b
abbrev pub gives : ℕ → ℕ → ℕ → ℕ → ℕ → Bool
gives n a b x y = first_place n x y == a && y == b

-- there are n (n - 1) remainder pairs, and each two different places below n, in their order, come
-- from exactly one of them
pub record OnePairEach (n : ℕ) : Type 0 where
  pub all : count_pairs n (λ x y. true) ≡ n * (n - 1)
  pub each : (a b : ℕ) → TwoBelow n a b → count_pairs n (gives n a b) ≡ 1

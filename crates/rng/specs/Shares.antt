-- How often a place wins, where of two sampled places the first wins unless it is heavier.
use Rattle.std.specs.Prelude.{◌≡◌, ℕ, ◌+◌, ◌*◌, ◌<◌, Bool, if◌then◌else◌, not, ◌&&◌, ◌||◌, IsTrue, ◌==◌, nat_eq}
use Rattle.lists.specs.Sums.{count_below}
use Rattle.rng.specs.Pairs.{count_pairs, first_place}

-- any two places below n can be compared by "not heavier than"; nothing else is asked of it, so
-- every total and transitive order will do
abbrev pub TotalBelow : ℕ → (ℕ → ℕ → Bool) → Type 0
TotalBelow n not_heavier =
    (i j : ℕ) → i < n → j < n → IsTrue (not_heavier i j || not_heavier j i)

module _ (not_heavier : ℕ → ℕ → Bool) where
  -- of the places a and b, drawn in this order, a wins if it is not heavier
  abbrev pub winner : ℕ → ℕ → ℕ
  winner a b = if not_heavier a b then a else b

  -- the place that a remainder pair makes win
  abbrev pub winner_of_pair : ℕ → ℕ → ℕ → ℕ
  winner_of_pair n x y = winner (first_place n x y) y

  -- how many others of the places below n are heavier than i
  abbrev pub heavier_count : ℕ → ℕ → ℕ
  heavier_count n i = count_below n (λ j. not (j == i) && not (not_heavier j i))

  -- how many others of the places below n weigh the same as i
  abbrev pub equal_count : ℕ → ℕ → ℕ
  equal_count n i =
      count_below n (λ j. not (j == i) && (not_heavier j i && not_heavier i j))

  -- the place i wins by exactly 2 H + E of the remainder pairs
  abbrev pub Share : ℕ → ℕ → Type 0
  Share n i =
      count_pairs n (λ x y. nat_eq (winner_of_pair n x y) i)
      ≡ 2 * heavier_count n i + equal_count n i

-- every place below n has its share, whatever the weights
abbrev pub FairShares : ℕ → Type 0
FairShares n =
    (not_heavier : ℕ → ℕ → Bool) → TotalBelow n not_heavier →
    (i : ℕ) → i < n → Share not_heavier n i

-- Lists as the cache and the docket use them.
use Rattle.std.specs.Prelude.{ℕ, zero, suc, List, [], ◌∷◌, Some, None, Option}

module _ {A : Type 0} where
  -- the last of x ∷ xs, and all but it
  abbrev pub last : A → List A → A
  last x [] = x
  last x (y ∷ ys) = last y ys

  abbrev pub front : A → List A → List A
  front x [] = []
  front x (y ∷ ys) = x ∷ front y ys

  -- the last item moves into the gap at the front
  abbrev pub refilled : List A → List A
  refilled [] = []
  refilled (x ∷ xs) = last x xs ∷ front x xs

  -- the item at a place leaves, and the last one moves into the gap
  abbrev pub swap_remove : List A → ℕ → List A
  swap_remove [] i = []
  swap_remove (x ∷ xs) zero = refilled xs
  swap_remove (x ∷ xs) (suc i) = x ∷ swap_remove xs i

  -- the last of a list
  abbrev pub last_of : List A → Option A
  last_of [] = None
  last_of (x ∷ []) = Some x
  last_of (x ∷ y ∷ ys) = last_of (y ∷ ys)

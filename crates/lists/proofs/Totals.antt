-- A number for each entry, summed over a list: what the list steps do to the sum.
use Rattle.std.proofs.Common.{◌≡◌, ℕ, zero, suc, ◌+◌, ◌≤◌, List, [], ◌∷◌, ◌++◌, take, drop, set, Some, refl, ap, arith, slice_get}
use Rattle.lists.specs.Lists.{last, front, refilled, swap_remove}

module _ {A : Type 0} (f : A → ℕ) where
  abbrev pub total : List A → ℕ
  total [] = 0
  total (x ∷ xs) = f x + total xs

  pub total_append : (xs ys : List A) → total (xs ++ ys) ≡ total xs + total ys
  total_append [] ys = omega arith
  total_append (x ∷ xs) ys = let h = total_append xs ys in omega arith

  total_front : (x : A) (xs : List A) → f (last x xs) + total (front x xs) ≡ f x + total xs
  total_front x [] = refl
  total_front x (y ∷ ys) = let h = total_front y ys in omega arith

  total_refilled : (xs : List A) → total (refilled xs) ≡ total xs
  total_refilled [] = refl
  total_refilled (x ∷ xs) = total_front x xs

  pub total_swap : (xs : List A) (i : ℕ) (x : A) → slice_get xs i ≡ Some x → total (swap_remove xs i) + f x ≡ total xs
  total_swap [] i x e = cc
  total_swap (y ∷ ys) zero x e = let q : y ≡ x = cc in let p : f y ≡ f x = ap f q in let h = total_refilled ys in omega arith
  total_swap (y ∷ ys) (suc i) x e = let h = total_swap ys i x e in omega arith

  pub total_swap_le : (xs : List A) (i : ℕ) → total (swap_remove xs i) ≤ total xs
  total_swap_le [] i = omega arith
  total_swap_le (y ∷ ys) zero = let h = total_refilled ys in omega arith
  total_swap_le (y ∷ ys) (suc i) = let h = total_swap_le ys i in omega arith

  pub total_set : (xs : List A) (i : ℕ) (x y : A) → slice_get xs i ≡ Some x → f y ≡ f x → total (set xs i y) ≡ total xs
  total_set [] i x y e q = refl
  total_set (z ∷ zs) zero x y e q = let p : z ≡ x = cc in let r : f z ≡ f x = ap f p in omega arith
  total_set (z ∷ zs) (suc i) x y e q = let h = total_set zs i x y e q in omega arith

  pub total_take_drop : (i : ℕ) (xs : List A) → total (take i xs) + total (drop i xs) ≡ total xs
  total_take_drop zero xs = omega arith
  total_take_drop (suc i) [] = refl
  total_take_drop (suc i) (x ∷ xs) = let h = total_take_drop i xs in omega arith

pub total_mono : {A : Type 0} (f g : A → ℕ) → ((x : A) → f x ≤ g x) → (xs : List A) → total f xs ≤ total g xs
total_mono f g h [] = omega arith
total_mono f g h (x ∷ xs) = let a = h x in let b = total_mono f g h xs in omega arith

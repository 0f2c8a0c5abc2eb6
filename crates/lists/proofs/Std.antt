-- The library's words by recursion on the list.
use Rattle.std.proofs.Common.{◌≡◌, ℕ, suc, ◌+◌, Bool, true, false, cond, List, [], ◌∷◌, position, count_by, Some, None, Option, sym, refl, ap, ◌∙◌, arith}
use Rattle.std.specs.List.{position_from}
use Rattle.std.proofs.lemmas.Iterator.Adapters.{position_from-zero}
use Rattle.std.proofs.lemmas.List.Recursion.{is_count_by}

-- the next place
abbrev pub one_more : Option ℕ → Option ℕ
one_more None = None
one_more (Some i) = Some (suc i)

module _ {A : Type 0} where
  -- `position`, by recursion
  abbrev pub place_of : (A → Bool) → List A → Option ℕ
  place_of p [] = None
  place_of p (x ∷ xs) = cond (p x) (Some 0) (one_more (place_of p xs))

  -- `count_by`, by recursion
  abbrev pub how_many : (A → Bool) → List A → ℕ
  how_many p [] = 0
  how_many p (x ∷ xs) = cond (p x) (suc (how_many p xs)) (how_many p xs)

  pub how_many_is : (p : A → Bool) (xs : List A) → count_by p xs ≡ how_many p xs
  how_many_is p xs = sym (is_count_by (how_many p) p refl (λ x ys. let e : suc (how_many p ys) ≡ 1 + how_many p ys = omega arith in ap (λ n. cond (p x) n (how_many p ys)) e) xs)

  pub count_by_cons : (p : A → Bool) (x : A) (xs : List A) → count_by p (x ∷ xs) ≡ cond (p x) (suc (count_by p xs)) (count_by p xs)
  count_by_cons p x xs = how_many_is p (x ∷ xs) ∙ ap (λ n. cond (p x) (suc n) n) (sym (how_many_is p xs))

-- a place, counted from k on
abbrev pub shifted : ℕ → Option ℕ → Option ℕ
shifted k None = None
shifted k (Some i) = Some (k + i)

module _ {A : Type 0} where
  module _ (p : A → Bool) where
    pub position_from_is : (k : ℕ) (xs : List A) → position_from p k xs ≡ shifted k (place_of p xs)
    position_from_is k [] = refl
    position_from_is k (x ∷ xs) = go (p x) (place_of p xs) (position_from_is (k + 1) xs)
      where
        go : (b : Bool) (o : Option ℕ) → position_from p (k + 1) xs ≡ shifted (k + 1) o → cond b (Some k) (position_from p (k + 1) xs) ≡ shifted k (cond b (Some 0) (one_more o))
        go true o h = let e : k ≡ k + 0 = omega arith in ap Some e
        go false None h = h
        go false (Some i) h = let e : k + 1 + i ≡ k + suc i = omega arith in h ∙ ap Some e

    unshifted : (o : Option ℕ) → shifted 0 o ≡ o
    unshifted None = refl
    unshifted (Some i) = let e : 0 + i ≡ i = omega arith in ap Some e

    -- a place, counted from the start
    pub place_from_start : (xs : List A) → place_of p xs ≡ position_from p 0 xs
    place_from_start xs = sym (position_from_is 0 xs ∙ unshifted (place_of p xs))

    pub position_is : (xs : List A) → position p xs ≡ place_of p xs
    position_is xs = position_from-zero p xs ∙ sym (place_from_start xs)

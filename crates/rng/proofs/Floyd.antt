-- The two places of a remainder pair are Floyd's sample of two.
use Rattle.std.proofs.Common.{◌≡◌, ℕ, suc, ◌-◌, ◌<◌, ◌≤◌, Bool, true, false, ◌||◌, eqb, ◌⊎◌, [], ◌∷◌, sym, refl, ap, ◌∙◌, inl, inr, arith}
use Rattle.std.proofs.lemmas.Bool.Decides.{eqb_tells}
use Rattle.std.proofs.lemmas.Bool.{eq-eqb, ne_eqb}
use Rattle.rng.specs.Pairs.{first_place, places, TwoBelow}
use Rattle.rng.specs.Floyd.{member, floyd, SameSet}

either_way : (p q : Bool) → p || (q || false) ≡ q || (p || false)
either_way true true = refl
either_way true false = refl
either_way false true = refl
either_way false false = refl

eqb_flip : (x y : ℕ) → eqb x y ≡ eqb y x
eqb_flip x y = go (eqb_tells x y)
  where
    go : ((eqb x y ≡ true) × (x ≡ y)) ⊎ ((eqb x y ≡ false) × (x ≡ y → ⊥)) → eqb x y ≡ eqb y x
    go (inl t) = t.0 ∙ sym (eq-eqb y x (sym t.1))
    go (inr t) = t.0 ∙ sym (ne_eqb y x (λ e. t.1 (sym e)))

pub floyd_two : (n x y : ℕ) → 2 ≤ n → SameSet (places n x y) (floyd n (x ∷ y ∷ []))
floyd_two n x y h i = go (eqb_tells x y)
  where
    last : suc (n - 2) ≡ n - 1
    last = omega arith

    go : ((eqb x y ≡ true) × (x ≡ y)) ⊎ ((eqb x y ≡ false) × (x ≡ y → ⊥)) → member i (places n x y) ≡ member i (floyd n (x ∷ y ∷ []))
    go (inl t) = let e : eqb y x ≡ true = eqb_flip y x ∙ t.0 in rw (t.0, e, last) (ap (λ (z : ℕ). eqb i (n - 1) || (eqb i z || false)) (sym t.1))
    go (inr t) = let e : eqb y x ≡ false = eqb_flip y x ∙ t.0 in rw (t.0, e) (either_way (eqb i x) (eqb i y))

-- they differ and lie below n
pub two_below : (n x y : ℕ) → x < n - 1 → y < n → TwoBelow n (first_place n x y) y
two_below n x y hx hy = go (eqb_tells x y)
  where
    go : ((eqb x y ≡ true) × (x ≡ y)) ⊎ ((eqb x y ≡ false) × (x ≡ y → ⊥)) → TwoBelow n (first_place n x y) y
    go (inl t) = rw t.0 (record { first = omega arith; second = hy; differ = λ e. omega arith })
    go (inr t) = rw t.0 (record { first = omega arith; second = hy; differ = t.1 })

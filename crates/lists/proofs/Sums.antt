-- Sums over the numbers below n.
use Rattle.std.proofs.Common.{◌≡◌, ℕ, zero, suc, ◌+◌, ◌*◌, ◌<◌, ◌≤◌, true, false, cond, eqb, ◌⊎◌, sym, refl, ap, ◌∙◌, ap₂, inl, inr, not-suc-le-zero, suc-mul, zero-add, zero-mul, arith}
use Rattle.std.proofs.lemmas.Bool.Decides.{eqb_tells}
use Rattle.std.proofs.lemmas.Bool.{ne_eqb}
use Rattle.lists.specs.Sums.{sum_below}

pub sum_ext : (n : ℕ) (f g : ℕ → ℕ) → ((i : ℕ) → i < n → f i ≡ g i) → sum_below n f ≡ sum_below n g
sum_ext zero f g e = refl
sum_ext (suc n) f g e = ap₂ (λ a b. a + b) (sum_ext n f g (λ i h. e i (omega arith))) (e n (omega arith))

pub sum_add : (n : ℕ) (f g : ℕ → ℕ) → sum_below n (λ i. f i + g i) ≡ sum_below n f + sum_below n g
sum_add zero f g = refl
sum_add (suc n) f g = let h = sum_add n f g in omega arith

pub sum_zero : (n : ℕ) → sum_below n (λ i. 0) ≡ 0
sum_zero zero = refl
sum_zero (suc n) = let h = sum_zero n in omega arith

pub sum_twice : (n : ℕ) (f : ℕ → ℕ) → sum_below n (λ i. 2 * f i) ≡ 2 * sum_below n f
sum_twice zero f = refl
sum_twice (suc n) f = let h = sum_twice n f in omega arith

-- only the place i counts
pub sum_past : (n i : ℕ) (f : ℕ → ℕ) → n ≤ i → sum_below n (λ j. cond (eqb j i) (f j) 0) ≡ 0
sum_past zero i f h = refl
sum_past (suc n) i f h =
    let e : eqb n i ≡ false = ne_eqb n i (omega arith) in
    let k : sum_below n (λ j. cond (eqb j i) (f j) 0) ≡ 0 = sum_past n i f (omega arith) in
    rw e (omega arith)

pub sum_at : (n i : ℕ) (f : ℕ → ℕ) → i < n → sum_below n (λ j. cond (eqb j i) (f j) 0) ≡ f i
sum_at zero i f h = absurd (not-suc-le-zero h)
sum_at (suc n) i f h = go (λ k. sum_at n i f k) (eqb_tells n i)
  where
    go : (i < n → sum_below n (λ j. cond (eqb j i) (f j) 0) ≡ f i) → ((eqb n i ≡ true) × (n ≡ i)) ⊎ ((eqb n i ≡ false) × (n ≡ i → ⊥)) → sum_below (suc n) (λ j. cond (eqb j i) (f j) 0) ≡ f i
    go ih (inl t) = let k = sum_past n i f (omega arith) in rw t.0 (rw k (zero-add (f n) ∙ ap f t.1))
    go ih (inr t) =
        let k : sum_below n (λ j. cond (eqb j i) (f j) 0) ≡ f i = ih (omega arith) in
        rw t.0 (omega arith)

pub sum_const : (n k : ℕ) → sum_below n (λ i. k) ≡ n * k
sum_const zero k = sym (zero-mul k)
sum_const (suc n) k = let h = sum_const n k in let e = suc-mul n k in omega arith

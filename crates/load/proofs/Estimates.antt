-- Estimates stay finite and not below zero, the numbers below the infinity's bits are read as they are, and a weight grows with its estimate.
use Rattle.std.proofs.Common.{◌≡◌, ℕ, suc, ◌+◌, ◌-◌, ◌*◌, ◌/◌, ◌%◌, ◌^◌, ◌<◌, ◌≤◌, Bool, true, false, cond, T, eqb, leb, ◌⊎◌, ℤ, pos, sym, refl, ap, ◌∙◌, subst, inl, inr, le_trans, le_of_eq, mul-le-mul_right, mul_assoc, mul_comm, mul-pos, mul-one, arith, lit<, lit≤}
use Rattle.std.proofs.lemmas.Float.{T_from_true}
use Rattle.std.proofs.lemmas.Bool.{cases_lt, lt-leb, le-leb, ne_eqb}
use lib.Ieee.{Float, nan, inf, fin, binary64, lt, le, fits, of_int, odd, of_fields, of_bits}
use lib.Ieee.Bits.{is_true}
use lib.Ieee.Fits.{mul-fits, add-fits}
use lib.Ieee.Positive.{num, den, den_pos}
use Rattle.rounding.specs.Floats.{zero, one, nearest, from_zero, is_share, ◌⊕◌, ◌⊖◌, ◌⊗◌}
use Rattle.rounding.proofs.Values.{le→cross, number_bits}
use Rattle.rounding.proofs.Shares.{zero_bits}
use Rattle.rounding.proofs.Operations.{share_cases, le_refl, le_chain, under, mul_mono, mul_share, add_is, rest_share, add_finite, minus_zero_share}
use Rattle.load.specs.Decays.{Decays}
use Rattle.load.specs.Costs.{cost}
use Rattle.load.specs.Estimates.{nanos, finite_or_zero, average, share_after, after_response}
use Rattle.load.specs.Readings.{finite_same}

-- ---- which bits are a finite number from 0 up: those below the upper infinity's

number : (d q k l : ℕ) → T (from_zero (odd d false q k l))
unfolding odd
number d ℕ.zero k l = tt
number d (suc q) k l = tt

finite_negative : (d q k l : ℕ) → finite_or_zero (odd d true q k l) ≡ zero
unfolding odd
finite_negative d ℕ.zero k l = refl
finite_negative d (suc q) k l = refl

finite_special : (b s : Bool) → finite_or_zero (cond b (inf s) nan) ≡ zero
finite_special true s = refl
finite_special false s = refl

fields_number : (x t : ℕ) → x < 2047 → T (from_zero (of_fields binary64 false x t))
unfolding of_fields
fields_number ℕ.zero t h = number 53 t 0 1074
fields_number (suc x) t h = subst (λ (b : Bool). T (from_zero (cond b (cond (eqb t 0) (inf false) nan) (odd 53 false (2 ^ 52 + t) x 1074)))) (sym (ne_eqb (suc x) 2047 (omega arith))) (number 53 (2 ^ 52 + t) x 1074)

fields_negative : (x t : ℕ) → finite_or_zero (of_fields binary64 true x t) ≡ zero
unfolding of_fields
fields_negative ℕ.zero t = finite_negative 53 t 0 1074
fields_negative (suc x) t = go (eqb (suc x) 2047)
  where
    go : (b : Bool) → finite_or_zero (cond b (cond (eqb t 0) (inf true) nan) (odd 53 true (2 ^ 52 + t) x 1074)) ≡ zero
    go true = finite_special (eqb t 0) true
    go false = finite_negative 53 (2 ^ 52 + t) x 1074

fields_special : (t : ℕ) → finite_or_zero (of_fields binary64 false 2047 t) ≡ zero
unfolding of_fields
fields_special t = finite_special (eqb t 0) false

read_is : (b : ℕ) (s : Bool) (x : ℕ) → leb (2 ^ 63) b ≡ s → b % 2 ^ 63 / 2 ^ 52 ≡ x → of_bits binary64 b ≡ of_fields binary64 s x (b % 2 ^ 52)
unfolding of_bits
read_is b s x p q = λ i. of_fields binary64 (p i) (q i) (b % 2 ^ 52)

pub finite_number : (b : ℕ) → b < 0x7ff0_0000_0000_0000 → of_bits binary64 b ≡ finite_or_zero (of_bits binary64 b)
finite_number b h =
    let r = read_is b false (b % 2 ^ 63 / 2 ^ 52) (lt-leb (2 ^ 63) b (omega arith)) refl in
    sym (finite_same (of_bits binary64 b) (is_true _ (subst (λ (x : Float). T (from_zero x)) (sym r) (fields_number (b % 2 ^ 63 / 2 ^ 52) (b % 2 ^ 52) (omega arith)))))

pub finite_other : (b : ℕ) → 0x7ff0_0000_0000_0000 ≤ b → finite_or_zero (of_bits binary64 b) ≡ zero
finite_other b h = go (cases_lt b (2 ^ 63))
  where
    go : (b < 2 ^ 63) ⊎ (2 ^ 63 ≤ b) → finite_or_zero (of_bits binary64 b) ≡ zero
    go (inl l) = ap finite_or_zero (read_is b false 2047 (lt-leb (2 ^ 63) b l) (omega arith)) ∙ fields_special (b % 2 ^ 52)
    go (inr l) = ap finite_or_zero (read_is b true (b % 2 ^ 63 / 2 ^ 52) (le-leb (2 ^ 63) b l) refl) ∙ fields_negative (b % 2 ^ 63 / 2 ^ 52) (b % 2 ^ 52)

-- what a number from bits is
pub ruleset from_bits_steps = (number_bits, zero_bits, finite_number, finite_other)

-- ---- nanoseconds

abbrev two_to : ℕ → Float
two_to k = fin false 1 (pos k)

nearest_under : (n : ℕ) → n ≤ 2 ^ 64 → T (le (nearest n) (two_to 64)) × T (from_zero (nearest n))
unfolding of_int fits
nearest_under n h = under n 1 (two_to 64) (lit< tt) tt tt (omega arith)

pub nearest_up : (n : ℕ) → n ≤ 2 ^ 64 → T (from_zero (nearest n))
nearest_up n h = (nearest_under n h).1

sum_under : (x y : Float) → T (from_zero x) → T (from_zero y) → T (le x (two_to 64)) → T (le y (two_to 64)) → T (le (x ⊕ y) (two_to 65)) × T (from_zero (x ⊕ y))
unfolding fits
sum_under x y p q h k =
    let a : num x * 1 ≤ 2 ^ 64 * den x = le→cross x (two_to 64) p tt h in
    let b : num y * 1 ≤ 2 ^ 64 * den y = le→cross y (two_to 64) q tt k in
    let c = den x * den y in
    let A : num x * den y ≤ 2 ^ 64 * c = le_trans (mul-le-mul_right (den y) (le_trans (le_of_eq (sym (mul-one (num x)))) a)) (le_of_eq (mul_assoc (2 ^ 64) (den x) (den y))) in
    let B : num y * den x ≤ 2 ^ 64 * c = le_trans (mul-le-mul_right (den x) (le_trans (le_of_eq (sym (mul-one (num y)))) b)) (le_of_eq (mul_assoc (2 ^ 64) (den y) (den x) ∙ ap (λ (z : ℕ). 2 ^ 64 * z) (mul_comm (den y) (den x)))) in
    subst (λ (z : Float). T (le z (two_to 65)) × T (from_zero z)) (sym (add_is x y p q))
    (under (num x * den y + num y * den x) c (two_to 65) (mul-pos (den_pos x) (den_pos y)) tt tt (omega arith))

nanos_under : (d : ℕ) → d < 2 ^ 64 → T (le (nanos d) (two_to 65)) × T (from_zero (nanos d))
nanos_under d h =
    let p = nearest_under (d % 10 ^ 9) (omega arith) in
    let q = nearest_under (d - d % 10 ^ 9) (omega arith) in
    sum_under (nearest (d % 10 ^ 9)) (nearest (d - d % 10 ^ 9)) p.1 q.1 p.0 q.0

-- ---- responses

average_up : (x r f : Float) → T (from_zero x) → T (fits binary64 x) → T (from_zero r) → T (fits binary64 r) → T (le r (two_to 65)) → T (is_share f) → T (from_zero (average x r f)) × T (fits binary64 (average x r f))
average_up x r f p q p' q' h s = go (lt x r)
  where
    go : (b : Bool) → T (from_zero (cond b r (x ⊗ f ⊕ r ⊗ (one ⊖ f)))) × T (fits binary64 (cond b r (x ⊗ f ⊕ r ⊗ (one ⊖ f))))
    go true = (p', q')
    go false = average_of (share_cases f s)
      where
        average_of : T (from_zero f) ⊎ ((e : ℤ) × (f ≡ fin true 0 e)) → T (from_zero (x ⊗ f ⊕ r ⊗ (one ⊖ f))) × T (fits binary64 (x ⊗ f ⊕ r ⊗ (one ⊖ f)))
        average_of (inl t) =
            let a = mul_share x f p q t s in
            let w = rest_share f t s in
            let b = mul_share r (one ⊖ f) p' q' w.0 w.1 in
            let c : num (r ⊗ (one ⊖ f)) * 1 ≤ 2 ^ 65 * den (r ⊗ (one ⊖ f)) = le→cross (r ⊗ (one ⊖ f)) (two_to 65) b.1 tt (le_chain (r ⊗ (one ⊖ f)) r (two_to 65) b.1 p' tt b.0 h) in (
              add_finite (x ⊗ f) (r ⊗ (one ⊖ f)) a.1 (mul-fits binary64 x f) b.1
                  (le_trans (le_of_eq (sym (mul-one (num (r ⊗ (one ⊖ f)))))) (le_trans c (mul-le-mul_right (den (r ⊗ (one ⊖ f))) (lit≤ tt)))),
              add-fits binary64 (x ⊗ f) (r ⊗ (one ⊖ f)),
            )
        average_of (inr k) =
            subst (λ (y : Float). T (from_zero y) × T (fits binary64 y))
            (sym (ap (λ (g : Float). x ⊗ g ⊕ r ⊗ (one ⊖ g)) k.1 ∙ minus_zero_share x r k.0 p p' q')) (p', q')

module _ {D : Type 0} (decays : Decays D) (decay : D) (period : ℕ) where
  -- a response leaves the estimate finite and from 0 up
  pub response_up : (x : Float) (since sent at : ℕ) → T (from_zero x) → T (fits binary64 x) → at < 2 ^ 64 → T (from_zero (after_response decays decay period x since sent at)) × T (fits binary64 (after_response decays decay period x since sent at))
  response_up x since sent at p q h =
      let r = nanos_under (at - sent) (omega arith) in
      average_up x (nanos (at - sent)) (share_after decays decay period (at - since)) p q r.1 (add-fits binary64 (nearest ((at - sent) % 10 ^ 9)) (nearest (at - sent - (at - sent) % 10 ^ 9))) r.0 (T_from_true _ (decays.share_within decay _))

-- ---- the weight grows with the estimate

pub cost_mono : (x y : Float) (count : ℕ) → count < 2 ^ 32 → T (from_zero x) → T (from_zero y) → T (le x y) → T (le (cost x count).nanos (cost y count).nanos)
cost_mono x y count h p q l =
    let n = nearest_up (count + 1) (omega arith) in
    mul_mono x y (nearest (count + 1)) (nearest (count + 1)) p q n n l (le_refl (nearest (count + 1)) n)

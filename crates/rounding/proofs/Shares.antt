-- `halving` and `squaring` keep all where x is not below zero, and a share elsewhere.
use Rattle.std.proofs.Common.{◌≡◌, ℕ, suc, ◌+◌, ◌-◌, ◌*◌, ◌/◌, ◌%◌, ◌^◌, ◌<◌, ◌≤◌, min, Bool, true, false, cond, if◌then◌else◌, IsTrue, ◌||◌, T, ltb, leb, ◌⊎◌, ℤ, pos, neg_ℤ, sym, refl, ap, ◌∙◌, subst, inl, inr, true≢false, le_trans, le_of_eq, lt_of_lt_of_le, mul-le-mul_left, mul-pos, one-mul, mul-one, arith, lit<, le→leb, lt→ltb, pow_pos, pow_mono, pow-add}
use native.Mathlib.Nat.{zero-div}
use lib.Pow.{pow-lt}
use lib.Ieee.{Float, nan, inf, fin, binary64, up, down, lt, le, neg, mul, div, odd, fits, of_bits, of_fields, to_unsigned}
use lib.Ieee.Fits.{down_pos, and_i}
use lib.Ieee.Bits.{of_bits-fits}
use lib.Ieee.Exact.{HasValue, odd_sign}
use Rattle.std.proofs.lemmas.Bool.{cases_lt, lt-ltb, le-ltb, ltb-true, ltb-false, ne_eqb, lt-leb}
use Rattle.rounding.specs.Floats.{zero, one, from_zero, is_share, ◌⊕◌, ◌⊗◌, ◌⊘◌}
use Rattle.rounding.specs.Shares.{half_power, halving, kilo, nth_square, squaring}
use Rattle.rounding.proofs.Values.{one_number}
use Rattle.rounding.proofs.Operations.{share_times, one_and_less}

-- ---- halving

half_share : (k : ℕ) → T (is_share (fin false 1 (neg_ℤ (pos k))))
half_share ℕ.zero = tt
half_share (suc k) = le→leb 1 (2 ^ suc k) (pow_pos (suc k))

cond_share : (b : Bool) (x y : Float) → T (is_share x) → T (is_share y) → T (is_share (cond b x y))
cond_share true x y p q = p
cond_share false x y p q = q

-- the same of tests that are true
pub either_share : (b : Bool) (x y : Float) → IsTrue (is_share x) → IsTrue (is_share y) → IsTrue (is_share (if b then x else y))
either_share true x y p q = p
either_share false x y p q = q

half_power_share : (k : ℕ) → T (is_share (half_power k))
half_power_share k = cond_share (ltb k 1075) (fin false 1 (neg_ℤ (pos k))) zero (half_share k) tt

pub halving_share : (x : Float) → T (is_share (halving x))
halving_share nan = tt
halving_share (inf false) = tt
halving_share (inf true) = tt
halving_share (fin false m e) = tt
halving_share (fin true m e) = half_power_share (m * up e / down e)

-- what is not below zero and has the sign is a zero
no_size : (m : ℕ) (e : ℤ) → lt (fin true m e) zero ≡ false → m * up e ≡ 0
unfolding lt
no_size m e h = let l : m * up e * 1 + 0 * down e ≤ 0 = ltb-false 0 (m * up e * 1 + 0 * down e) h in omega arith

pub halving_whole : (x : Float) → lt x zero ≡ false → halving x ≡ one
unfolding lt
halving_whole nan h = refl
halving_whole (inf false) h = refl
halving_whole (inf true) h = absurd (true≢false h)
halving_whole (fin false m e) h = refl
halving_whole (fin true m e) h = ap half_power (ap (λ (a : ℕ). a / down e) (no_size m e h) ∙ zero-div (down e))

-- the whole part, cut to 64 bits, gives the same
cut : (k : ℕ) → half_power (min k (2 ^ 64 - 1)) ≡ half_power k
cut k = go (cases_lt k 1075)
  where
    go : (k < 1075) ⊎ (1075 ≤ k) → half_power (min k (2 ^ 64 - 1)) ≡ half_power k
    go (inl l) = let e : min k (2 ^ 64 - 1) ≡ k = omega arith in ap half_power e
    go (inr l) =
        let a : 1075 ≤ min k (2 ^ 64 - 1) = omega arith in
        ap (λ (b : Bool). cond b (fin false 1 (neg_ℤ (pos (min k (2 ^ 64 - 1))))) zero) (le-ltb (min k (2 ^ 64 - 1)) 1075 a)
        ∙ sym (ap (λ (b : Bool). cond b (fin false 1 (neg_ℤ (pos k))) zero) (le-ltb k 1075 l))

pub halving_below : (x : Float) → lt x zero ≡ true → half_power (to_unsigned 64 (neg x)) ≡ halving x
unfolding lt neg to_unsigned
halving_below nan h = absurd (true≢false (sym h))
halving_below (inf false) h = absurd (true≢false (sym h))
halving_below (inf true) h = refl
halving_below (fin false m e) h = refl
halving_below (fin true m e) h = cut (m * up e / down e)

-- ---- the bits of 2 ^ -k

half_value : (k : ℕ) → k ≤ 1074 → HasValue (fin false 1 (neg_ℤ (pos k))) false (2 ^ (1074 - k)) (2 ^ 1074)
half_value ℕ.zero h = (refl, refl)
half_value (suc k) h =
    let e : 1074 - suc k + suc k ≡ 1074 = omega arith in
    (refl, one-mul (2 ^ 1074) ∙ ap (λ (j : ℕ). 2 ^ j) (sym e) ∙ pow-add 2 (1074 - suc k) (suc k))

half_fits : (k : ℕ) → k ≤ 1074 → T (fits binary64 (fin false 1 (neg_ℤ (pos k))))
unfolding fits
half_fits ℕ.zero h = tt
half_fits (suc k) h =
    and_i (leb (2 ^ suc k) (2 ^ 1074)) (ltb 1 (2 ^ 1024 * 2 ^ suc k)) (le→leb (2 ^ suc k) (2 ^ 1074) (pow_mono h))
    (lt→ltb 1 (2 ^ 1024 * 2 ^ suc k) (lt_of_lt_of_le (lit< tt) (le_trans (le_of_eq (sym (mul-one (2 ^ 1024)))) (mul-le-mul_left (2 ^ 1024) (pow_pos (suc k))))))

-- what is read from fields
fields_low : (t : ℕ) → HasValue (of_fields binary64 false 0 t) false t (2 ^ 1074)
unfolding of_fields
fields_low t = subst (λ (a : ℕ). HasValue (odd 53 false t 0 1074) false a (2 ^ 1074)) (mul-one t) (odd_sign 53 false t 0 1074)

fields_high : (x : ℕ) → suc x < 2047 → HasValue (of_fields binary64 false (suc x) 0) false (2 ^ 52 * 2 ^ x) (2 ^ 1074)
unfolding of_fields
fields_high x h =
    subst (λ (b : Bool). HasValue (cond b (inf false) (odd 53 false (2 ^ 52) x 1074)) false (2 ^ 52 * 2 ^ x) (2 ^ 1074)) (sym (ne_eqb (suc x) 2047 (omega arith))) (odd_sign 53 false (2 ^ 52) x 1074)

read : (b x t : ℕ) → b < 2 ^ 63 → b / 2 ^ 52 ≡ x → b % 2 ^ 52 ≡ t → of_bits binary64 b ≡ of_fields binary64 false x t
unfolding of_bits
read b x t h p q =
    let m : b % 2 ^ 63 ≡ b = omega arith in
    λ i. of_fields binary64 (lt-leb (2 ^ 63) b h i) ((ap (λ (y : ℕ). y / 2 ^ 52) m ∙ p) i) (q i)

half_is : (k b a : ℕ) → k ≤ 1074 → HasValue (of_bits binary64 b) false a (2 ^ 1074) → a ≡ 2 ^ (1074 - k) → of_bits binary64 b ≡ half_power k
half_is k b a h v e =
    one_number binary64 (of_bits binary64 b) (fin false 1 (neg_ℤ (pos k))) false (2 ^ (1074 - k)) (2 ^ 1074) (pow_pos 1074) (of_bits-fits binary64 b) (half_fits k h)
    (subst (λ (c : ℕ). HasValue (of_bits binary64 b) false c (2 ^ 1074)) e v) (half_value k h)
    ∙ sym (ap (λ (c : Bool). cond c (fin false 1 (neg_ℤ (pos k))) zero) (lt-ltb k 1075 (omega arith)))

pub half_normal : (k : ℕ) → k < 1023 → of_bits binary64 ((1023 - k) * 2 ^ 52) ≡ half_power k
half_normal k h =
    let b = (1023 - k) * 2 ^ 52 in
    let r = read b (suc (1022 - k)) 0 (omega arith) (omega arith) (omega arith) in
    let e : 52 + (1022 - k) ≡ 1074 - k = omega arith in
    half_is k b (2 ^ 52 * 2 ^ (1022 - k)) (omega arith)
    (subst (λ (x : Float). HasValue x false (2 ^ 52 * 2 ^ (1022 - k)) (2 ^ 1074)) (sym r) (fields_high (1022 - k) (omega arith)))
    (sym (pow-add 2 52 (1022 - k)) ∙ ap (λ (j : ℕ). 2 ^ j) e)

pub half_small : (k : ℕ) → 1023 ≤ k → k < 1075 → of_bits binary64 (2 ^ (1074 - k)) ≡ half_power k
half_small k l h =
    let b = 2 ^ (1074 - k) in
    let j : 1074 - k < 52 = omega arith in
    let B : b < 2 ^ 52 = pow-lt j in
    let r = read b 0 b (omega arith) (omega arith) (omega arith) in
    half_is k b b (omega arith) (subst (λ (x : Float). HasValue x false b (2 ^ 1074)) (sym r) (fields_low b)) refl

-- ---- squaring

square_share : (n : ℕ) (x : Float) → T (from_zero x) → T (is_share x) → T (is_share (nth_square n x))
unfolding nth_square
square_share ℕ.zero x q p = p
square_share (suc n) x q p = let t = share_times x x q q p p in square_share n (x ⊗ x) t.0 t.1

-- one square more
square_more : (n : ℕ) (x : Float) → nth_square (suc n) x ≡ nth_square n (x ⊗ x)
unfolding nth_square
square_more n x = refl

square_none : (x : Float) → nth_square 0 x ≡ x
unfolding nth_square
square_none x = refl

-- of n squares, one more after i of them
pub square_step : (n i : ℕ) (x : Float) → i < n → nth_square (n - i) x ≡ nth_square (n - (i + 1)) (x ⊗ x)
square_step n i x h = let e : n - i ≡ suc (n - (i + 1)) = omega arith in ap (λ (k : ℕ). nth_square k x) e ∙ square_more (n - (i + 1)) x

-- and none after all
pub square_done : (n i : ℕ) (x : Float) → n ≤ i → nth_square (n - i) x ≡ x
square_done n i x h = let e : n - i ≡ 0 = omega arith in ap (λ (k : ℕ). nth_square k x) e ∙ square_none x

one_squared : one ⊗ one ≡ one
unfolding mul
one_squared = refl

none_squared : zero ⊗ zero ≡ zero
unfolding mul
none_squared = refl

pub square_fixed : (n : ℕ) (x : Float) → x ⊗ x ≡ x → nth_square n x ≡ x
unfolding nth_square
square_fixed ℕ.zero x e = refl
square_fixed (suc n) x e = ap (nth_square n) e ∙ square_fixed n x e

pub square_one : nth_square 10 one ≡ one
square_one = square_fixed 10 one one_squared

pub square_zero : nth_square 10 zero ≡ zero
square_zero = square_fixed 10 zero none_squared

pub squaring_whole : (x : Float) → lt x zero ≡ false → squaring x ≡ one
squaring_whole x h = ap (λ (b : Bool). cond b (cond (le x (fin true 1 (pos 10))) zero (nth_square 10 (one ⊕ x ⊘ kilo))) one) h

first_false : (a b : Bool) → (a || b) ≡ false → a ≡ false
first_false true b h = absurd (true≢false h)
first_false false b h = refl

start_share : (x : Float) → lt x zero ≡ true → le x (fin true 1 (pos 10)) ≡ false → T (from_zero (one ⊕ x ⊘ kilo)) × T (is_share (one ⊕ x ⊘ kilo))
unfolding lt le div
start_share nan h k = absurd (true≢false (sym h))
start_share (inf false) h k = absurd (true≢false (sym h))
start_share (inf true) h k = absurd (true≢false k)
start_share (fin false m e) h k = let l : m * up e * 1 < 0 * down e = ltb-true (m * up e * 1) (0 * down e) h in absurd (omega arith)
start_share (fin true m e) h k = one_and_less (m * up e * 1) (1024 * down e) (mul-pos (lit< tt) (down_pos e)) (ltb-false (1024 * down e) (m * up e * 1) (first_false _ _ k))

pub squaring_none : (x : Float) → lt x zero ≡ true → le x (fin true 1 (pos 10)) ≡ true → squaring x ≡ zero
squaring_none x h k = λ i. cond (h i) (cond (k i) zero (nth_square 10 (one ⊕ x ⊘ kilo))) one

pub squaring_between : (x : Float) → lt x zero ≡ true → le x (fin true 1 (pos 10)) ≡ false → squaring x ≡ nth_square 10 (one ⊕ x ⊘ kilo)
squaring_between x h k = λ i. cond (h i) (cond (k i) zero (nth_square 10 (one ⊕ x ⊘ kilo))) one

pub squaring_share : (x : Float) → T (is_share (squaring x))
squaring_share x = go (lt x zero) (le x (fin true 1 (pos 10))) refl refl
  where
    go : (a b : Bool) → lt x zero ≡ a → le x (fin true 1 (pos 10)) ≡ b → T (is_share (cond a (cond b zero (nth_square 10 (one ⊕ x ⊘ kilo))) one))
    go false b p q = tt
    go true true p q = tt
    go true false p q = let s = start_share x p q in square_share 10 (one ⊕ x ⊘ kilo) s.0 s.1

-- ---- the numbers that code writes, by their bits

pub zero_bits : of_bits binary64 0 ≡ zero
unfolding of_bits
zero_bits = refl

pub less_zero_bits : neg (of_bits binary64 0) ≡ fin true 0 (pos 0)
unfolding of_bits neg
less_zero_bits = refl

pub one_bits : of_bits binary64 0x3ff0_0000_0000_0000 ≡ one
unfolding of_bits
one_bits = refl

pub kilo_bits : of_bits binary64 0x4090_0000_0000_0000 ≡ kilo
unfolding of_bits
kilo_bits = refl

pub less_kilo_bits : neg (of_bits binary64 0x4090_0000_0000_0000) ≡ fin true 1 (pos 10)
unfolding of_bits neg
less_kilo_bits = refl

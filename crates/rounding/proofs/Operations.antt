-- The rounded operations on numbers from 0 up.
use Rattle.std.proofs.Common.{◌≡◌, ℕ, suc, ◌+◌, ◌-◌, ◌*◌, ◌^◌, ◌<◌, ◌≤◌, Bool, true, false, cond, T, eqb, ltb, ◌⊎◌, ℤ, pos, negsuc, sym, refl, ap, ◌∙◌, subst, inl, inr, le_trans, le_of_eq, le_of_lt, add-le-add, mul-le-mul_right, mul_assoc, mul_comm, add-mul, mul-le-mul, lt_of_mul-lt-mul_right, mul-le-mul_left, mul-pos, zero-lt-suc, one-mul, zero-mul, mul-zero, mul-one, mul_right_comm, arith, lit<, lit≤, eqb→eq, le→leb, leb→le, pow_pos, pow_mono, pow-add}
use native.Mathlib.Nat.{mul-mul-mul_comm}
use lib.Dec.{eqb-suc-zero}
use lib.Ieee.{Float, nan, inf, fin, binary64, up, down, odd, units, round, sum, neg, add, sub, mul, div, le, lt, fits}
use lib.Ieee.Fits.{up_pos, down_pos, round_is}
use lib.Ieee.Order.{round_mono}
use lib.Ieee.Scale.{round_same}
use lib.Ieee.Positive.{num, den, den_pos, through}
use Rattle.std.proofs.lemmas.Bool.{cases_lt, le-ltb, lt-ltb}
use Rattle.rounding.specs.Floats.{from_zero, is_share, zero, one, ◌⊕◌, ◌⊖◌, ◌⊗◌, ◌⊘◌}
use Rattle.rounding.proofs.Values.{Fitting, fitting, round_own, cross→le, le→cross, bounded_round}

-- ---- shares

pub share_cross : (x : Float) → T (is_share x) → num x ≤ den x
share_cross nan p = absurd p
share_cross (inf s) p = absurd p
share_cross (fin true m e) p = le_trans (le_of_eq (ap (λ (k : ℕ). k * up e) (eqb→eq m 0 p) ∙ zero-mul (up e))) (le_of_lt (down_pos e))
share_cross (fin false m e) p = leb→le (m * up e) (down e) p

-- a share is a number from 0 up, or a negative zero
pub share_cases : (x : Float) → T (is_share x) → T (from_zero x) ⊎ ((e : ℤ) × (x ≡ fin true 0 e))
share_cases nan p = absurd p
share_cases (inf s) p = absurd p
share_cases (fin true m e) p = inr (e, ap (λ (k : ℕ). fin true k e) (eqb→eq m 0 p))
share_cases (fin false m e) p = inl tt

pub share_of : (x : Float) → T (from_zero x) → T (le x one) → T (is_share x)
share_of x p h = go x p (le→cross x one p tt h)
  where
    go : (y : Float) → T (from_zero y) → num y * 1 ≤ 1 * den y → T (is_share y)
    go nan q l = q
    go (inf s) q l = q
    go (fin true m e) q l = absurd q
    go (fin false m e) q l = le→leb (m * up e) (down e) (omega arith)

-- ---- the order

pub le_refl : (x : Float) → T (from_zero x) → T (le x x)
le_refl x p = cross→le x x p p (le_of_eq refl)

pub le_chain : (x y z : Float) → T (from_zero x) → T (from_zero y) → T (from_zero z) → T (le x y) → T (le y z) → T (le x z)
le_chain x y z p q r h k = cross→le x z p r (through (num x) (num y) (num z) (den x) (den y) (den z) (den_pos y) (le→cross x y p q h) (le→cross y z q r k))

pub not_below_zero : (x : Float) → T (from_zero x) → lt x zero ≡ false
unfolding lt
not_below_zero nan p = absurd p
not_below_zero (inf s) p = absurd p
not_below_zero (fin true m e) p = absurd p
not_below_zero (fin false m e) p = le-ltb (m * up e * 1) (0 * down e) (omega (arith, zero-mul (down e)))

pub zero_le : (x : Float) → T (from_zero x) → T (le zero x)
zero_le x p = let e : 0 * den x ≡ 0 = zero-mul (den x) in cross→le zero x tt p (omega arith)

-- ---- rounding to 64 bits

pub round_none : (s : Bool) (c : ℕ) → 0 < c → round binary64 s 0 c ≡ fin s 0 (pos 0)
unfolding round
round_none true c C = round_same binary64 true 0 c 0 1 C (lit< tt) (zero-mul 1 ∙ sym (zero-mul c)) ∙ refl
round_none false c C = round_same binary64 false 0 c 0 1 C (lit< tt) (zero-mul 1 ∙ sym (zero-mul c)) ∙ refl

-- a fraction up to a number that fits rounds to a number up to it
pub under : (a c : ℕ) (x : Float) → 0 < c → T (from_zero x) → T (fits binary64 x) → a * den x ≤ num x * c → T (le (round binary64 false a c) x) × T (from_zero (round binary64 false a c))
under a c nan C p q h = absurd p
under a c (inf s) C p q h = absurd p
under a c (fin true m e) C p q h = absurd p
under a c (fin false m e) C p q h =
    let l : T (le (round binary64 false a c) (fin false m e)) =
    subst (λ (y : Float). T (le (round binary64 false a c) y)) (round_own binary64 false m e q) (round_mono binary64 a c (m * up e) (down e) C (down_pos e) h) in
    (l, bounded_round binary64 a c (fin false m e) tt l)

-- ---- products

pub mul_is : (x y : Float) → T (from_zero x) → T (from_zero y) → x ⊗ y ≡ round binary64 false (num x * num y) (den x * den y)
unfolding mul
mul_is nan y p q = absurd p
mul_is (inf s) y p q = absurd p
mul_is (fin true m e) y p q = absurd p
mul_is (fin false m e) nan p q = absurd q
mul_is (fin false m e) (inf t) p q = absurd q
mul_is (fin false m e) (fin true n d) p q = absurd q
mul_is (fin false m e) (fin false n d) p q = refl

-- a product grows with each factor
pub mul_mono : (x x' y y' : Float) → T (from_zero x) → T (from_zero x') → T (from_zero y) → T (from_zero y') → T (le x x') → T (le y y') → T (le (x ⊗ y) (x' ⊗ y'))
mul_mono x x' y y' p p' q q' h k =
    subst (λ (z : Float). T (le z (x' ⊗ y'))) (sym (mul_is x y p q))
    (subst (λ (z : Float). T (le (round binary64 false (num x * num y) (den x * den y)) z)) (sym (mul_is x' y' p' q'))
    (round_mono binary64 (num x * num y) (den x * den y) (num x' * num y') (den x' * den y') (mul-pos (den_pos x) (den_pos y)) (mul-pos (den_pos x') (den_pos y'))
    (le_trans (le_of_eq (mul-mul-mul_comm (num x) (num y) (den x') (den y')))
    (le_trans (mul-le-mul (le→cross x x' p p' h) (le→cross y y' q q' k)) (le_of_eq (mul-mul-mul_comm (num x') (den x) (num y') (den y)))))))

-- a share of a number is a number from 0 up, and at most the number
pub mul_share : (x s : Float) → T (from_zero x) → T (fits binary64 x) → T (from_zero s) → T (is_share s) → T (le (x ⊗ s) x) × T (from_zero (x ⊗ s))
mul_share x s p q r h =
    subst (λ (z : Float). T (le z x) × T (from_zero z)) (sym (mul_is x s p r))
    (under (num x * num s) (den x * den s) x (mul-pos (den_pos x) (den_pos s)) p q
    (le_trans (le_of_eq (mul_right_comm (num x) (num s) (den x)))
    (le_trans (mul-le-mul_left (num x * den x) (share_cross s h)) (le_of_eq (mul_assoc (num x) (den x) (den s))))))

pub mul_by_one : (x : Float) → T (from_zero x) → T (fits binary64 x) → x ⊗ one ≡ x
mul_by_one nan p q = absurd p
mul_by_one (inf s) p q = absurd p
mul_by_one (fin true m e) p q = absurd p
mul_by_one (fin false m e) p q =
    mul_is (fin false m e) one tt tt ∙ ap (λ (a : ℕ). round binary64 false a (down e * 1)) (mul-one (m * up e)) ∙ ap (round binary64 false (m * up e)) (mul-one (down e)) ∙ round_own binary64 false m e q

pub zero_times : (x : Float) → T (from_zero x) → zero ⊗ x ≡ zero
zero_times x p =
    mul_is zero x tt p ∙ ap (λ (a : ℕ). round binary64 false a (1 * den x)) (zero-mul (num x)) ∙ round_none false (1 * den x) (mul-pos (le_of_eq refl) (den_pos x))

-- ---- sums

pub add_is : (x y : Float) → T (from_zero x) → T (from_zero y) → x ⊕ y ≡ round binary64 false (num x * den y + num y * den x) (den x * den y)
unfolding add sum
add_is nan y p q = absurd p
add_is (inf s) y p q = absurd p
add_is (fin true m e) y p q = absurd p
add_is (fin false m e) nan p q = absurd q
add_is (fin false m e) (inf t) p q = absurd q
add_is (fin false m e) (fin true n d) p q = absurd q
add_is (fin false m e) (fin false n d) p q = refl

pub add_none : (x : Float) → T (from_zero x) → T (fits binary64 x) → x ⊕ zero ≡ x
add_none nan p q = absurd p
add_none (inf s) p q = absurd p
add_none (fin true m e) p q = absurd p
add_none (fin false m e) p q =
    let a : m * up e * 1 + 0 * down e ≡ m * up e = omega (arith, zero-mul (down e)) in
    add_is (fin false m e) zero tt tt ∙ ap (λ (k : ℕ). round binary64 false k (down e * 1)) a ∙ ap (round binary64 false (m * up e)) (mul-one (down e)) ∙ round_own binary64 false m e q

-- ---- what a share leaves of 1

rest_is : (x : Float) → T (from_zero x) → T (is_share x) → one ⊖ x ≡ round binary64 false (den x - num x) (den x)
unfolding sub add neg sum
rest_is nan q p = absurd p
rest_is (inf s) q p = absurd p
rest_is (fin true m e) q p = absurd q
rest_is (fin false m e) q p =
    rw (le-ltb (1 * down e) (m * up e * 1) (omega (arith, leb→le (m * up e) (down e) p)), one-mul (down e), mul-one (m * up e))

pub rest_share : (x : Float) → T (from_zero x) → T (is_share x) → T (from_zero (one ⊖ x)) × T (is_share (one ⊖ x))
unfolding fits
rest_share x q p =
    let u = under (den x - num x) (den x) one (den_pos x) tt tt (omega arith) in
    subst (λ (z : Float). T (from_zero z) × T (is_share z)) (sym (rest_is x q p)) (u.1, share_of (round binary64 false (den x - num x) (den x)) u.1 u.0)

pub share_times : (x y : Float) → T (from_zero x) → T (from_zero y) → T (is_share x) → T (is_share y) → T (from_zero (x ⊗ y)) × T (is_share (x ⊗ y))
unfolding fits
share_times x y h k p q =
    let u = under (num x * num y) (den x * den y) one (mul-pos (den_pos x) (den_pos y)) tt tt (le_trans (le_of_eq (mul-one (num x * num y))) (le_trans (mul-le-mul (share_cross x p) (share_cross y q)) (le_of_eq (sym (one-mul (den x * den y)))))) in
    subst (λ (z : Float). T (from_zero z) × T (is_share z)) (sym (mul_is x y h k)) (u.1, share_of (round binary64 false (num x * num y) (den x * den y)) u.1 u.0)

neg_odd : (d q k l : ℕ) → neg (odd d false q k l) ≡ odd d true q k l
unfolding neg odd
neg_odd d ℕ.zero k l = refl
neg_odd d (suc q) k l = refl

neg_units : (q k : ℕ) → neg (units binary64 false q k) ≡ units binary64 true q k
unfolding units neg
neg_units q k = go (ltb (q * 2 ^ k) (2 ^ 2098))
  where
    go : (b : Bool) → neg (cond b (odd 54 false q k 1074) (inf false)) ≡ cond b (odd 54 true q k 1074) (inf true)
    go true = neg_odd 54 q k 1074
    go false = refl

neg_round : (a c : ℕ) → neg (round binary64 false a c) ≡ round binary64 true a c
neg_round a c = ap neg (round_is binary64 false a c) ∙ neg_units _ _ ∙ sym (round_is binary64 true a c)

less_is : (x y : Float) → x ⊖ y ≡ x ⊕ neg y
unfolding sub
less_is x y = refl

-- 1 and a rounded fraction from -1 to 0
pub one_and_less : (a c : ℕ) → 0 < c → a ≤ c → T (from_zero (one ⊕ round binary64 true a c)) × T (is_share (one ⊕ round binary64 true a c))
unfolding fits
one_and_less a c C h =
    let u = under a c one C tt tt (omega arith) in
    subst (λ (z : Float). T (from_zero z) × T (is_share z)) (less_is one (round binary64 false a c) ∙ ap (λ (y : Float). one ⊕ y) (neg_round a c))
    (rest_share (round binary64 false a c) u.1 (share_of (round binary64 false a c) u.1 u.0))

-- ---- a negative zero as the share

-- what fits and has no size is zero
no_size : (n : ℕ) (d : ℤ) → T (fits binary64 (fin false n d)) → n * up d ≡ 0 → zero ≡ fin false n d
no_size n d q e = sym (round_none false (down d) (down_pos d)) ∙ ap (λ (a : ℕ). round binary64 false a (down d)) (sym e) ∙ round_own binary64 false n d q

-- minus zero and a number from 0 up
minus_zero_plus : (r : Float) → T (from_zero r) → T (fits binary64 r) → fin true 0 (pos 0) ⊕ r ≡ r
unfolding add sum
minus_zero_plus nan p q = absurd p
minus_zero_plus (inf s) p q = absurd p
minus_zero_plus (fin true n d) p q = absurd p
minus_zero_plus (fin false n d) p q = go (cases_lt 0 (n * up d))
  where
    a : ℕ
    a = 0 * down d

    b : ℕ
    b = n * up d * 1

    c : ℕ
    c = 1 * down d

    go : (0 < n * up d) ⊎ (n * up d ≤ 0) → cond (ltb a b) (round binary64 false (b - a) c) (round binary64 (ltb b a) (a - b) c) ≡ fin false n d
    go (inl l) =
        let A : a ≡ 0 = zero-mul (down d) in
        let t : ltb a b ≡ true = lt-ltb a b (omega arith) in
        let e : b - a ≡ n * up d = omega arith in
        ap (λ (k : Bool). cond k (round binary64 false (b - a) c) (round binary64 (ltb b a) (a - b) c)) t
        ∙ ap (λ (k : ℕ). round binary64 false k c) e ∙ ap (round binary64 false (n * up d)) (one-mul (down d)) ∙ round_own binary64 false n d q
    go (inr l) =
        let A : a ≡ 0 = zero-mul (down d) in
        let t : ltb a b ≡ false = le-ltb a b (omega arith) in
        let u : ltb b a ≡ false = le-ltb b a (omega arith) in
        let e : a - b ≡ 0 = omega arith in
        ap (λ (k : Bool). cond k (round binary64 false (b - a) c) (round binary64 (ltb b a) (a - b) c)) t
        ∙ (λ i. round binary64 (u i) (e i) c) ∙ round_none false c (mul-pos (lit< tt) (down_pos d)) ∙ no_size n d q (omega arith)

-- a number from 0 up, times minus zero
times_minus_zero : (x : Float) (e : ℤ) → T (from_zero x) → x ⊗ fin true 0 e ≡ fin true 0 (pos 0)
unfolding mul
times_minus_zero nan e p = absurd p
times_minus_zero (inf s) e p = absurd p
times_minus_zero (fin true n d) e p = absurd p
times_minus_zero (fin false n d) e p =
    let z : n * up d * (0 * up e) ≡ 0 = ap (λ (k : ℕ). n * up d * k) (zero-mul (up e)) ∙ mul-zero (n * up d) in
    ap (λ (k : ℕ). round binary64 true k (down d * down e)) z ∙ round_none true (down d * down e) (mul-pos (down_pos d) (down_pos e))

-- 1 less minus zero
less_minus_zero : (e : ℤ) → one ⊖ fin true 0 e ≡ one
unfolding sub neg round
less_minus_zero e =
    let z : 1 * down e + 0 * up e * 1 ≡ down e = omega (arith, zero-mul (up e)) in
    add_is one (fin false 0 e) tt tt ∙ ap (λ (k : ℕ). round binary64 false k (1 * down e)) z
    ∙ round_same binary64 false (down e) (1 * down e) 1 1 (mul-pos (lit< tt) (down_pos e)) (lit< tt) (omega arith) ∙ refl

-- with minus zero as the share of a first number, all is the second
pub minus_zero_share : (x r : Float) (e : ℤ) → T (from_zero x) → T (from_zero r) → T (fits binary64 r) → x ⊗ fin true 0 e ⊕ r ⊗ (one ⊖ fin true 0 e) ≡ r
minus_zero_share x r e p q h =
    (λ i. times_minus_zero x e p i ⊕ r ⊗ less_minus_zero e i) ∙ ap (λ (y : Float). fin true 0 (pos 0) ⊕ y) (mul_by_one r q h) ∙ minus_zero_plus r q h

-- ---- a quotient of zero

a_zero : (s : Bool) → lt (fin s 0 (pos 0)) zero ≡ false
unfolding lt
a_zero true = refl
a_zero false = refl

quotient : (s : Bool) (n : ℕ) (d : ℤ) → lt (cond (eqb n 0) nan (round binary64 s (0 * down d) (n * up d * 1))) zero ≡ false
unfolding lt
quotient s ℕ.zero d = refl
quotient s (suc n) d =
    ap (λ (b : Bool). lt (cond b nan (round binary64 s (0 * down d) (suc n * up d * 1))) zero) (eqb-suc-zero n)
    ∙ ap (λ (x : Float). lt x zero)
    (ap (λ (a : ℕ). round binary64 s a (suc n * up d * 1)) (zero-mul (down d)) ∙ round_none s (suc n * up d * 1) (mul-pos (mul-pos (zero-lt-suc n) (up_pos d)) (lit< tt)))
    ∙ a_zero s

-- minus 0 over anything is not below zero
pub none_over : (y : Float) → lt (neg zero ⊘ y) zero ≡ false
unfolding neg div lt
none_over nan = refl
none_over (inf true) = refl
none_over (inf false) = refl
none_over (fin true n d) = quotient false n d
none_over (fin false n d) = quotient true n d

-- ---- no overflow

abbrev pub largest : Float
largest = fin false (2 ^ 53 - 1) (pos 971)

at_most : {m : ℕ} → m < 2 ^ 53 → m ≤ 2 ^ 53 - 1
at_most h = omega arith

-- m * 2 ^ k, with 2 ^ 971 taken out
taken_out : (m k : ℕ) → 971 < k → m * 2 ^ k ≡ m * 2 ^ (k - 971) * 2 ^ 971
taken_out m k l =
    let e : k - 971 + 971 ≡ k = omega arith in
    ap (λ (j : ℕ). m * 2 ^ j) (sym e) ∙ ap (λ (x : ℕ). m * x) (pow-add 2 (k - 971) 971) ∙ sym (mul_assoc m (2 ^ (k - 971)) (2 ^ 971))

-- what fits is at most the largest number
fits_under : (m : ℕ) (e : ℤ) → Fitting binary64 m e → m * up e ≤ num largest * down e
fits_under m (pos k) h = go (cases_lt 971 k)
  where
    go : (971 < k) ⊎ (k ≤ 971) → m * 2 ^ k ≤ num largest * 1
    go (inl l) =
        let e = taken_out m k l in
        let a : m * 2 ^ (k - 971) < 2 ^ 53 = lt_of_mul-lt-mul_right (2 ^ 971) {m = m * 2 ^ (k - 971)} {n = 2 ^ 53} (subst (λ (x : ℕ). x < 2 ^ 53 * 2 ^ 971) e h.bounded) in
        le_trans (le_of_eq e) (mul-le-mul_right {m = m * 2 ^ (k - 971)} {n = 2 ^ 53 - 1} (2 ^ 971) (at_most a))
    go (inr l) = mul-le-mul {n₁ = m} {m₁ = 2 ^ k} {n₂ = 2 ^ 53 - 1} {m₂ = 2 ^ 971} (at_most h.digits) (pow_mono l)
fits_under m (negsuc k) h = mul-le-mul {n₁ = m} {m₁ = 1} {n₂ = num largest} {m₂ = 2 ^ suc k} (le_trans (at_most h.digits) (lit≤ tt)) (pow_pos (suc k))

pub under_largest : (x : Float) → T (from_zero x) → T (fits binary64 x) → num x ≤ num largest * den x
under_largest nan p q = absurd p
under_largest (inf s) p q = absurd p
under_largest (fin true m e) p q = absurd p
under_largest (fin false m e) p q = fits_under m e (fitting binary64 false m e q)

-- half the gap above the largest number is more than 2 ^ 900
no_carry : round binary64 false (num largest + 2 ^ 900) 1 ≡ largest
unfolding round
no_carry = refl

-- a number and one up to 2 ^ 900 have a finite sum
pub add_finite : (x y : Float) → T (from_zero x) → T (fits binary64 x) → T (from_zero y) → num y ≤ 2 ^ 900 * den y → T (from_zero (x ⊕ y))
add_finite x y p q r h =
    let a = num x * den y in
    let b = num y * den x in
    let c = den x * den y in
    let A : a ≤ num largest * c = le_trans (mul-le-mul_right (den y) (under_largest x p q)) (le_of_eq (mul_assoc (num largest) (den x) (den y))) in
    let B : b ≤ 2 ^ 900 * c = le_trans (mul-le-mul_right (den x) h) (le_of_eq (mul_assoc (2 ^ 900) (den y) (den x) ∙ ap (λ (k : ℕ). 2 ^ 900 * k) (mul_comm (den y) (den x)))) in
    let l : T (le (round binary64 false (a + b) c) largest) =
    subst (λ (z : Float). T (le (round binary64 false (a + b) c) z)) no_carry
    (round_mono binary64 (a + b) c (num largest + 2 ^ 900) 1 (mul-pos (den_pos x) (den_pos y)) (pow_pos 0)
    (le_trans (le_of_eq (mul-one (a + b))) (le_trans (add-le-add A B) (le_of_eq (sym (add-mul (num largest) (2 ^ 900) c)))))) in
    subst (λ (z : Float). T (from_zero z)) (sym (add_is x y p r)) (bounded_round binary64 (a + b) c largest tt l)

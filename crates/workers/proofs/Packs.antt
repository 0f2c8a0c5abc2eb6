-- Answers packed in a number.
use Rattle.std.specs.Net.Reader.{map_or}
use Rattle.std.proofs.Common.{◌≡◌, ℕ, zero, suc, ◌+◌, ◌*◌, ◌/◌, ◌%◌, ◌^◌, ◌<◌, ◌≤◌, List, [], ◌∷◌, length, fold, reverse, sym, refl, ap, ◌∙◌, not-suc-le-zero, div-one, arith, lit<, slice_get}
use native.Mathlib.Nat.{pow-succ', zero-div, add-mul-div_left, add-mul-mod_self_left}
use Rattle.std.proofs.lemmas.Nat.{shr-shr}
use Rattle.std.specs.Int.Bits.{bit_or}
use Rattle.std.proofs.lemmas.Grind.{or_after_shift}
use Rattle.std.proofs.lemmas.List.{reverse-append}
use Rattle.std.proofs.lemmas.List.Sums.{fold-append}
use Rattle.service.specs.declared.readiness.Readiness.TheVariants as readiness
use Rattle.workers.specs.declared.answer.Answer.{Answer}
use Rattle.workers.specs.declared.answer.Answer.TheVariants.{Ready, Pending, Failed}
use Rattle.workers.specs.Patterns.{readiness_of, code, answer_of_code, code_of_answers}

pub code_small : (a : Answer) → code a ≤ 2
code_small Pending = omega arith
code_small Ready = omega arith
code_small Failed = omega arith

pub packed_below : (k : ℕ) (xs : List Answer) → length xs ≤ k → code_of_answers xs < 4 ^ k
packed_below zero [] h = omega arith
packed_below zero (x ∷ xs) h = absurd (not-suc-le-zero h)
packed_below (suc k) [] h = omega (arith, packed_below k [] (omega arith), pow-succ' 4 k)
packed_below (suc k) (x ∷ xs) h = omega (arith, code_small x, packed_below k xs (omega arith), pow-succ' 4 k)

-- one answer more, below those that are shifted
abbrev pub with_answer : ℕ → Answer → ℕ
with_answer n a = bit_or (n * 4 % 2 ^ 64) (code a)

with_answer_is : (n : ℕ) (a : Answer) → n < 4 ^ 31 → with_answer n a ≡ code a + 4 * n
with_answer_is n a h =
    let e : n * 4 + code a ≡ code a + 4 * n = omega arith in
    or_after_shift n 4 (2 ^ 64) (code a) refl (omega (arith, code_small a)) (omega arith) ∙ e

pub packed_by_fold : (xs : List Answer) → length xs ≤ 32 → fold with_answer 0 (reverse xs) ≡ code_of_answers xs
packed_by_fold [] h = refl
packed_by_fold (x ∷ xs) h =
    let below : code_of_answers xs < 4 ^ 31 = packed_below 31 xs (omega arith) in
    let more : fold with_answer 0 (reverse xs) ≡ code_of_answers xs = packed_by_fold xs (omega arith) in
    ap (λ (ys : List Answer). fold with_answer 0 ys) (reverse-append (x ∷ []) xs) ∙ fold-append with_answer 0 (reverse xs) (x ∷ []) ∙ ap (λ (n : ℕ). with_answer n x) more ∙ with_answer_is (code_of_answers xs) x below

decoded_code : (a : Answer) → answer_of_code (code a % 4) ≡ a
decoded_code Pending = refl
decoded_code Ready = refl
decoded_code Failed = refl

code_whole : (a : Answer) → code a / 4 ≡ 0
code_whole Pending = refl
code_whole Ready = refl
code_whole Failed = refl

without_first : (a : Answer) (rest i : ℕ) → (code a + 4 * rest) / 2 ^ (2 * suc i) ≡ rest / 2 ^ (2 * i)
without_first a rest i =
    let e : 2 * suc i ≡ 2 + 2 * i = omega arith in
    let q : (code a + 4 * rest) / 4 ≡ rest = add-mul-div_left (code a) rest {y = 4} (lit< tt) ∙ ap (λ (n : ℕ). n + rest) (code_whole a) ∙ omega arith in
    ap (λ (n : ℕ). (code a + 4 * rest) / 2 ^ n) e ∙ sym (shr-shr (code a + 4 * rest) 2 (2 * i)) ∙ ap (λ (n : ℕ). n / 2 ^ (2 * i)) q

-- the packed answers are those of the list
pub answer_at_place : (xs : List Answer) (i j : ℕ) → readiness_of (answer_of_code (code_of_answers xs / 2 ^ (2 * i) % 4)) j ≡ map_or (slice_get xs i) readiness.Pending (λ a. readiness_of a j)
answer_at_place [] i j = rw (zero-div (2 ^ (2 * i))) refl
answer_at_place (a ∷ xs) zero j =
    let e : code_of_answers (a ∷ xs) / 2 ^ (2 * 0) % 4 ≡ code a % 4 = ap (λ (n : ℕ). n % 4) (div-one (code a + 4 * code_of_answers xs)) ∙ add-mul-mod_self_left (code a) 4 (code_of_answers xs) in
    ap (λ (n : ℕ). readiness_of (answer_of_code n) j) e ∙ ap (λ b. readiness_of b j) (decoded_code a)
answer_at_place (a ∷ xs) (suc i) j = ap (λ (n : ℕ). readiness_of (answer_of_code (n % 4)) j) (without_first a (code_of_answers xs) i) ∙ answer_at_place xs i j

-- A newly made patterned service in use.
use Rattle.std.proofs.Common.{◌≡◌, ℕ, zero, suc, ◌+◌, ◌-◌, ◌*◌, ◌/◌, ◌%◌, ◌^◌, ◌<◌, ◌≤◌, min, cond, ltb, ◌⊎◌, List, [], ◌∷◌, length, Some, None, Option, sym, ap, ◌∙◌, inl, inr, not-suc-le-zero, mod-lt, mod-eq_of_lt, zero-add, arith, slice_get}
use native.Mathlib.Nat.{mod-add-mod, mod_self}
use Rattle.std.proofs.lemmas.Bool.{lt-ltb, le-ltb, cases_lt}
use Rattle.service.specs.declared.readiness.Readiness.TheVariants as readiness
use Rattle.service.specs.Uses.{Use, ask, send, times_asked, readiness_in, responses_in}
use Rattle.workers.specs.declared.answer.Answer.{Answer}
use Rattle.workers.specs.declared.patterned.Patterned.{Patterned}
use Rattle.workers.specs.Patterns.{readiness_of, answer_in_turn, answer_of_code, code_of_answers, pattern_state, place_after, pattern_answer, patterned_serves}
use Rattle.workers.specs.Turns.{AnswersInTurn, CountsCalls}
use Rattle.workers.proofs.Packs.{answer_at_place}

-- one place on, cyclically
next_place_is : (n j : ℕ) → 0 < n → cond (ltb (j % n + 1) n) (j % n + 1) 0 ≡ (j + 1) % n
next_place_is n j h = go (cases_lt (j % n + 1) n)
  where
    go : (j % n + 1 < n) ⊎ (n ≤ j % n + 1) → cond (ltb (j % n + 1) n) (j % n + 1) 0 ≡ (j + 1) % n
    go (inl l) = rw (lt-ltb (j % n + 1) n l) (sym (mod-eq_of_lt l) ∙ mod-add-mod j n 1)
    go (inr l) =
        let below : j % n < n = mod-lt j h in
        let e : j % n + 1 ≡ n = omega arith in
        rw (le-ltb (j % n + 1) n l) (sym (mod_self n) ∙ ap (λ (m : ℕ). m % n) (sym e) ∙ mod-add-mod j n 1)

module _ (xs : List Answer) (some : 0 < length xs) (few : length xs ≤ 32) where
  abbrev state : ℕ → ℕ → Option ℕ → Patterned
  state m c g = pattern_state (code_of_answers xs) (length xs) m c g

  at_place : (j : ℕ) → j % length xs % 32 ≡ j % length xs
  at_place j = let below : j % length xs < length xs = mod-lt j some in mod-eq_of_lt (omega arith)

  answer_is : (m j c : ℕ) (g : Option ℕ) → m ≡ j % length xs → pattern_answer (state m c g) ≡ answer_in_turn xs j
  answer_is m j c g e =
      let i : m % 32 ≡ j % length xs = ap (λ (n : ℕ). n % 32) e ∙ at_place j in
      ap (λ (n : ℕ). readiness_of (answer_of_code (code_of_answers xs / 2 ^ (2 * n) % 4)) n) i ∙ answer_at_place xs (j % length xs) (j % length xs)

  place_is : (m j c : ℕ) (g : Option ℕ) → m ≡ j % length xs → place_after (state m c g) ≡ (j + 1) % length xs
  place_is m j c g e =
      let i : m % 32 ≡ j % length xs = ap (λ (n : ℕ). n % 32) e ∙ at_place j in
      ap (λ (n : ℕ). cond (ltb (n + 1) (length xs)) (n + 1) 0) i ∙ next_place_is (length xs) j some

  some_turns : (us : List (Use ℕ)) (m j k c : ℕ) (g : Option ℕ) → m ≡ j % length xs → k < times_asked us → slice_get (readiness_in patterned_serves (state m c g) us) k ≡ Some (answer_in_turn xs (j + k))
  some_turns [] m j k c g e h = absurd (not-suc-le-zero h)
  some_turns (ask t ∷ us) m j zero c g e h =
      let z : j + 0 ≡ j = omega arith in
      ap Some (answer_is m j c g e ∙ ap (answer_in_turn xs) (sym z))
  some_turns (ask t ∷ us) m j (suc k) c g e h =
      let z : j + 1 + k ≡ j + suc k = omega arith in
      some_turns us _ (j + 1) k c _ (place_is m j c g e) (omega arith) ∙ ap (λ (n : ℕ). Some (answer_in_turn xs n)) z
  some_turns (send q t ∷ us) m j k c None e h = some_turns us m j k c None e h
  some_turns (send q t ∷ us) m j k c (Some x) e h = some_turns us m j k _ None e h

no_turns : (us : List (Use ℕ)) (m k c : ℕ) (g : Option ℕ) → k < times_asked us → slice_get (readiness_in patterned_serves (pattern_state 0 0 m c g) us) k ≡ Some readiness.Pending
no_turns [] m k c g h = absurd (not-suc-le-zero h)
no_turns (ask t ∷ us) m zero c g h = ap Some (answer_at_place [] (m % 32) (m % 32))
no_turns (ask t ∷ us) m (suc k) c g h = no_turns us _ k c _ (omega arith)
no_turns (send q t ∷ us) m k c None h = no_turns us m k c None h
no_turns (send q t ∷ us) m k c (Some x) h = no_turns us m k _ None h

pub in_turns : (xs : List Answer) → length xs ≤ 32 → AnswersInTurn xs (pattern_state (code_of_answers xs) (length xs) 0 0 None)
in_turns [] few us k h = no_turns us 0 k 0 None h
in_turns (x ∷ xs) few us k h =
    let some : 0 < length (x ∷ xs) = omega arith in
    some_turns (x ∷ xs) some few us 0 0 k 0 None (sym (mod-eq_of_lt some)) h ∙ ap (λ (n : ℕ). Some (answer_in_turn (x ∷ xs) n)) (zero-add k)

abbrev sat : ℕ → ℕ
sat n = min n (2 ^ 64 - 1)

counts_from : (us : List (Use ℕ)) (a l m j k c : ℕ) (g : Option ℕ) → c ≡ sat j → k < length (responses_in patterned_serves (pattern_state a l m c g) us) → slice_get (responses_in patterned_serves (pattern_state a l m c g) us) k ≡ Some (sat (j + k + 1))
counts_from [] a l m j k c g e h = absurd (not-suc-le-zero h)
counts_from (ask t ∷ us) a l m j k c g e h = counts_from us a l _ j k c _ e h
counts_from (send q t ∷ us) a l m j k c None e h = counts_from us a l m j k c None e h
counts_from (send q t ∷ us) a l m j zero c (Some x) e h =
    let n : sat (c + 1) ≡ sat (j + 0 + 1) = omega arith in ap Some n
counts_from (send q t ∷ us) a l m j (suc k) c (Some x) e h =
    let n : sat (c + 1) ≡ sat (j + 1) = omega arith in
    let z : j + 1 + k + 1 ≡ j + suc k + 1 = omega arith in
    counts_from us a l m (j + 1) k (sat (c + 1)) None n (omega arith) ∙ ap (λ (i : ℕ). Some (sat i)) z

pub counts_calls : (a l : ℕ) → CountsCalls (pattern_state a l 0 0 None)
counts_calls a l us k h = counts_from us a l 0 0 k 0 None (omega arith) h ∙ ap (λ (n : ℕ). Some (sat (n + 1))) (zero-add k)

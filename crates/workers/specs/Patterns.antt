-- A patterned service: stored answers, packed in a number, and given in turn.
use Rattle.std.specs.Net.Reader.{map_or}
use Rattle.std.specs.Prelude.{ℕ, ◌+◌, ◌-◌, ◌*◌, ◌/◌, ◌%◌, ◌^◌, min, if◌then◌else◌, List, [], ◌∷◌, length, None, Ok, Err, Option, Result, ◌==◌, nat_le, nat_lt, refl, slice_get}
use Rattle.lists.specs.Outcome.{outcome}
use Rattle.service.specs.declared.readiness.Readiness.{Readiness}
use Rattle.service.specs.declared.readiness.Readiness.TheVariants as readiness
use Rattle.service.specs.declared.refusal.Invalid.{Invalid}
use Rattle.service.specs.declared.refusal.Invalid.TheVariants.{Pattern}
use Rattle.service.specs.Meaning.{Services, grant_after}
use Rattle.workers.specs.declared.answer.Answer.{Answer}
use Rattle.workers.specs.declared.answer.Answer.TheVariants.{Ready, Pending, Failed}
use Rattle.workers.specs.declared.patterned.Patterned.{Patterned}

-- ---- over a list of answers

-- an answer of a pattern, given at a place; a failure has the place as its error
abbrev pub readiness_of : Answer → ℕ → Readiness ℕ
readiness_of Ready place = readiness.Ready
readiness_of Pending place = readiness.Pending
readiness_of Failed place = readiness.Failed place

-- the k-th answer (from 0): the list's answers in turn, over and over; with none it is Pending
abbrev pub answer_in_turn : List Answer → ℕ → Readiness ℕ
answer_in_turn answers k =
    let place = k % length answers in
    map_or (slice_get answers place) readiness.Pending (λ a. readiness_of a place)

-- ---- packed in a number

-- the number that an answer is written as
abbrev pub code : Answer → ℕ
code Pending = 0
code Ready = 1
code Failed = 2

-- the answer that a number is read as
abbrev pub answer_of_code : ℕ → Answer
answer_of_code n = if n == 0 then Pending else (if n == 1 then Ready else Failed)

-- two bits for each answer, the first in the lowest
abbrev pub code_of_answers : List Answer → ℕ
code_of_answers [] = 0
code_of_answers (a ∷ rest) = code a + 4 * code_of_answers rest

-- packed answers, how many they are, the place of the next, the calls taken and the grant
abbrev pub pattern_state : ℕ → ℕ → ℕ → ℕ → Option ℕ → Patterned
pattern_state answers len next calls grant =
    record { answers = answers; len = len; next = next; calls = calls; grant = grant }

-- a pattern has at most 32 answers; newly made it has no grant and has taken no call
abbrev pub new_patterned : List Answer → Result Patterned Invalid
new_patterned answers =
    if nat_le (length answers) 32
    then Ok (pattern_state (code_of_answers answers) (length answers) 0 0 None)
    else Err Pattern

-- the place of the next answer, which is below 32
abbrev pub place : Patterned → ℕ
place p = p.next % 32

-- the place after it; after the last comes the first
abbrev pub place_after : Patterned → ℕ
place_after p = if nat_lt (place p + 1) p.len then place p + 1 else 0

-- the answer at the place
abbrev pub pattern_answer : Patterned → Readiness ℕ
pattern_answer p = readiness_of (answer_of_code (p.answers / 2 ^ (2 * place p) % 4)) (place p)

-- the calls taken, with one more; the largest u64 stays
abbrev pub one_more_call : Patterned → ℕ
one_more_call p = min (p.calls + 1) (2 ^ 64 - 1)

-- what a patterned service means
abbrev pub patterned_serves : Services Patterned ℕ ℕ ℕ
patterned_serves = record {
  grant = λ p. p.grant;
  poll_ready = λ p at.
      outcome
      (pattern_answer p)
      (record p { next = place_after p; grant = grant_after (pattern_answer p) at });
  accept = λ p request at.
      outcome (one_more_call p) (record p { calls = one_more_call p; grant = None });
  grant-poll_ready = λ p at. refl;
  grant-accept = λ p request at granted. refl;
}

-- Cycles of poll, call and completion, as steps of the balancer's model.
use Rattle.std.specs.Net.Reader.{map_or}
use Rattle.std.specs.Prelude.{◌≡◌, ℕ, zero, suc, ◌+◌, ◌-◌, ◌*◌, ◌%◌, ◌^◌, min, Some, None, Option, Result}
use Rattle.std.specs.Option.{unwrap_or}
use Rattle.lists.specs.Outcome.{Outcome, outcome}
use Rattle.lists.specs.Options.{by_result}
use Rattle.service.specs.Meaning.{Sameness}
use Rattle.service.specs.ByNumber.{same_number}
use Rattle.cache_model.specs.Cache.{capacity_of}
use Rattle.balance_model.specs.declared.answer.CallError.{CallError}
use Rattle.balance_model.specs.declared.pick.Pick.TheVariants as pick
use Rattle.balance_model.specs.Answers.{named_serial}
use Rattle.docket.specs.Docket.{docket_capacity}
use Rattle.balance_model.specs.Meanings.{Meanings}
use Rattle.balance_model.specs.Balance.{Making, State, poll, call, call_answer}
use Rattle.balance_model.specs.History.{after}
use Rattle.rng.specs.declared.hasher_rng.HasherRng.{HasherRng}
use Rattle.rng.specs.Sources.{hasher_start}

-- keys are numbers
abbrev pub numbers : Sameness ℕ
numbers = same_number (λ k. k)

-- what is answered and left is this
pub record Leaves {A S : Type 0} (o : Outcome A S) (answer : A) (after : S) : Type 0 where
  pub answer_is : answer ≡ o.answer
  pub after_is : after ≡ o.after

-- workers S with errors E and weights W, a feed D with errors F, and a source of words R; requests
-- and responses are numbers
module _ {S E W D F R : Type 0} (m : Meanings ℕ S ℕ ℕ E W D F R) (late : ℕ) where
  -- what is left of a call of the worker with this serial: the serial and the response added up,
  -- and the ticket `late` before completed; none where the call was refused
  abbrev pub call_outcome : ℕ → ℕ → Result (ℕ × ℕ) CallError → State ℕ S D R →
      Outcome (Option ℕ) (State ℕ S D R)
  call_outcome now serial answer st =
      by_result answer
      (λ (ticket, response). outcome
      (Some ((serial + response) % 2 ^ 64))
      (after m st (pick.Complete (ticket - late) now)))
      (λ _. outcome None st)

  -- the request 0 to the worker that the latest poll named
  unfoldable pub request : ℕ → ℕ → State ℕ S D R → Outcome (Option ℕ) (State ℕ S D R)
  request now serial st =
      call_outcome now serial (call_answer (call m now st 0).answer) (call m now st 0).after

  -- one cycle: a poll, and a request to the worker that it named; none where it named nobody
  unfoldable pub cycle : ℕ → State ℕ S D R → Outcome (Option ℕ) (State ℕ S D R)
  cycle now st =
      let left = after m st (pick.Poll now) in
      map_or (named_serial (poll m now st.balancer st.cache).answer)
      (outcome None left)
      (λ serial. request now serial left)

  -- so many cycles, at the instants 0, 1000, 2000 and so on: the sum of what they answer, modulo
  -- 2^64
  unfoldable pub cycles : ℕ → State ℕ S D R → Outcome ℕ (State ℕ S D R)
  cycles zero st = outcome 0 st
  cycles (suc n) st =
      let before = cycles n st in
      let last = cycle (n * 1000) before.after in
      outcome ((before.answer + unwrap_or last.answer 0) % 2 ^ 64) last.after

-- a number, or the largest u32 where it is larger
abbrev pub nearest_u32 : ℕ → ℕ
nearest_u32 n = min n (2 ^ 32 - 1)

-- what the cycles begin with, for so many workers and so many requests that stay out: twice as
-- many places and two more, and one record more; words by hashing, and 4096 answers of the feed for
-- a poll
abbrev pub making_of : {D : Type 0} → ℕ → ℕ → D → Making D HasherRng
making_of workers out feed = record {
  cache_capacity = capacity_of (nearest_u32 (2 * workers + 2)) (nearest_u32 (2 * workers + 2));
  docket_capacity = docket_capacity (nearest_u32 (out + 1));
  first_serial = 1;
  first_ticket = 1;
  feed = feed;
  words = hasher_start;
  budget = 4096;
}

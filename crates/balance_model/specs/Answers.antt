-- What the answers of the balancer's calls say: the number of each refusal and fault, and what
-- else they carry.
-- Types: keys K, responses A, errors F of a feed.
use Rattle.std.specs.Prelude.{ℕ, Bool, true, false, Some, None, Ok, Err, Option, Result}
use Rattle.service.specs.Answers.{poll_report}
use Rattle.cache_model.specs.declared.error.CacheError.TheVariants.{NoPlace}
use Rattle.docket.specs.Docket.{docket_number}
use Rattle.cache_model.specs.Answers.{cache_error_report, call_number}
use Rattle.balance_model.specs.declared.answer.Polled.{Polled}
use Rattle.balance_model.specs.declared.answer.PollError.{PollError}
use Rattle.balance_model.specs.declared.answer.PollError.TheVariants.{Discover, Cache as OfCache}
use Rattle.balance_model.specs.declared.answer.CallError.{CallError}
use Rattle.balance_model.specs.declared.answer.CallError.TheVariants.{NotFresh, Docket, Cache}
use Rattle.balance_model.specs.declared.answer.CompleteError.{CompleteError}
use Rattle.balance_model.specs.declared.answer.CompleteError.TheVariants.{UnknownTicket}
use Rattle.balance_model.specs.declared.answer.Completion.{Completion}
use Rattle.balance_model.specs.declared.answer.Completion.TheVariants.{Held, Gone}
use Rattle.balance_model.specs.declared.answer.Answer.{Answer}
use Rattle.balance_model.specs.declared.answer.Answer.TheVariants as answer

-- what the end of a poll says: the feed's fault has the number 12 and its error, the cache's has
-- the number and the key that the cache gives
pub record PollErrorReport (K F : Type 0) : Type 0 where
  pub number : ℕ
  pub key : Option K
  pub error : Option F

abbrev pub poll_error_report : {K F : Type 0} → PollError K F → PollErrorReport K F
poll_error_report (Discover f) = record { number = 12; key = None; error = Some f }
poll_error_report (OfCache e) =
    let told = cache_error_report e in
    record { number = told.number; key = Some told.key; error = None }

-- the fault of a poll that found no place for the ready worker of a key
abbrev pub no_place : {K F : Type 0} → K → PollError K F
no_place k = OfCache (NoPlace (record { key = k }))

-- the number of a refused call, whichever layer refuses
abbrev pub call_error_number : CallError → ℕ
call_error_number NotFresh = 6
call_error_number (Docket r) = docket_number r
call_error_number (Cache r) = call_number r

-- the number of a refused completion
abbrev pub complete_number : CompleteError → ℕ
complete_number UnknownTicket = 9

-- what a completion says: neither case has a number
pub record CompletionReport : Type 0 where
  pub number : Option ℕ
  pub held : Bool

abbrev pub completion_report : Completion → CompletionReport
completion_report Held = record { number = None; held = true }
completion_report Gone = record { number = None; held = false }

-- the serial of the worker that a poll names
abbrev pub named_serial : {K F : Type 0} → Result Polled (PollError K F) → Option ℕ
named_serial (Ok p) = (poll_report p.worker).value
named_serial (Err e) = None

-- what an answer says, whichever pick it is of
pub record AnswerReport (K A F : Type 0) : Type 0 where
  -- the number of a refusal or a fault
  pub number : Option ℕ
  -- the serial of the worker that a poll names, and how many workers it lost
  pub named : Option ℕ
  pub lost : Option ℕ
  -- the ticket of a request that was sent, and the response to it
  pub ticket : Option ℕ
  pub response : Option A
  -- whether the worker of a completed request was still held
  pub held : Option Bool
  -- what a fault carries: the key of the worker, or the error of the feed
  pub key : Option K
  pub error : Option F

-- a refusal of this number, or an answer that says nothing
abbrev pub bare_report : {K A F : Type 0} → Option ℕ → AnswerReport K A F
bare_report number = record {
  number = number;
  named = None;
  lost = None;
  ticket = None;
  response = None;
  held = None;
  key = None;
  error = None;
}

abbrev pub answer_report : {K A F : Type 0} → Answer K A F → AnswerReport K A F
answer_report (answer.Polled (Ok p)) =
    let told = poll_report p.worker in
    record (bare_report told.number) { named = told.value; lost = Some p.lost }
answer_report (answer.Polled (Err e)) =
    let told = poll_error_report e in
    record (bare_report (Some told.number)) { key = told.key; error = told.error }
answer_report (answer.Called (Ok sent)) =
    record (bare_report None) { ticket = Some sent.0; response = Some sent.1 }
answer_report (answer.Called (Err e)) = bare_report (Some (call_error_number e))
answer_report (answer.Completed (Ok over)) =
    let told = completion_report over in
    record (bare_report told.number) { held = Some told.held }
answer_report (answer.Completed (Err e)) = bare_report (Some (complete_number e))

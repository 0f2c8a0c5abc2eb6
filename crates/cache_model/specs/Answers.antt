-- The answers of a cache: what each refusal and fault says, and cases.
-- Types: keys K, errors E of workers.
use Rattle.std.specs.Prelude.{ℕ, Bool, true, false, Some, None, Option, Ok, Err, Result}
use Rattle.service.specs.declared.poll.Poll.{Poll}
use Rattle.service.specs.declared.readiness.Readiness.{Readiness}
use Rattle.service.specs.declared.readiness.Readiness.TheVariants.{Ready, Pending, Failed}
use Rattle.service.specs.declared.refusal.EndpointRefusal.{EndpointRefusal}
use Rattle.service.specs.declared.refusal.EndpointRefusal.TheVariants as endpoint
use Rattle.cache_model.specs.declared.entry.Entry.{Entry}
use Rattle.cache_model.specs.declared.error.PushRefusal.{PushRefusal}
use Rattle.cache_model.specs.declared.error.PushRefusal.TheVariants.{Full, SerialsSpent}
use Rattle.cache_model.specs.declared.error.PushError.{PushError}
use Rattle.cache_model.specs.declared.error.NoPlace.{NoPlace}
use Rattle.cache_model.specs.declared.error.Failed.{Failed as Failure}
use Rattle.cache_model.specs.declared.error.PendingError.{PendingError}
use Rattle.cache_model.specs.declared.error.PendingError.TheVariants as pending
use Rattle.cache_model.specs.declared.error.CacheError.{CacheError}
use Rattle.cache_model.specs.declared.error.CacheError.TheVariants as cache
use Rattle.cache_model.specs.declared.call_refusal.CallRefusal.{CallRefusal}
use Rattle.cache_model.specs.declared.call_refusal.CallRefusal.TheVariants.{NotReady, NoGrant, AtCeiling}

-- the numbers of a refused push and of a refused call
abbrev pub push_refusal_number : PushRefusal → ℕ
push_refusal_number Full = 1
push_refusal_number SerialsSpent = 2

-- the number of a refused call
abbrev pub call_number : CallRefusal → ℕ
call_number NotReady = 3
call_number NoGrant = 4
call_number AtCeiling = 5

-- what a refusal or a fault says of one worker: its number, and the worker's key
pub record Report (K : Type 0) : Type 0 where
  pub number : ℕ
  pub key : K

-- the same of a worker that failed, with its error
pub record FailedReport (K E : Type 0) : Type 0 where
  pub number : ℕ
  pub key : K
  pub error : E

-- the same of the worker at which a pass ended, with its error if it failed
pub record PendingReport (K E : Type 0) : Type 0 where
  pub number : ℕ
  pub key : K
  pub error : Option E

module _ {K : Type 0} where
  -- of a worker that was not taken in
  abbrev pub push_report : PushError K → Report K
  push_report e = record { number = push_refusal_number e.refusal; key = e.key }

  -- of one that found no place among the ready
  abbrev pub no_place_report : NoPlace K → Report K
  no_place_report x = record { number = 10; key = x.key }

  -- of either
  abbrev pub cache_error_report : CacheError K → Report K
  cache_error_report (cache.Push e) = push_report e
  cache_error_report (cache.NoPlace x) = no_place_report x

module _ {K E : Type 0} where
  -- of a worker that failed
  abbrev pub failed_report : Failure K E → FailedReport K E
  failed_report x = record { number = 11; key = x.key; error = x.error }

  -- of the worker at which a pass ended
  abbrev pub pending_report : PendingError K E → PendingReport K E
  pending_report (pending.NoPlace x) =
      record { number = (no_place_report x).number; key = x.key; error = None }
  pending_report (pending.Failed x) =
      record { number = (failed_report x).number; key = x.key; error = Some x.error }

-- a refusal of the endpoint, as the cache hands it on
abbrev pub as_call : EndpointRefusal → CallRefusal
as_call endpoint.NoGrant = NoGrant
as_call endpoint.AtCeiling = AtCeiling

-- what an endpoint says of itself, as the cache hands it on: a failure names the entry's key
abbrev pub as_check : {K S E : Type 0} → Entry K S → Readiness E → Result Bool (Failure K E)
as_check e Ready = Ok true
as_check e Pending = Ok false
as_check e (Failed x) = Err (record { key = e.key; error = x })

-- cases of an answer

-- of a worker that is asked: ready, pending, or failed
abbrev pub by_readiness : {E B : Type 0} → Readiness E → B → B → (E → B) → B
by_readiness Ready r p f = r
by_readiness Pending r p f = p
by_readiness (Failed e) r p f = f e

-- of a check: ready, not ready, or failed
abbrev pub by_check : {K E B : Type 0} → Result Bool (Failure K E) → B → B → B → B
by_check (Ok true) y n f = y
by_check (Ok false) y n f = n
by_check (Err x) y n f = f

-- of a pass over pending: it reached the end, found no place, or lost one that failed
abbrev pub by_pass : {K E B : Type 0} →
    Result (Poll (Unit {0})) (PendingError K E) → B → (K → B) → (Failure K E → B) → B
by_pass (Ok p) end n f = end
by_pass (Err (pending.NoPlace x)) end n f = n x.key
by_pass (Err (pending.Failed x)) end n f = f x

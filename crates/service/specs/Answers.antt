-- What each answer says: its number, if it refuses or reports a fault, and what it carries.
use Rattle.std.specs.Prelude.{ℕ, Some, None, Option}
use Rattle.service.specs.declared.poll.Poll.{Poll}
use Rattle.service.specs.declared.poll.Poll.TheVariants as poll
use Rattle.service.specs.declared.readiness.Readiness.{Readiness}
use Rattle.service.specs.declared.readiness.Readiness.TheVariants.{Ready, Pending, Failed}
use Rattle.service.specs.declared.refusal.ServiceRefusal.{ServiceRefusal}
use Rattle.service.specs.declared.refusal.ServiceRefusal.TheVariants as of_service
use Rattle.service.specs.declared.refusal.EndpointRefusal.{EndpointRefusal}
use Rattle.service.specs.declared.refusal.EndpointRefusal.TheVariants.{NoGrant, AtCeiling}
use Rattle.service.specs.declared.refusal.Invalid.{Invalid}
use Rattle.service.specs.declared.refusal.Invalid.TheVariants.{Name, Pattern, Duration}

-- no grant; a refusal of a service carries nothing
abbrev pub service_number : ServiceRefusal → ℕ
service_number of_service.NoGrant = 4

-- no grant; too many requests out; neither carries anything
abbrev pub endpoint_number : EndpointRefusal → ℕ
endpoint_number NoGrant = 4
endpoint_number AtCeiling = 5

-- a name, a pattern or a duration that is not allowed; none carries anything
abbrev pub invalid_number : Invalid → ℕ
invalid_number Name = 13
invalid_number Pattern = 13
invalid_number Duration = 13

-- what an answer of `poll_ready` says: its number and its error
pub record ReadinessReport (E : Type 0) : Type 0 where
  pub number : Option ℕ
  pub error : Option E

-- a failure has the number 11, and carries its error
abbrev pub readiness_report : {E : Type 0} → Readiness E → ReadinessReport E
readiness_report Ready = record { number = None; error = None }
readiness_report Pending = record { number = None; error = None }
readiness_report (Failed e) = record { number = Some 11; error = Some e }

-- what an answer of a poll says: its number and its value
pub record PollReport (A : Type 0) : Type 0 where
  pub number : Option ℕ
  pub value : Option A

-- neither case has a number, and a ready one carries its value
abbrev pub poll_report : {A : Type 0} → Poll A → PollReport A
poll_report (poll.Ready a) = record { number = None; value = Some a }
poll_report poll.Pending = record { number = None; value = None }

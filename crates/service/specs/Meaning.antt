-- What the interfaces mean: for each a record of functions, with the laws that they obey.
use Rattle.std.specs.Net.Reader.{map_or}
use Rattle.std.specs.Prelude.{◌≡◌, ℕ, ◌+◌, ◌-◌, ◌<◌, Bool, if◌then◌else◌, ◌||◌, IsTrue, is_some, Some, None, Ok, Err, Option, Result, nat_lt}
use Rattle.lists.specs.Outcome.{Outcome, outcome}
use Rattle.service.specs.declared.readiness.Readiness.{Readiness}
use Rattle.service.specs.declared.readiness.Readiness.TheVariants.{Ready, Pending, Failed}
use Rattle.service.specs.declared.refusal.ServiceRefusal.{ServiceRefusal}
use Rattle.service.specs.declared.refusal.ServiceRefusal.TheVariants as of_service
use Rattle.service.specs.declared.refusal.EndpointRefusal.{EndpointRefusal}
use Rattle.service.specs.declared.refusal.EndpointRefusal.TheVariants.{NoGrant, AtCeiling}

-- keys K: which of them are the same
pub record Sameness (K : Type 0) : Type 0 where
  pub same : K → K → Bool
  pub reflexive : (a : K) → IsTrue (same a a)
  pub symmetric : (a b : K) → IsTrue (same a b) → IsTrue (same b a)
  pub transitive : (a b c : K) → IsTrue (same a b) → IsTrue (same b c) → IsTrue (same a c)

-- weights W: which are not heavier than which
pub record Weights (W : Type 0) : Type 0 where
  pub not_heavier : W → W → Bool
  pub total : (a b : W) → IsTrue (not_heavier a b || not_heavier b a)
  pub transitive : (a b c : W) → IsTrue (not_heavier a b) → IsTrue (not_heavier b c) →
      IsTrue (not_heavier a c)

-- the grant that an answer leaves: the instant of a Ready, and otherwise none
abbrev pub grant_after : {E : Type 0} → Readiness E → ℕ → Option ℕ
grant_after Ready at = Some at
grant_after Pending at = None
grant_after (Failed e) at = None

-- bare services S with requests Q, responses A and errors E
pub record Services (S Q A E : Type 0) : Type 0 where
  -- the instant at which it said that it is ready, until it is asked or called again
  pub grant : S → Option ℕ
  -- what `poll_ready` does at an instant, and what `call` does if it is not refused
  pub poll_ready : S → ℕ → Outcome (Readiness E) S
  pub accept : S → Q → ℕ → Outcome A S
  pub grant-poll_ready : (s : S) (at : ℕ) →
      grant (poll_ready s at).after ≡ grant_after (poll_ready s at).answer at
  pub grant-accept : (s : S) (q : Q) (at : ℕ) → IsTrue (is_some (grant s)) →
      grant (accept s q at).after ≡ None

-- `call` of a bare service is refused without a grant, and then changes nothing
abbrev pub service_call : {S Q A E : Type 0} →
    Services S Q A E → S → Q → ℕ → Outcome (Result A ServiceRefusal) S
service_call m s q at =
    map_or (m.grant s)
    (outcome (Err of_service.NoGrant) s)
    (λ _. outcome (Ok (m.accept s q at).answer) (m.accept s q at).after)

-- a call is refused at this count of requests out, and above
abbrev pub ceiling : ℕ
ceiling = 4294967294

-- endpoints S with requests Q, responses A, errors E and weights W
pub record Endpoints (S Q A E W : Type 0) : Type 0 where
  -- the grant as of a bare service, the number of requests out, and the weight at each instant
  pub grant : S → Option ℕ
  pub count : S → ℕ
  pub weight : S → ℕ → W
  -- what `poll_ready` does at an instant, and what `call` does if it is not refused
  pub poll_ready : S → ℕ → Outcome (Readiness E) S
  pub accept : S → Q → ℕ → Outcome A S
  -- what `finish` leaves, told the sending and the present instant; what `load` leaves
  pub finish : S → ℕ → ℕ → S
  pub load : S → ℕ → S
  pub grant-poll_ready : (s : S) (at : ℕ) →
      grant (poll_ready s at).after ≡ grant_after (poll_ready s at).answer at
  pub count-poll_ready : (s : S) (at : ℕ) → count (poll_ready s at).after ≡ count s
  pub grant-accept : (s : S) (q : Q) (at : ℕ) → IsTrue (is_some (grant s)) → count s < ceiling →
      grant (accept s q at).after ≡ None
  pub count-accept : (s : S) (q : Q) (at : ℕ) → IsTrue (is_some (grant s)) → count s < ceiling →
      count (accept s q at).after ≡ count s + 1
  pub grant-finish : (s : S) (sent at : ℕ) → grant (finish s sent at) ≡ grant s
  pub count-finish : (s : S) (sent at : ℕ) → count (finish s sent at) ≡ count s - 1
  pub grant-load : (s : S) (at : ℕ) → grant (load s at) ≡ grant s
  pub count-load : (s : S) (at : ℕ) → count (load s at) ≡ count s
  pub weight-load : (s : S) (at : ℕ) → weight (load s at) at ≡ weight s at

-- why a call is refused, if it is: first for want of a grant, then for too many requests out
abbrev pub refused_by : {S Q A E W : Type 0} → Endpoints S Q A E W → S → Option EndpointRefusal
refused_by m s =
    map_or (m.grant s)
    (Some NoGrant)
    (λ _. if nat_lt (m.count s) ceiling then None else Some AtCeiling)

-- `call` of an endpoint: a refused one changes nothing, and any other is accepted
abbrev pub endpoint_call : {S Q A E W : Type 0} →
    Endpoints S Q A E W → S → Q → ℕ → Outcome (Result A EndpointRefusal) S
endpoint_call m s q at =
    map_or (refused_by m s)
    (outcome (Ok (m.accept s q at).answer) (m.accept s q at).after)
    (λ r. outcome (Err r) s)

-- A bare service as an endpoint: it counts its requests out, and the count is the weight.
use Rattle.std.specs.Prelude.{refl, ℕ, ◌+◌, ◌-◌}
use Rattle.lists.specs.Outcome.{Outcome, outcome}
use Rattle.service.specs.Meaning.{Services, Endpoints}
use Rattle.load.specs.declared.pending_requests.PendingRequests.{PendingRequests}

-- bare services S
module _ {S : Type 0} where
  -- with so many requests out
  abbrev pub with_count : S → ℕ → PendingRequests S
  with_count service count = record { service = service; count = count }

  -- newly made
  abbrev pub new_pending_requests : S → PendingRequests S
  new_pending_requests service = with_count service 0

  -- their requests Q, responses A and errors E
  module _ {Q A E : Type 0} (serves : Services S Q A E) where
    -- what the service did, with this count out afterwards
    abbrev outcome_with : {B : Type 0} → Outcome B S → ℕ → Outcome B (PendingRequests S)
    outcome_with below count = outcome below.answer (with_count below.after count)

    -- the grant and the answers are the service's
    abbrev pub pending_requests : Endpoints (PendingRequests S) Q A E ℕ
    pending_requests = record {
      grant = λ p. serves.grant p.service;
      count = λ p. p.count;
      weight = λ p at. p.count;
      poll_ready = λ p at. outcome_with (serves.poll_ready p.service at) p.count;
      accept = λ p q at. outcome_with (serves.accept p.service q at) (p.count + 1);
      finish = λ p sent at. record p { count = p.count - 1 };
      load = λ p at. p;
      grant-poll_ready = λ p at. serves.grant-poll_ready p.service at;
      count-poll_ready = λ p at. refl;
      grant-accept = λ p q at granted below. serves.grant-accept p.service q at granted;
      count-accept = λ p q at granted below. refl;
      grant-finish = λ p sent at. refl;
      count-finish = λ p sent at. refl;
      grant-load = λ p at. refl;
      count-load = λ p at. refl;
      weight-load = λ p at. refl;
    }

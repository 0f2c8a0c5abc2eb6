-- The endpoint over a bare service, weighed by response time.
use Rattle.std.specs.Prelude.{◌≡◌, ℕ, ◌^◌, ◌<◌, IsTrue, Result, to_bits, refl, Float}
use Rattle.std.proofs.Common.{ap}
use Rattle.std.specs.Float.{binary64}
use Rattle.lists.specs.Outcome.{Outcome, outcome}
use Rattle.service.specs.Meaning.{Services, Endpoints}
use Rattle.service.specs.declared.refusal.Invalid.{Invalid}
use Rattle.load.specs.declared.cost.Cost.{Cost}
use Rattle.load.specs.declared.peak_ewma.PeakEwma.{PeakEwma}
use Rattle.load.specs.declared.pending_requests.PendingRequests.{PendingRequests}
use Rattle.load.specs.declared.rtt_estimate.RttEstimate.{RttEstimate}
use Rattle.load.specs.declared.settings.Settings.{Settings}
use Rattle.load.specs.Costs.{cost, costs}
use Rattle.load.specs.Decays.{Decays}
use Rattle.load.specs.Estimates.{nanos, estimate_from, update}
use Rattle.load.specs.Pending.{new_pending_requests, pending_requests}
use Rattle.load.specs.Readings.{reading_again}
use Rattle.load.specs.Settings.{unless_zero}

-- bare services S, and sources D of decay
module _ {S D : Type 0} where
  -- no requests out, and the default for an estimate
  abbrev pub from_settings : S → Settings D → ℕ → PeakEwma S D
  from_settings service settings at = record {
    pending = new_pending_requests service;
    decay = settings.decay;
    decay_period = settings.decay_period;
    rtt_bits = to_bits binary64 (nanos settings.default_rtt);
    update_at = at;
  }

  -- a zero duration is refused
  abbrev pub new_peak_ewma : S → Settings D → ℕ → Result (PeakEwma S D) Invalid
  new_peak_ewma service settings at = unless_zero settings (from_settings service settings at)

  -- its estimate of response time
  abbrev pub estimate_of : PeakEwma S D → RttEstimate
  estimate_of p = estimate_from p.rtt_bits p.update_at

  -- the endpoint with another estimate
  abbrev pub with_estimate : PeakEwma S D → RttEstimate → PeakEwma S D
  with_estimate p e = record p { rtt_bits = to_bits binary64 e.rtt_ns; update_at = e.update_at }

  -- the weight that the estimate of the last update has, with the requests that are out now
  abbrev pub last_weight : PeakEwma S D → Cost
  last_weight p = cost (estimate_of p).rtt_ns p.pending.count

  module _ (decays : Decays D) where
    -- the estimate after a response at an instant to what was sent at another
    abbrev pub estimate_after : PeakEwma S D → ℕ → ℕ → RttEstimate
    estimate_after p sent at = update decays p.decay p.decay_period (estimate_of p) sent at

    -- a reading is taken in; the answer is the estimate then
    abbrev pub update_estimate : PeakEwma S D → ℕ → ℕ → Outcome Float (PeakEwma S D)
    update_estimate p sent at =
        let e = estimate_after p sent at in outcome e.rtt_ns (with_estimate p e)

    -- the weight at an instant: of the estimate read then
    abbrev pub weight_at : PeakEwma S D → ℕ → Cost
    weight_at p at = cost (estimate_after p at at).rtt_ns p.pending.count

    -- read again at the same instant, the weight is the same
    pub weight_again : (p : PeakEwma S D) (at : ℕ)
        → weight_at (update_estimate p at at).after at ≡ weight_at p at
    weight_again p at =
        ap (λ (x : Float). cost x p.pending.count)
        (reading_again decays p.decay p.decay_period p.rtt_bits p.update_at at)

    -- the services' requests Q, responses A and errors E
    module _ {Q A E : Type 0} (serves : Services S Q A E) where
      -- the endpoint that counts its requests
      abbrev below : Endpoints (PendingRequests S) Q A E ℕ
      below = pending_requests serves

      -- what the service and its count did
      abbrev outcome_in : {B : Type 0} → PeakEwma S D → Outcome B (PendingRequests S)
          → Outcome B (PeakEwma S D)
      outcome_in p o = outcome o.answer (record p { pending = o.after })

      -- grant, answers, errors and responses are the service's, and requests out are counted as below
      abbrev pub peak_ewma : Endpoints (PeakEwma S D) Q A E Cost
      peak_ewma = record {
        grant = λ p. below.grant p.pending;
        count = λ p. below.count p.pending;
        weight = weight_at;
        poll_ready = λ p at. outcome_in p (below.poll_ready p.pending at);
        accept = λ p q at. outcome_in p (below.accept p.pending q at);
        finish = λ p sent at.
            record (update_estimate p sent at).after { pending = below.finish p.pending sent at };
        load = λ p at. (update_estimate p at at).after;
        grant-poll_ready = λ p at. below.grant-poll_ready p.pending at;
        count-poll_ready = λ p at. below.count-poll_ready p.pending at;
        grant-accept = λ p q at g h. below.grant-accept p.pending q at g h;
        count-accept = λ p q at g h. below.count-accept p.pending q at g h;
        grant-finish = λ p sent at. below.grant-finish p.pending sent at;
        count-finish = λ p sent at. below.count-finish p.pending sent at;
        grant-load = λ p at. refl;
        count-load = λ p at. refl;
        weight-load = weight_again;
      }

-- with the requests that are out, no endpoint over a service S is heavier after a reading
pub record NoReadingWeighsMore (S : Type 0) {D : Type 0} (decays : Decays D) : Type 0 where
  pub at_most : (p : PeakEwma S D) (at : ℕ) → p.pending.count < 2 ^ 32 →
      IsTrue (costs.not_heavier (weight_at decays p at) (last_weight p))

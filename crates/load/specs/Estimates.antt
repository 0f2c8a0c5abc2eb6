-- Estimates of a response time by Peak-EWMA, after Finagle's public description of it: a moving
-- average of response times that jumps up to a peak at once and comes down over time.
-- Each operation is rounded once; which share of an estimate is kept over time is left open.
use Rattle.std.specs.Prelude.{◌≡◌, ℕ, ◌-◌, ◌%◌, ◌^◌, ◌<◌, true, false, if◌then◌else◌, IsTrue, from_bits, to_bits, Float}
use Rattle.std.specs.Float.{nan, inf, fin, binary64}
use Rattle.std.specs.Float.Ieee.{lt, le, neg}
use Rattle.rounding.specs.Floats.{zero, one, from_zero, nearest, ◌⊕◌, ◌⊖◌, ◌⊗◌, ◌⊘◌}
use Rattle.load.specs.Decays.{Decays}
use Rattle.load.specs.declared.rtt_estimate.RttEstimate.{RttEstimate}

-- nanoseconds as a number: those below a second plus the whole seconds, each rounded and their sum
abbrev pub nanos : ℕ → Float
nanos d = nearest (d % 10 ^ 9) ⊕ nearest (d - d % 10 ^ 9)

-- an estimate is a finite number from 0 up; any other value is taken for 0
abbrev pub finite_or_zero : Float → Float
finite_or_zero nan = zero
finite_or_zero (inf s) = zero
finite_or_zero (fin true m e) = zero
finite_or_zero (fin false m e) = fin false m e

-- a response time above the estimate replaces it; any other is averaged with the share f of it
abbrev pub average : Float → Float → Float → Float
average estimate rtt f = if lt estimate rtt then rtt else (estimate ⊗ f ⊕ rtt ⊗ (one ⊖ f))

-- an estimate, by the bits of its value, with the instant of its last update
abbrev pub estimate_at : Float → ℕ → RttEstimate
estimate_at x at = record { rtt_ns = x; update_at = at }

-- the estimate that bits stand for
abbrev pub estimate_from : ℕ → ℕ → RttEstimate
estimate_from bits at = estimate_at (finite_or_zero (from_bits binary64 bits)) at

-- finite and from 0 up, and its bits stand for it
abbrev pub Keepable : RttEstimate → Type 0
Keepable e =
    IsTrue (from_zero e.rtt_ns) × (from_bits binary64 (to_bits binary64 e.rtt_ns) ≡ e.rtt_ns)

-- a source D of decay
module _ {D : Type 0} (decays : Decays D) (decay : D) where
  -- over a decay period in nanoseconds
  module _ (period : ℕ) where
    -- the share of an estimate that is kept after some nanoseconds
    abbrev pub share_after : ℕ → Float
    share_after elapsed = decays.share decay (neg (nanos elapsed) ⊘ nanos period)

    -- an estimate of the instant `since`, after a response at `at` to what was sent at `sent`; a
    -- clock that went back shows no time
    abbrev pub after_response : Float → ℕ → ℕ → ℕ → Float
    after_response estimate since sent at =
        average estimate (nanos (at - sent)) (share_after (at - since))

    -- the same with the instants of the updates
    abbrev pub update : RttEstimate → ℕ → ℕ → RttEstimate
    update e sent at = estimate_at (after_response e.rtt_ns e.update_at sent at) at

  -- what is read from bits can be kept, and so can what any update makes of it
  pub record EstimatesStay : Type 0 where
    pub read : (bits at : ℕ) → Keepable (estimate_from bits at)
    pub stay : (e : RttEstimate) (period sent at : ℕ) → at < 2 ^ 64 → Keepable e
        → Keepable (update period e sent at)

  -- a reading, which is an update by no response time, never raises an estimate that can be kept
  pub record NoReadingRaises : Type 0 where
    pub at_most : (e : RttEstimate) (period at : ℕ) → Keepable e
        → IsTrue (le (update period e at at).rtt_ns e.rtt_ns)

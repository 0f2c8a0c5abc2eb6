-- Estimates can be kept by their bits, and a reading raises none and makes no endpoint heavier.
use Rattle.std.proofs.Common.{◌≡◌, ℕ, IsTrue, T, subst}
use Rattle.std.proofs.lemmas.Bool.{or_right}
use Rattle.std.proofs.lemmas.Float.{T_from_true}
use lib.Ieee.{Float, binary64, fits, of_bits, to_bits, is_nan, le}
use lib.Ieee.Bits.{is_true, of_bits-fits, of_bits-to_bits}
use Rattle.rounding.specs.Floats.{from_zero}
use Rattle.load.specs.Decays.{Decays}
use Rattle.load.specs.Estimates.{finite_or_zero, after_response, estimate_at, Keepable, EstimatesStay, NoReadingRaises}
use Rattle.load.specs.PeakEwma.{estimate_of, estimate_after, weight_at, last_weight, NoReadingWeighsMore}
use Rattle.load.specs.Readings.{finite_up, finite_fits, reading_falls}
use Rattle.load.proofs.Estimates.{response_up, cost_mono}

keepable : (x : Float) (at : ℕ) → IsTrue (from_zero x) × IsTrue (fits binary64 x) → Keepable (estimate_at x at)
keepable x at h = (h.0, of_bits-to_bits binary64 x (T_from_true _ h.1))

fits_by_bits : (x : Float) → of_bits binary64 (to_bits binary64 x) ≡ x → IsTrue (fits binary64 x)
fits_by_bits x e = is_true _ (subst (λ (y : Float). T (fits binary64 y)) e (of_bits-fits binary64 (to_bits binary64 x)))

pub stay : {D : Type 0} (decays : Decays D) (decay : D) → EstimatesStay decays decay
stay decays decay = record {
  read = λ bits at. let x = of_bits binary64 bits in keepable (finite_or_zero x) at (finite_up x, finite_fits x (is_true _ (of_bits-fits binary64 bits)));
  stay = λ e period sent at h k.
      let x = e.rtt_ns in
      let since = e.update_at in
      let r = response_up decays decay period x since sent at (T_from_true _ k.0) (T_from_true _ (fits_by_bits x k.1)) h in
      keepable (after_response decays decay period x since sent at) at (is_true _ r.0, is_true _ r.1);
}

pub no_raise : {D : Type 0} (decays : Decays D) (decay : D) → NoReadingRaises decays decay
no_raise decays decay = record {
  at_most = λ e period at k.
      (reading_falls decays decay period e.rtt_ns e.update_at at k.0 (fits_by_bits e.rtt_ns k.1)).0;
}

pub weighs_no_more : (S : Type 0) {D : Type 0} (decays : Decays D) → NoReadingWeighsMore S decays
weighs_no_more S decays = record {
  at_most = λ p at h.
      let b = of_bits binary64 p.rtt_bits in
      let r = reading_falls decays p.decay p.decay_period (finite_or_zero b) p.update_at at (finite_up b) (finite_fits b (is_true _ (of_bits-fits binary64 p.rtt_bits))) in
      or_right (is_nan (last_weight p).nanos) (le (weight_at decays p at).nanos (last_weight p).nanos)
      (is_true _ (cost_mono (estimate_after decays p at at).rtt_ns (estimate_of p).rtt_ns p.pending.count h (T_from_true _ r.1) (T_from_true _ (finite_up b)) (T_from_true _ r.0)));
}

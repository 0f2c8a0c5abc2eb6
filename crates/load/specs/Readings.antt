-- Readings of an estimate, and the law that an endpoint's meaning asks of them: a second reading at
-- one instant changes nothing.
use Rattle.std.proofs.Common.{◌≡◌, ℕ, ◌-◌, Bool, false, true, if◌then◌else◌, IsTrue, ℤ, sym, refl, ap, ◌∙◌, subst}
use native.Mathlib.Nat.{sub_self}
use Rattle.std.proofs.lemmas.Bool.{false≢true}
use Rattle.std.proofs.lemmas.Float.{T_from_true}
use mathlib.Core.Logic.{⊎_elim}
use lib.Ieee.{Float, nan, inf, fin, binary64, add, neg, le, fits, of_int, of_bits, to_bits}
use lib.Ieee.Fits.{mul-fits}
use lib.Ieee.Bits.{is_true, of_bits-fits, of_bits-to_bits}
use Rattle.rounding.specs.Floats.{zero, one, from_zero, is_share, ◌⊕◌, ◌⊖◌, ◌⊗◌, ◌⊘◌}
use Rattle.rounding.proofs.Operations.{share_cases, not_below_zero, zero_le, mul_share, mul_by_one, zero_times, add_none, rest_share, minus_zero_share, none_over}
use Rattle.load.specs.Decays.{Decays}
use Rattle.load.specs.Estimates.{nanos, finite_or_zero, average, share_after, after_response}

-- ---- what is read from bits

pub finite_up : (x : Float) → IsTrue (from_zero (finite_or_zero x))
finite_up nan = refl
finite_up (inf s) = refl
finite_up (fin true m e) = refl
finite_up (fin false m e) = refl

pub finite_fits : (x : Float) → IsTrue (fits binary64 x) → IsTrue (fits binary64 (finite_or_zero x))
unfolding fits
finite_fits nan p = refl
finite_fits (inf s) p = refl
finite_fits (fin true m e) p = refl
finite_fits (fin false m e) p = p

pub finite_same : (x : Float) → IsTrue (from_zero x) → finite_or_zero x ≡ x
finite_same nan p = absurd (false≢true p)
finite_same (inf s) p = absurd (false≢true p)
finite_same (fin true m e) p = absurd (false≢true p)
finite_same (fin false m e) p = refl

-- an estimate that was written is read as it was
pub finite_written : (x : Float) → IsTrue (from_zero x) → IsTrue (fits binary64 x)
    → finite_or_zero (of_bits binary64 (to_bits binary64 x)) ≡ x
finite_written x p q =
    ap finite_or_zero (of_bits-to_bits binary64 x (T_from_true _ q)) ∙ finite_same x p

-- ---- no time

pub nanos_none : nanos 0 ≡ zero
unfolding add of_int
nanos_none = refl

no_time : (at : ℕ) → nanos (at - at) ≡ zero
no_time at = ap nanos (sub_self at) ∙ nanos_none

module _ {D : Type 0} (decays : Decays D) (decay : D) (period : ℕ) where
  -- an estimate read at an instant: as after a response in no time
  abbrev reading : Float → ℕ → ℕ → Float
  reading estimate since at = after_response decays decay period estimate since at at

  whole_at_once : (at : ℕ) → share_after decays decay period (at - at) ≡ one
  whole_at_once at =
      ap (λ (x : Float). decays.share decay (neg x ⊘ nanos period)) (no_time at)
      ∙ decays.share_whole decay (neg zero ⊘ nanos period) (none_over (nanos period))

  after_is_share : (elapsed : ℕ) → IsTrue (is_share (share_after decays decay period elapsed))
  after_is_share elapsed = decays.share_within decay _

  -- a reading takes the kept share, where that has no sign
  reading_is : (x : Float) (since at : ℕ) → IsTrue (from_zero x) → IsTrue (fits binary64 x)
      → IsTrue (from_zero (share_after decays decay period (at - since)))
      → reading x since at ≡ x ⊗ share_after decays decay period (at - since)
  reading_is x since at p q t =
      let f = share_after decays decay period (at - since) in
      let up = T_from_true (from_zero x) p in
      let kept_up = T_from_true (from_zero f) t in
      let kept = T_from_true (is_share f) (after_is_share (at - since)) in
      ap (λ (r : Float). average x r f) (no_time at)
      ∙ ap (λ (b : Bool). if b then zero else x ⊗ f ⊕ zero ⊗ (one ⊖ f)) (not_below_zero x up)
      ∙ ap (λ (z : Float). x ⊗ f ⊕ z) (zero_times (one ⊖ f) (rest_share f kept_up kept).0)
      ∙ add_none (x ⊗ f) (mul_share x f up (T_from_true _ q) kept_up kept).1 (mul-fits binary64 x f)

  -- where minus zero is kept, a reading leaves zero
  reading_none : (x : Float) (since at : ℕ) (e : ℤ) → IsTrue (from_zero x)
      → share_after decays decay period (at - since) ≡ fin true 0 e
      → reading x since at ≡ zero
  unfolding fits
  reading_none x since at e p k =
      let up = T_from_true (from_zero x) p in
      (λ i. average x (no_time at i) (k i))
      ∙ ap (λ (b : Bool). if b then zero else x ⊗ fin true 0 e ⊕ zero ⊗ (one ⊖ fin true 0 e))
      (not_below_zero x up)
      ∙ minus_zero_share x zero e up tt tt

  -- a reading never raises the estimate, and leaves it finite and from 0 up
  pub reading_falls : (x : Float) (since at : ℕ) → IsTrue (from_zero x) → IsTrue (fits binary64 x)
      → IsTrue (le (reading x since at) x)
      × IsTrue (from_zero (reading x since at))
      × IsTrue (fits binary64 (reading x since at))
  unfolding fits
  reading_falls x since at p q =
      let up = T_from_true (from_zero x) p in
      let kept = T_from_true (is_share f) (after_is_share (at - since)) in
      ⊎_elim
      (λ t.
      let m = mul_share x f up (T_from_true _ q) t kept in
      subst Falls (sym (reading_is x since at p q (is_true _ t)))
      (is_true _ m.0, is_true _ m.1, is_true _ (mul-fits binary64 x f)))
      (λ k.
      subst Falls (sym (reading_none x since at k.0 p k.1)) (is_true _ (zero_le x up), refl, refl))
      (share_cases f kept)
    where
      f : Float
      f = share_after decays decay period (at - since)

      Falls : Float → Type 0
      Falls y = IsTrue (le y x) × IsTrue (from_zero y) × IsTrue (fits binary64 y)

  -- a reading at the instant of the update leaves the estimate
  pub reading_at_once : (x : Float) (at : ℕ) → IsTrue (from_zero x) → IsTrue (fits binary64 x)
      → reading x at at ≡ x
  reading_at_once x at p q =
      reading_is x at at p q (subst (λ (f : Float). IsTrue (from_zero f)) (sym (whole_at_once at)) refl)
      ∙ ap (λ (f : Float). x ⊗ f) (whole_at_once at)
      ∙ mul_by_one x (T_from_true _ p) (T_from_true _ q)

  -- what a reading wrote is read again at the same instant as it was
  pub reading_again : (bits since at : ℕ)
      → let y = reading (finite_or_zero (of_bits binary64 bits)) since at in
      reading (finite_or_zero (of_bits binary64 (to_bits binary64 y))) at at ≡ y
  reading_again bits since at =
      let b = of_bits binary64 bits in
      let y = reading (finite_or_zero b) since at in
      let small = finite_fits b (is_true _ (of_bits-fits binary64 bits)) in
      let r = reading_falls (finite_or_zero b) since at (finite_up b) small in
      ap (λ (z : Float). reading z at at) (finite_written y r.1 r.2) ∙ reading_at_once y at r.1 r.2

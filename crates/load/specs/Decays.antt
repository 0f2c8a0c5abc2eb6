-- What a source of decay means, and two of them.
use Rattle.std.specs.Prelude.{◌≡◌, false, IsTrue, Float}
use Rattle.std.specs.Float.Ieee.{lt}
use lib.Ieee.Bits.{is_true}
use Rattle.rounding.specs.Floats.{zero, one, is_share}
use Rattle.rounding.specs.Shares.{halving, squaring}
use Rattle.rounding.proofs.Shares.{halving_whole, halving_share, squaring_whole, squaring_share}
use Rattle.load.specs.declared.decay.Halving.{Halving}
use Rattle.load.specs.declared.decay.Squaring.{Squaring}

-- a source D: the share of an estimate that is kept at a number x, all where x is not below zero
pub record Decays (D : Type 0) : Type 0 where
  pub share : D → Float → Float
  pub share_whole : (d : D) (x : Float) → lt x zero ≡ false → share d x ≡ one
  pub share_within : (d : D) (x : Float) → IsTrue (is_share (share d x))

-- a half for each whole period
abbrev pub halving_decays : Decays Halving
halving_decays = record {
  share = λ _. halving;
  share_whole = λ _. halving_whole;
  share_within = λ _ x. is_true (is_share (halving x)) (halving_share x);
}

-- about the power of e
abbrev pub squaring_decays : Decays Squaring
squaring_decays = record {
  share = λ _. squaring;
  share_whole = λ _. squaring_whole;
  share_within = λ _ x. is_true (is_share (squaring x)) (squaring_share x);
}

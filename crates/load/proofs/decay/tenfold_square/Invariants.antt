use Rattle.std.proofs.Common.{◌≡◌, ◌-◌}
use Rattle.rounding.specs.Shares.{nth_square}
use Rattle.load.proofs.decay.tenfold_square.Given as goal

abbrev pub invariant-loop-square : goal.invariant-loop-square
invariant-loop-square l = nth_square (10 - l._square) l.share ≡ nth_square 10 l.initial.share

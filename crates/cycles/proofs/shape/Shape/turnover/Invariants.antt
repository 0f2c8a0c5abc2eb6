use Rattle.std.proofs.Common.{◌≡◌}
use Rattle.std.specs.Int.NonZero.{non_zero_u32_get}
use Rattle.cycles.specs.Shape.{number_of, each_below, turn}
use Rattle.cycles.proofs.shape.Shape.turnover.Given as goal

abbrev pub invariant-loop-cycle : goal.invariant-loop-cycle
invariant-loop-cycle l = l.answers.items ≡ each_below l.cycle (turn l.self.workers (number_of l.self.unready) (non_zero_u32_get l.every))

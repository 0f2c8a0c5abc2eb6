use Rattle.std.proofs.Common.{◌≡◌}
use Rattle.cycles.specs.Shape.{number_of, arrivals}
use Rattle.cycles.proofs.shape.Shape.arrivals.Given as goal

abbrev pub invariant-loop-key : goal.invariant-loop-key
invariant-loop-key l = l.answers.items ≡ arrivals l.key (number_of l.self.unready)

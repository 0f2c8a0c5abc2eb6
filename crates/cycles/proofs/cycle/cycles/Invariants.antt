use Rattle.balance.specs.Steps.{state}
use Rattle.balance_model.specs.Meanings.{meanings_of}
use Rattle.cycles.specs.Cycles.{numbers, Leaves, cycles}
use Rattle.cycles.proofs.cycle.cycles.Given as goal

abbrev pub invariant-loop-i : goal.invariant-loop-i
invariant-loop-i g l =
    let m = meanings_of numbers g.D.Service.Endpoint.means g.D.Service.Metric.Weight.order g.D.Discover.feeds g.R.Rng.source in
    Leaves (cycles m l.late l.i (state l.initial.balance l.initial.cache l.initial.docket)) l.sum (state l.balance l.cache l.docket)

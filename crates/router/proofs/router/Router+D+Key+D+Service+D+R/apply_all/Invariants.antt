use Rattle.balance_model.specs.Meanings.{meanings_of}
use Rattle.router.specs.Runs.{state_of, from_state}
use Rattle.router.proofs.Applying.{Made}
use Rattle.router.proofs.router.Router+D+Key+D+Service+D+R.apply_all.Given as goal

abbrev pub invariant-loop-i : goal.invariant-loop-i
invariant-loop-i g l =
    let m = meanings_of g.D.Key.Key.sameness g.D.Service.Endpoint.means g.D.Service.Metric.Weight.order g.D.Discover.feeds g.R.Rng.source in
    Made m (from_state (state_of l.initial.self)) l.picks l.initial.answers l.answers (state_of l.self) l.i

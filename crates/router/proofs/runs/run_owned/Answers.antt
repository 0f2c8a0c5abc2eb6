use Rattle.balance_model.specs.Meanings.{meanings_of}
use Rattle.balance_model.proofs.Promised.{promised}
use Rattle.router.specs.Runs.{making_of, state_of}
use Rattle.router.proofs.Applying.{owned_all}
use Rattle.router.proofs.runs.run_owned.Goals as goal

pub returns-clause-owned : goal.returns-clause-owned
returns-clause-owned g c =
    let m = meanings_of g.D.Key.Key.sameness g.D.Service.Endpoint.means g.D.Service.Metric.Weight.order g.D.Discover.feeds g.R.Rng.source in
    let run = c.run-closing in
    owned_all m (making_of c.args.slices c.args.opening) c.args.picks.now c.in_ok-answers.answers _ c.as_mut_slice.result.now run.new.answers run.result.count (state_of run.result.router) c.into_owned.result
    c.into_owned.ensures c.in_ok-answers.ensures c.as_mut_slice.ensures.value run.auto.answers run.ensures.count run.ensures.answers run.ensures.state

pub returns-in_err-answers-clause-promise : goal.returns-in_err-answers-clause-promise
returns-in_err-answers-clause-promise g c =
    let m = meanings_of g.D.Key.Key.sameness g.D.Service.Endpoint.means g.D.Service.Metric.Weight.order g.D.Discover.feeds g.R.Rng.source in
    promised m (making_of c.args.slices c.args.opening) c.args.picks.now

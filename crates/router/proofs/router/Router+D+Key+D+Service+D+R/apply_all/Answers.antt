use Rattle.std.proofs.Common.{arith}
use Rattle.balance_model.specs.Meanings.{meanings_of}
use Rattle.router.specs.Runs.{state_of, from_state}
use Rattle.router.proofs.Applying.{one_more}
use Rattle.router.proofs.router.Router+D+Key+D+Service+D+R.apply_all.Goals as goal

pub loop-i-preserved : goal.loop-i-preserved
loop-i-preserved g c =
    let m = meanings_of g.D.Key.Key.sameness g.D.Service.Endpoint.means g.D.Service.Metric.Weight.order g.D.Discover.feeds g.R.Rng.source in
    one_more m (from_state (state_of c.args.self.now)) c.args.picks.now c.args.answers.now c.loop-i.answers (state_of c.loop-i.self) (state_of c.step.new.self) c.loop-i.i c.index-picks-i.result c.step.result
    (omega arith) (omega arith) c.index-picks-i.is c.loop-i.invariant c.step.ensures.answer c.step.ensures.after

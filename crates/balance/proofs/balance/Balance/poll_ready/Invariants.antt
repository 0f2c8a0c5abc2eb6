use Rattle.std.proofs.Common.{length}
use Rattle.balance_model.specs.Balance.{poll, search_selected}
use Rattle.balance_model.specs.Meanings.{meanings_of}
use Rattle.balance.proofs.Left.{PollLeft}
use Rattle.balance.proofs.balance.Balance.poll_ready.Given as goal

abbrev pub invariant-loop-self : goal.invariant-loop-self
invariant-loop-self g l =
    let m = meanings_of g.D.Key.Key.sameness g.D.Service.Endpoint.means g.D.Service.Metric.Weight.order g.D.Discover.feeds g.R.Rng.source in
    PollLeft (poll m l.at l.fn.self l.fn.cache) (search_selected m l.at l.self.selected l.cache l.self.words) l.lost l.self l.cache

abbrev pub decreases-loop-self : goal.decreases-loop-self
decreases-loop-self g l = length l.cache.ready

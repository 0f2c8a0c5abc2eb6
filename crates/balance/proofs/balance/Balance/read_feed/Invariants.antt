use Rattle.std.proofs.Common.{◌-◌}
use Rattle.balance_model.specs.Balance.{read_feed}
use Rattle.balance_model.specs.Meanings.{meanings_of}
use Rattle.balance.proofs.Left.{FeedLeft}
use Rattle.balance.proofs.balance.Balance.read_feed.Given as goal

abbrev pub invariant-loop-turn : goal.invariant-loop-turn
invariant-loop-turn g l =
    let m = meanings_of g.D.Key.Key.sameness g.D.Service.Endpoint.means g.D.Service.Metric.Weight.order g.D.Discover.feeds g.R.Rng.source in
    FeedLeft
    (read_feed m l.at (l._turn-end - l._turn) l.self.feed l.self.selected l.cache)
    (read_feed m l.at l.initial.self.budget l.initial.self.feed l.initial.self.selected l.initial.cache)
    l.self
    l.initial.self

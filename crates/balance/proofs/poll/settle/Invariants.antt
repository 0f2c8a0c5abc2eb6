use Rattle.std.proofs.Common.{length}
use Rattle.balance_model.specs.Balance.{settle_all}
use Rattle.balance.proofs.Left.{SettleLeft}
use Rattle.balance.proofs.poll.settle.Given as goal

abbrev pub invariant-loop-lost : goal.invariant-loop-lost
invariant-loop-lost g l =
    SettleLeft
    (settle_all g.K.Key.sameness g.S.Endpoint.means l.at l.cache)
    (settle_all g.K.Key.sameness g.S.Endpoint.means l.at l.initial.cache)
    l.lost
    (length l.cache.pending)

abbrev pub decreases-loop-lost : goal.decreases-loop-lost
decreases-loop-lost g l = length l.cache.pending

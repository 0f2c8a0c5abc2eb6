use Rattle.std.proofs.Common.{length}
use Rattle.ready_cache.proofs.Passes.{PassSoFar, turns_left}
use Rattle.ready_cache.proofs.ready_cache.ReadyCache.poll_pending.Given as goal

abbrev pub invariant-loop-ready : goal.invariant-loop-ready
invariant-loop-ready g l = PassSoFar g.K.Key.sameness g.S.Endpoint.means l.at l.initial.ready l.initial.pending l.ready l.pending l.initial.places l.places l.outcome

abbrev pub decreases-loop-ready : goal.decreases-loop-ready
decreases-loop-ready g l = turns_left g.K.Key.sameness g.S.Endpoint.means l.at (length l.initial.pending) l.places l.outcome

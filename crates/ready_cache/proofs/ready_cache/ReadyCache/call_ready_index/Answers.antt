use Rattle.std.proofs.Common.{◌∙◌}
use Rattle.ready_cache.proofs.Steps.{call_after}
use Rattle.ready_cache.proofs.ready_cache.ReadyCache.call_ready_index.Goals as goal

pub returns-clause-after : goal.returns-clause-after
returns-clause-after g c =
    let keys = g.K.Key.sameness in
    let m = g.S.Endpoint.means in
    rw (← c.self.view_is) (c.demote.ensures ∙ call_after keys m c.args.at c.self.inside c.self.invariant c.args.i c.args.request c.in_ok-response.ensures.after c.in_ok-response.ensures.answer)

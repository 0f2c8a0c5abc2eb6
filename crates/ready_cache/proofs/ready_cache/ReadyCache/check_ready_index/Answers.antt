use Rattle.std.proofs.Common.{Ok, sym, ap, ◌∙◌}
use Rattle.ready_cache.proofs.Steps.{check_pending, check_failed}
use Rattle.ready_cache.proofs.ready_cache.ReadyCache.check_ready_index.Goals as goal

pub returns-in-Ok-false-clause-after : goal.returns-in-Ok-false-clause-after
returns-in-Ok-false-clause-after g c =
    let not_yet = sym (ap Ok c.in-Ok-false.field-0-test) ∙ c.in-Ok-false.ensures.answer in
    rw (← c.self.view_is) (c.demote.ensures ∙ check_pending g.K.Key.sameness g.S.Endpoint.means c.args.at c.self.inside c.self.invariant c.args.i c.ask-asked.auto.items c.ask-asked.ensures.after not_yet)

pub returns-in-Err-clause-after : goal.returns-in-Err-clause-after
returns-in-Err-clause-after g c =
    rw (← c.self.view_is) (c.remove.ensures.after ∙ check_failed g.K.Key.sameness g.S.Endpoint.means c.args.at c.self.inside c.self.invariant c.args.i c.ask-asked.auto.items c.ask-asked.ensures.after c.in-Err.ensures.answer)

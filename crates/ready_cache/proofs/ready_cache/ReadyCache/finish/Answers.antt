use Rattle.std.proofs.Common.{sym, ap, ◌∙◌}
use Rattle.cache_model.specs.Lists.{after_finish}
use Rattle.cache_model.specs.Cache.{with_lists}
use Rattle.ready_cache.proofs.Views.{shown, rewritten}
use Rattle.ready_cache.proofs.Steps.{finish_pending}
use Rattle.ready_cache.proofs.ready_cache.ReadyCache.finish.Goals as goal

pub returns-else-finish-clause-after : goal.returns-else-finish-clause-after
returns-else-finish-clause-after g c =
    let m = g.S.Endpoint.means in
    let f = c.self.inside in
    let v = shown f in
    rw (← c.self.view_is)
    (rewritten f c.self.invariant c.finish.new.items c.finish-else-finish.new.items c.finish.auto.items c.finish-else-finish.auto.items
    ∙ ap (λ z. with_lists v z c.finish-else-finish.new.items) c.finish.ensures.after
    ∙ ap (with_lists v (after_finish m c.args.at v.ready c.args.serial c.args.sent)) c.finish-else-finish.ensures.after
    ∙ sym (ap (λ x. x.after) (finish_pending m c.args.at c.args.serial c.args.sent v (sym c.if-finish.ensures.answer))))

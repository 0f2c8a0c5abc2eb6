use Rattle.std.proofs.Common.{is_some, ap, ◌∙◌}
use Rattle.cache_model.specs.Entries.{any_live}
use Rattle.ready_cache.proofs.Lists.{any_live_is}
use Rattle.ready_cache.proofs.ready_cache.ReadyCache.pending_contains.Goals as goal

pub returns : goal.returns
returns g c =
    let keys = g.K.Key.sameness in
    let k = c.args.key.now in
    c.is_some.ensures ∙ ap is_some c.live_position.ensures.answer ∙ any_live_is keys k c.pending.result.now ∙ ap (any_live keys k) c.pending.ensures

use Rattle.std.proofs.Common.{◌≡◌, None, sym, ap, ◌∙◌, slice_get}
use Rattle.cache_model.specs.Cache.{with_lists}
use Rattle.lists.proofs.Slices.{swap_remove_none}
use Rattle.ready_cache.proofs.ready_cache.ReadyCache.demote.Goals as goal

pub returns-in_default : goal.returns-in_default
returns-in_default g c =
    let v = c.args.self.now in
    let none : slice_get v.ready c.args.i ≡ None = sym c.remove.ensures.answer ∙ c.in_default.is in
    rw none (c.remove.ensures.after ∙ ap (λ zs. with_lists v zs v.pending) (swap_remove_none v.ready c.args.i none))

use Rattle.std.proofs.Common.{sym, ap, ◌∙◌, slice_get}
use Rattle.cache_model.specs.Cache.{with_lists}
use Rattle.lists.proofs.Slices.{swap_remove_none, put_back}
use Rattle.ready_cache.proofs.ready_cache.ReadyCache.remove.Goals as goal

pub returns-in_err-entry-clause-after : goal.returns-in_err-entry-clause-after
returns-in_err-entry-clause-after g c =
    let v = c.args.self.now in
    let none = swap_remove_none v.ready c.args.i (sym (c.in_err-entry.ensures.answer ∙ ap (λ w. slice_get w.ready c.args.i) c.self.view_is)) in
    rw (put_back _ _ _ c.in_err-entry.ensures.after) (c.self.view_is ∙ sym (ap (λ zs. with_lists v zs v.pending) none))

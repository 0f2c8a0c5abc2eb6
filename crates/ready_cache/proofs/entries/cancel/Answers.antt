use Rattle.std.proofs.Common.{[], is_some, sym, ap, ◌∙◌}
use Rattle.cache_model.specs.Entries.{with_cancelled, live_of}
use Rattle.ready_cache.proofs.Lists.{changed_at, unchanged, any_live_is, cancel_is}
use Rattle.ready_cache.proofs.entries.cancel.Goals as goal

pub returns-in_default : goal.returns-in_default
returns-in_default g c =
    let m = g.K.Key.sameness in
    let k = c.args.key.now in
    let xs = c.args.items.now in
    let place = c.in_default.ensures.answer in
    record {
      answer = ap is_some place ∙ any_live_is m k xs;
      after = unchanged (live_of m k) with_cancelled xs place ∙ sym (cancel_is m k xs);
    }

pub returns : goal.returns
returns g c =
    let m = g.K.Key.sameness in
    let k = c.args.key.now in
    let xs = c.args.items.now in
    let place = c.in-Some.ensures.answer in
    record {
      answer = ap is_some place ∙ any_live_is m k xs;
      after = changed_at (live_of m k) with_cancelled [] xs c.in-Some.i c.index-items-i.result place ∙ sym (cancel_is m k xs);
    }

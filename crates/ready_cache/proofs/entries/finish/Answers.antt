use Rattle.std.proofs.Common.{[], get_or, set, sym, ap, ◌∙◌}
use Rattle.cache_model.specs.Entries.{with_endpoint, has_serial}
use Rattle.ready_cache.proofs.Lists.{changed_at, unchanged, finish_is}
use Rattle.ready_cache.proofs.entries.finish.Goals as goal

pub returns-in_default-clause-after : goal.returns-in_default-clause-after
returns-in_default-clause-after g c =
    let m = g.S.Endpoint.means in
    let xs = c.args.items.now in
    unchanged (has_serial c.args.serial) (λ z. with_endpoint z (m.finish z.endpoint c.args.sent c.args.at)) xs c.in_default.ensures.answer
    ∙ sym (finish_is m c.args.at xs c.args.serial c.args.sent)

pub returns-clause-after : goal.returns-clause-after
returns-clause-after g c =
    let m = g.S.Endpoint.means in
    let xs = c.args.items.now in
    let i = c.in-Some.i in
    let d = c.index-items-i.result in
    ap (λ s. set xs i (with_endpoint (get_or xs i d) s)) c.finish.ensures
    ∙ changed_at (has_serial c.args.serial) (λ z. with_endpoint z (m.finish z.endpoint c.args.sent c.args.at)) [] xs i d c.in-Some.ensures.answer
    ∙ sym (finish_is m c.args.at xs c.args.serial c.args.sent)

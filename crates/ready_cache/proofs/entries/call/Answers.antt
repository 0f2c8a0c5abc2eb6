use Rattle.std.proofs.Common.{get_or, set, Ok, sym, ap, ◌∙◌}
use Rattle.std.proofs.lemmas.List.{set-get_or}
use Rattle.std.proofs.lemmas.Option.{slice_get-get_or}
use Rattle.service.specs.Meaning.{refused_by}
use Rattle.cache_model.specs.Entries.{with_endpoint}
use Rattle.ready_cache.proofs.Calls.{refused, accepted}
use Rattle.ready_cache.proofs.entries.call.Goals as goal

pub returns-in_err-response-clause-after : goal.returns-in_err-response-clause-after
returns-in_err-response-clause-after g c =
    let m = g.S.Endpoint.means in
    let xs = c.args.items.now in
    let i = c.args.i in
    let d = c.index-items-i.result in
    let e = get_or xs i d in
    let left = m.accept e.endpoint c.args.request c.args.at in
    let no = refused (refused_by m e.endpoint) left.answer e.endpoint left.after c.in_err-response.field-0.0 (sym c.in_err-response.was ∙ c.call.ensures.answer) in
    rw (slice_get-get_or xs i d c.if-i-items.false, no.why) (ap (λ s. set xs i (with_endpoint e s)) (c.call.ensures.after ∙ no.left) ∙ set-get_or xs i d)

pub returns-clause-answer : goal.returns-clause-answer
returns-clause-answer g c =
    let m = g.S.Endpoint.means in
    let xs = c.args.items.now in
    let i = c.args.i in
    let d = c.index-items-i.result in
    let e = get_or xs i d in
    let left = m.accept e.endpoint c.args.request c.args.at in
    let ok = accepted (refused_by m e.endpoint) left.answer e.endpoint left.after c.in_ok-response.response (sym c.in_ok-response.was ∙ c.call.ensures.answer) in
    rw (slice_get-get_or xs i d c.if-i-items.false, ok.why) (ap Ok ok.said)

pub returns-clause-after : goal.returns-clause-after
returns-clause-after g c =
    let m = g.S.Endpoint.means in
    let xs = c.args.items.now in
    let i = c.args.i in
    let d = c.index-items-i.result in
    let e = get_or xs i d in
    let left = m.accept e.endpoint c.args.request c.args.at in
    let ok = accepted (refused_by m e.endpoint) left.answer e.endpoint left.after c.in_ok-response.response (sym c.in_ok-response.was ∙ c.call.ensures.answer) in
    rw (slice_get-get_or xs i d c.if-i-items.false, ok.why) (ap (λ s. set xs i (with_endpoint e s)) (c.call.ensures.after ∙ ok.left))

use Rattle.std.proofs.Common.{Ok, sym, ap, ◌∙◌}
use Rattle.ready_cache.proofs.Passes.{turned_over, turned_ready, turned_pending, turned_failed}
use Rattle.ready_cache.proofs.poll.turn.Goals as goal

pub returns-then-items-read : goal.returns-then-items-read
returns-then-items-read g c =
    let t = turned_over g.S.Endpoint.means c.args.at c.args.items.now c.args.places.now c.index-items-read.result c.requires.within c.if-items-read.true in
    record { answer = sym (ap (λ x. x.answer) t); memory = sym (ap (λ x. x.memory) t); places = sym (ap (λ x. x.places) t) }

pub returns-in-Ok-true : goal.returns-in-Ok-true
returns-in-Ok-true g c =
    let t = turned_ready g.S.Endpoint.means c.args.at c.args.items.now c.args.places.now c.index-items-read.result c.requires.within c.if-items-read.false c.ask.ensures.after c.index-items-read-in-Ok-true.is (sym (ap Ok c.in-Ok-true.field-0-test) ∙ c.in-Ok-true.ensures.answer) in
    record { answer = sym (ap (λ x. x.answer) t); memory = sym (ap (λ x. x.memory) t); places = sym (ap (λ x. x.places) t) }

pub returns-in-Ok-false : goal.returns-in-Ok-false
returns-in-Ok-false g c =
    let t = turned_pending g.S.Endpoint.means c.args.at c.args.items.now c.args.places.now c.index-items-read.result c.requires.within c.if-items-read.false c.ask.ensures.after c.move_down.ensures (sym (ap Ok c.in-Ok-false.field-0-test) ∙ c.in-Ok-false.ensures.answer) in
    record { answer = sym (ap (λ x. x.answer) t); memory = sym (ap (λ x. x.memory) t); places = sym (ap (λ x. x.places) t) }

pub returns-in-Err : goal.returns-in-Err
returns-in-Err g c =
    let t = turned_failed g.S.Endpoint.means c.args.at c.args.items.now c.args.places.now c.index-items-read.result c.requires.within c.if-items-read.false c.ask.ensures.after c.in-Err.ensures.answer in
    record { answer = sym (ap (λ x. x.answer) t); memory = sym (ap (λ x. x.memory) t); places = sym (ap (λ x. x.places) t) }

use Rattle.std.proofs.Common.{◌≡◌, ◌<◌, Ok, sym, refl, ap, ◌∙◌, arith}
use Rattle.std.proofs.lemmas.List.{length-take-le}
use Rattle.lists.proofs.Cases.{err_is}
use Rattle.ready_cache.proofs.Passes.{on_ok, fault_of, fault_none, came, came_over, came_as, turn_told, nearer, nearer_over}
use Rattle.ready_cache.proofs.Polls.{PassStop, stopped_as, poll_told, emptied_none, emptied_some}
use Rattle.ready_cache.proofs.ready_cache.ReadyCache.poll_pending.Goals.{then-loop-ready-test+else-places-pending, else-loop-ready-test}
use Rattle.ready_cache.proofs.ready_cache.ReadyCache.poll_pending.Goals as goal

pub loop-ready-preserved : goal.loop-ready-preserved
loop-ready-preserved g c =
    let keys = g.K.Key.sameness in
    let m = g.S.Endpoint.means in
    let was = on_ok c.loop-ready.outcome c.is_ok.ensures.value c.loop-ready-test.true in
    let so = came_as keys m c.args.at was c.loop-ready.invariant in
    came_as keys m c.args.at (sym was) (came_over keys m c.args.at so.went so.same (omega (arith, c.if-places-pending.true, so.went.pending_long)) c.turn.auto.items (turn_told m c.args.at c.if-places-pending.true c.in_default.ensures.answer c.turn.ensures.memory c.turn.ensures.places))

pub loop-ready-preserved-in-Some : goal.loop-ready-preserved-in-Some
loop-ready-preserved-in-Some g c =
    let keys = g.K.Key.sameness in
    let m = g.S.Endpoint.means in
    let so = came_as keys m c.args.at (on_ok c.loop-ready.outcome c.is_ok.ensures.value c.loop-ready-test.true) c.loop-ready.invariant in
    came keys m c.args.at so.went so.same (omega (arith, c.if-places-pending.true, so.went.pending_long)) c.turn.auto.items c.admit-outcome.auto.items c.in-Some.answer c.admit-outcome.result (turn_told m c.args.at c.if-places-pending.true c.in-Some.ensures.answer c.turn.ensures.memory c.turn.ensures.places) c.admit-outcome.ensures

pub loop-ready-smaller : goal.loop-ready-smaller
loop-ready-smaller g c =
    let keys = g.K.Key.sameness in
    let m = g.S.Endpoint.means in
    let was = on_ok c.loop-ready.outcome c.is_ok.ensures.value c.loop-ready-test.true in
    let so = came_as keys m c.args.at was c.loop-ready.invariant in
    rw was (nearer_over keys m c.args.at _ _ _ c.loop-ready.places _ (omega (arith, c.if-places-pending.true, so.went.pending_long)) (turn_told m c.args.at c.if-places-pending.true c.in_default.ensures.answer c.turn.ensures.memory c.turn.ensures.places))

pub loop-ready-smaller-in-Some : goal.loop-ready-smaller-in-Some
loop-ready-smaller-in-Some g c =
    let keys = g.K.Key.sameness in
    let m = g.S.Endpoint.means in
    let was = on_ok c.loop-ready.outcome c.is_ok.ensures.value c.loop-ready-test.true in
    let so = came_as keys m c.args.at was c.loop-ready.invariant in
    rw was (nearer keys m c.args.at _ _ _ _ _ c.loop-ready.places _ _ c.in-Some.answer c.admit-outcome.result (omega (arith, c.if-places-pending.true, so.went.pending_long)) (turn_told m c.args.at c.if-places-pending.true c.in-Some.ensures.answer c.turn.ensures.memory c.turn.ensures.places) c.admit-outcome.ensures)

pub returns-in_err-outcome : goal.returns-in_err-outcome
returns-in_err-outcome g c =
    let keys = g.K.Key.sameness in
    let m = g.S.Endpoint.means in
    let at = c.loop-ready in
    let after = c.loop-ready-test.self-inside in
    let stop : PassStop keys m c.args.at c.self.inside after c.capacity-capacity.result at.ready at.pending at.places at.outcome =
    elim c.loop-ready-test.branch [
      | then-loop-ready-test+else-places-pending w ↦ stopped_as keys m c.args.at w.self-inside-is (record { ready = refl; pending = refl; next = refl; done = λ _. w.if-places-pending.false })
      | else-loop-ready-test w ↦ stopped_as keys m c.args.at w.self-inside-is (record { ready = refl; pending = refl; next = refl; done = λ h. absurd (fault_none at.outcome c.is_ok.ensures.value w.loop-ready-test.false h) })
    ] in
    let is = poll_told keys m c.args.at c.self.inside after c.self.view_is c.self.invariant c.capacity-capacity.ensures c.min-from.ensures c.in_err-outcome.was at.invariant stop in
    record { answer = err_is c.from_residual.result c.from_residual.ensures.1 ∙ is.1; after = is.2 _ _ c.copy_within.ensures.len c.copy_within.ensures.after refl }

pub returns-then-self-eq0 : goal.returns-then-self-eq0
returns-then-self-eq0 g c =
    let keys = g.K.Key.sameness in
    let m = g.S.Endpoint.means in
    let at = c.loop-ready in
    let after = c.loop-ready-test.self-inside in
    let stop : PassStop keys m c.args.at c.self.inside after c.capacity-capacity.result at.ready at.pending at.places at.outcome =
    elim c.loop-ready-test.branch [
      | then-loop-ready-test+else-places-pending w ↦ stopped_as keys m c.args.at w.self-inside-is (record { ready = refl; pending = refl; next = refl; done = λ _. w.if-places-pending.false })
      | else-loop-ready-test w ↦ stopped_as keys m c.args.at w.self-inside-is (record { ready = refl; pending = refl; next = refl; done = λ h. absurd (fault_none at.outcome c.is_ok.ensures.value w.loop-ready-test.false h) })
    ] in
    let is = poll_told keys m c.args.at c.self.inside after c.self.view_is c.self.invariant c.capacity-capacity.ensures c.min-from.ensures c.in_ok-outcome.was at.invariant stop in
    let none : at.places.write ≡ 0 = omega (arith, c.if-self-eq0.true) in
    record { answer = ap Ok (sym (emptied_none at.pending at.places.write none)) ∙ is.1; after = is.2 _ _ c.copy_within.ensures.len c.copy_within.ensures.after refl }

pub returns : goal.returns
returns g c =
    let keys = g.K.Key.sameness in
    let m = g.S.Endpoint.means in
    let at = c.loop-ready in
    let after = c.loop-ready-test.self-inside in
    let stop : PassStop keys m c.args.at c.self.inside after c.capacity-capacity.result at.ready at.pending at.places at.outcome =
    elim c.loop-ready-test.branch [
      | then-loop-ready-test+else-places-pending w ↦ stopped_as keys m c.args.at w.self-inside-is (record { ready = refl; pending = refl; next = refl; done = λ _. w.if-places-pending.false })
      | else-loop-ready-test w ↦ stopped_as keys m c.args.at w.self-inside-is (record { ready = refl; pending = refl; next = refl; done = λ h. absurd (fault_none at.outcome c.is_ok.ensures.value w.loop-ready-test.false h) })
    ] in
    let is = poll_told keys m c.args.at c.self.inside after c.self.view_is c.self.invariant c.capacity-capacity.ensures c.min-from.ensures c.in_ok-outcome.was at.invariant stop in
    let some : 0 < at.places.write = omega (arith, c.if-self-eq0.false, stop.done (ap fault_of c.in_ok-outcome.was), at.invariant.went.pending_long, length-take-le c.self.inside.pending_count c.self.inside.pending.now (omega (arith, c.self.invariant))) in
    record { answer = ap Ok (sym (emptied_some at.pending at.places.write is.0 some)) ∙ is.1; after = is.2 _ _ c.copy_within.ensures.len c.copy_within.ensures.after refl }

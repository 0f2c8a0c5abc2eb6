use Rattle.std.proofs.Common.{Ok, sym, ap, ◌∙◌}
use Rattle.lists.proofs.Cases.{err_is}
use Rattle.balance_model.specs.Meanings.{meanings_of}
use Rattle.balance.proofs.Reading.{read_stops, read_faults, read_goes_on}
use Rattle.balance.proofs.balance.Balance.read_feed.Goals as goal

pub returns-in_err-read_one : goal.returns-in_err-read_one
returns-in_err-read_one g c =
    let m = meanings_of g.D.Key.Key.sameness g.D.Service.Endpoint.means g.D.Service.Metric.Weight.order g.D.Discover.feeds g.R.Rng.source in
    let a = c.in_err-read_one.ensures in
    rw (err_is c.from_residual.result c.from_residual.ensures.1) (read_faults m c.args.at _ c.loop-turn._turn _ c.loop-turn.self c.read_one.new.self c.loop-turn.cache c.read_one.new.cache _ c.loop-turn-test.true c.loop-turn.invariant a.after a.cache _ a.answer)

pub returns-then-not-branch : goal.returns-then-not-branch
returns-then-not-branch g c =
    let m = meanings_of g.D.Key.Key.sameness g.D.Service.Endpoint.means g.D.Service.Metric.Weight.order g.D.Discover.feeds g.R.Rng.source in
    let a = c.in_ok-read_one.ensures in
    read_stops m c.args.at _ c.loop-turn._turn _ c.loop-turn.self c.read_one.new.self c.loop-turn.cache c.read_one.new.cache _ c.loop-turn-test.true c.loop-turn.invariant a.after a.cache (ap Ok (sym c.if-not-branch.true) ∙ a.answer)

pub loop-turn-preserved : goal.loop-turn-preserved
loop-turn-preserved g c =
    let m = meanings_of g.D.Key.Key.sameness g.D.Service.Endpoint.means g.D.Service.Metric.Weight.order g.D.Discover.feeds g.R.Rng.source in
    let a = c.in_ok-read_one.ensures in
    read_goes_on m c.args.at _ c.loop-turn._turn _ c.loop-turn.self c.read_one.new.self c.loop-turn.cache c.read_one.new.cache _ c.loop-turn-test.true c.loop-turn.invariant a.after a.cache (ap Ok (sym c.if-not-branch.false) ∙ a.answer)

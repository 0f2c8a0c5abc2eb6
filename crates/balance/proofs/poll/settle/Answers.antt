use Rattle.std.proofs.Common.{Ok, sym, ap, ◌∙◌}
use Rattle.balance.proofs.Searching.{settle_falls, settle_goes_on}
use Rattle.balance.proofs.poll.settle.Goals as goal

pub loop-lost-smaller : goal.loop-lost-smaller
loop-lost-smaller g c =
    let a = c.in_ok-loses_one.ensures in
    settle_falls g.K.Key.sameness g.S.Endpoint.means c.args.at c.loop-lost.cache c.loses_one.new.cache _ c.loop-lost.lost a.after c.loop-lost.invariant (ap Ok (sym c.if-branch.true) ∙ a.answer)

pub loop-lost-preserved : goal.loop-lost-preserved
loop-lost-preserved g c =
    let a = c.in_ok-loses_one.ensures in
    settle_goes_on g.K.Key.sameness g.S.Endpoint.means c.args.at c.loop-lost.cache c.loses_one.new.cache _ c.loop-lost.lost a.after c.loop-lost.invariant (ap Ok (sym c.if-branch.true) ∙ a.answer)

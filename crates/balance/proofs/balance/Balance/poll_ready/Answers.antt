use Rattle.std.proofs.Common.{◌≤◌, refl, sym, ap, ◌∙◌, arith}
use Rattle.cache_model.specs.Answers.{by_check}
use Rattle.cache_model.specs.Cache.{worker_count}
use Rattle.balance_model.proofs.Polls.{poll_lawful}
use Rattle.balance_model.specs.Meanings.{meanings_of}
use Rattle.balance.proofs.Polling.{poll_begins}
use Rattle.balance.proofs.Searching.{not_ready, search_falls, search_goes_on}
use Rattle.balance.proofs.balance.Balance.poll_ready.Goals as goal

pub loop-self-init : goal.loop-self-init
loop-self-init g c =
    let m = meanings_of g.D.Key.Key.sameness g.D.Service.Endpoint.means g.D.Service.Metric.Weight.order g.D.Discover.feeds g.R.Rng.source in
    let x = c.candidate-self-inside in
    let fits : worker_count c.settle.new.cache ≤ 4096 = let h : c.len.result ≤ 4096 = c.len.ensures.most in let k = c.len.ensures.count in omega arith in
    poll_begins m c.args.at _ c.args.self.now _ c.read_feed.new.self c.args.cache.now c.read_feed.new.cache c.settle.new.cache c.self.view_is refl c.in_ok-read_feed.ensures c.in_ok-lost.lost _ x.result x.new.cache c.in_ok-lost.ensures fits (c.self-2.view_is ∙ x.ensures.after) x.ensures.answer x.ensures.cache

pub returns-in_default-clause-lawful : goal.returns-in_default-clause-lawful
returns-in_default-clause-lawful g c =
    let m = meanings_of g.D.Key.Key.sameness g.D.Service.Endpoint.means g.D.Service.Metric.Weight.order g.D.Discover.feeds g.R.Rng.source in
    poll_lawful m c.args.at c.args.self.now c.args.cache.now

pub returns-then-unwrap_or-clause-lawful : goal.returns-then-unwrap_or-clause-lawful
returns-then-unwrap_or-clause-lawful g c =
    let m = meanings_of g.D.Key.Key.sameness g.D.Service.Endpoint.means g.D.Service.Metric.Weight.order g.D.Discover.feeds g.R.Rng.source in
    poll_lawful m c.args.at c.args.self.now c.args.cache.now

pub loop-self-smaller : goal.loop-self-smaller
loop-self-smaller g c =
    let m = meanings_of g.D.Key.Key.sameness g.D.Service.Endpoint.means g.D.Service.Metric.Weight.order g.D.Discover.feeds g.R.Rng.source in
    let chosen = sym (ap (λ b. b.selected) c.self-in-loop-self.view_is) ∙ c.in-Some.is in
    let k = c.check_ready_index-checked in
    let unready = not_ready k.result _ c.unwrap_or.result c.unwrap_or.ensures c.if-unwrap_or.false k.ensures.answer in
    let d = c.p2c_ready_index-self-inside in
    search_falls m c.args.at c.loop-self.cache k.new.self d.new.cache c.in-Some.place c.loop-self.self chosen unready k.ensures.after d.ensures.cache c.loop-self.invariant.among

pub loop-self-preserved : goal.loop-self-preserved
loop-self-preserved g c =
    let m = meanings_of g.D.Key.Key.sameness g.D.Service.Endpoint.means g.D.Service.Metric.Weight.order g.D.Discover.feeds g.R.Rng.source in
    let chosen = sym (ap (λ b. b.selected) c.self-in-loop-self.view_is) ∙ c.in-Some.is in
    let k = c.check_ready_index-checked in
    let unready = not_ready k.result _ c.unwrap_or.result c.unwrap_or.ensures c.if-unwrap_or.false k.ensures.answer in
    let counted = c.lost_by-lost.ensures ∙ ap (λ v. by_check v 0 0 1) k.ensures.answer in
    let d = c.p2c_ready_index-self-inside in
    search_goes_on m c.args.at c.loop-self.cache k.new.self d.new.cache c.in-Some.place c.loop-self.self chosen unready k.ensures.after d.ensures.cache _ c.loop-self.lost _ _ d.result c.loop-self.invariant counted (c.self-in-loop-self-2.view_is ∙ d.ensures.after) d.ensures.answer

pub returns-in_err-lost-clause-lawful : goal.returns-in_err-lost-clause-lawful
returns-in_err-lost-clause-lawful g c =
    let m = meanings_of g.D.Key.Key.sameness g.D.Service.Endpoint.means g.D.Service.Metric.Weight.order g.D.Discover.feeds g.R.Rng.source in
    poll_lawful m c.args.at c.args.self.now c.args.cache.now

pub returns-in_err-read_feed-clause-lawful : goal.returns-in_err-read_feed-clause-lawful
returns-in_err-read_feed-clause-lawful g c =
    let m = meanings_of g.D.Key.Key.sameness g.D.Service.Endpoint.means g.D.Service.Metric.Weight.order g.D.Discover.feeds g.R.Rng.source in
    poll_lawful m c.args.at c.args.self.now c.args.cache.now

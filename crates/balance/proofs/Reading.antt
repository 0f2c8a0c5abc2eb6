-- One turn of reading the feed.
use Rattle.std.specs.Net.Reader.{map_or}
use Rattle.std.proofs.Common.{◌≡◌, ℕ, suc, ◌+◌, ◌-◌, ◌<◌, Bool, true, false, cond, Some, None, Ok, Err, Option, Result, sym, refl, ap, ◌∙◌, arith}
use Rattle.lists.specs.Options.{by_result}
use Rattle.cache_model.specs.Cache.{Cache}
use Rattle.balance_model.specs.declared.answer.PollError.{PollError}
use Rattle.balance_model.specs.Meanings.{Meanings}
use Rattle.balance_model.specs.Balance.{Balancer, FeedOutcome, FeedAnswer, read_one, read_feed, with_pushes, feed_end}
use Rattle.balance.specs.Steps.{with_feed_answer, ReadsFeedAs}
use Rattle.balance.proofs.Left.{FeedLeft}

module _ {K S Q A E W D F R : Type 0} (m : Meanings K S Q A E W D F R) (now n i : ℕ) (before b b' : Balancer D R) (c c' : Cache K S) (whole : FeedOutcome K S D F)
    (below : i < n)
    (left : FeedLeft (read_feed m now (n - i) b.feed b.selected c) whole b before)
    (after : b' ≡ with_feed_answer b (read_one m.keys m.feeds now b.feed b.selected c))
    (cache : c' ≡ (read_one m.keys m.feeds now b.feed b.selected c).cache)
  where
    abbrev one : FeedAnswer K S D F
    one = read_one m.keys m.feeds now b.feed b.selected c

    abbrev going : Result Bool (PollError K F) → FeedOutcome K S D F
    going v = by_result v (λ more. cond more (with_pushes one.pushes (read_feed m now (n - (i + 1)) one.feed one.selected one.cache)) (feed_end one None)) (λ e. feed_end one (Some e))

    -- what was left is this answer, and what follows it
    turned : (v : Result Bool (PollError K F)) → one.answer ≡ v → read_feed m now (n - i) b.feed b.selected c ≡ going v
    turned v e =
        let q : n - i ≡ suc (n - (i + 1)) = omega arith in
        ap (λ (k : ℕ). read_feed m now k b.feed b.selected c) q ∙ ap going e

    -- the feed has no more for now, or a fault ended the reading
    ends : (v : Result Bool (PollError K F)) (fault : Option (PollError K F)) → one.answer ≡ v → going v ≡ feed_end one fault → ReadsFeedAs whole (map_or fault (Ok tt) Err) before b' c'
    ends v fault e g =
        let t : read_feed m now (n - i) b.feed b.selected c ≡ feed_end one fault = turned v e ∙ g in
        let feed : one.feed ≡ whole.feed = sym (ap (λ (f : FeedOutcome K S D F). f.feed) t) ∙ left.feed in
        let selected : one.selected ≡ whole.selected = sym (ap (λ (f : FeedOutcome K S D F). f.selected) t) ∙ left.selected in
        record {
          answer = ap (λ (o : Option (PollError K F)). map_or o (Ok tt) Err) (sym (ap (λ (f : FeedOutcome K S D F). f.fault) t) ∙ left.fault);
          balancer = after ∙ (let r = left.words in let u = left.budget in let f = left.fresh in cc);
          cache = cache ∙ sym (ap (λ (f : FeedOutcome K S D F). f.cache) t) ∙ left.cache;
        }

    pub read_stops : Ok false ≡ one.answer → ReadsFeedAs whole (Ok tt) before b' c'
    read_stops e = ends (Ok false) None (sym e) refl

    pub read_faults : (x : PollError K F) → Err x ≡ one.answer → ReadsFeedAs whole (Err x) before b' c'
    read_faults x e = ends (Err x) (Some x) (sym e) refl

    pub read_goes_on : Ok true ≡ one.answer → FeedLeft (read_feed m now (n - (i + 1)) b'.feed b'.selected c') whole b' before
    read_goes_on e =
        let rest : FeedOutcome K S D F = read_feed m now (n - (i + 1)) one.feed one.selected one.cache in
        let t : read_feed m now (n - i) b.feed b.selected c ≡ with_pushes one.pushes rest = turned (Ok true) (sym e) in
        let same : read_feed m now (n - (i + 1)) b'.feed b'.selected c' ≡ rest =
        ap (λ (x : Balancer D R). read_feed m now (n - (i + 1)) x.feed x.selected c') after ∙ ap (λ (x : Cache K S). read_feed m now (n - (i + 1)) one.feed one.selected x) cache in
        record {
          feed = ap (λ (f : FeedOutcome K S D F). f.feed) same ∙ sym (ap (λ (f : FeedOutcome K S D F). f.feed) t) ∙ left.feed;
          selected = ap (λ (f : FeedOutcome K S D F). f.selected) same ∙ sym (ap (λ (f : FeedOutcome K S D F). f.selected) t) ∙ left.selected;
          cache = ap (λ (f : FeedOutcome K S D F). f.cache) same ∙ sym (ap (λ (f : FeedOutcome K S D F). f.cache) t) ∙ left.cache;
          fault = ap (λ (f : FeedOutcome K S D F). f.fault) same ∙ sym (ap (λ (f : FeedOutcome K S D F). f.fault) t) ∙ left.fault;
          words = ap (λ (x : Balancer D R). x.words) after ∙ left.words;
          budget = ap (λ (x : Balancer D R). x.budget) after ∙ left.budget;
          fresh = ap (λ (x : Balancer D R). x.fresh) after ∙ left.fresh;
        }

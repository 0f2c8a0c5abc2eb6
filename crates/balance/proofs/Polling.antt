-- Where the search of a poll begins.
use Rattle.std.specs.Net.Reader.{map_or}
use Rattle.std.proofs.Common.{◌≡◌, ℕ, ◌≤◌, false, [], Some, None, Ok, Err, Option, Result, sym, refl, ap, ◌∙◌, subst, ap₂, add-zero, arith}
use Rattle.cache_model.specs.Cache.{Cache, worker_count}
use Rattle.balance_model.specs.declared.answer.PollError.{PollError}
use Rattle.balance_model.specs.Answers.{no_place}
use Rattle.balance_model.specs.Meanings.{Meanings}
use Rattle.balance_model.specs.Balance.{Balancer, FeedOutcome, read_feed, PassesOutcome, settle_all, SearchOutcome, search_selected, PollOutcome, poll_end, poll_fault, poll}
use Rattle.balance.proofs.Calling.{admitted}
use Rattle.balance.specs.Steps.{with_selected, with_words, ReadsFeedAs, PassesAs, candidate}
use Rattle.balance.proofs.Left.{PollLeft}
use Rattle.balance.proofs.Searching.{ComesTo, comes_on, begins}

not_stuck : {K F : Type 0} (o : Option K) (n k : ℕ) → ◌≡◌ {A = Result ℕ (PollError K F)} (Ok n) (map_or o (Ok k) (λ x. Err (no_place x))) → (o ≡ None) × (n ≡ k)
not_stuck None n k e = (refl, cc)
not_stuck (Some x) n k e = cc

module _ {K S Q A E W D F R : Type 0} (m : Meanings K S Q A E W D F R) (now : ℕ) (b b' b₀ b₁ : Balancer D R) (c c₁ c₂ : Cache K S)
    (opened : b ≡ b')
    (stale : b₀ ≡ record { feed = b.feed; words = b.words; budget = b.budget; selected = b.selected; fresh = false })
    (fed_as : ReadsFeedAs (read_feed m now b.budget b.feed b.selected c) (Ok tt) b₀ b₁ c₁)
  where
    abbrev fed : FeedOutcome K S D F
    fed = read_feed m now b.budget b.feed b.selected c

    abbrev settled : PassesOutcome K S E
    settled = settle_all m.keys m.endpoints now fed.cache

    abbrev sought : SearchOutcome K S E R
    sought = search_selected m now fed.selected settled.cache b.words

    fault_none : fed.fault ≡ None
    fault_none = admitted fed.fault fed_as.answer

    first_balancer : b₁ ≡ record { feed = fed.feed; words = b.words; budget = b.budget; selected = fed.selected; fresh = false }
    first_balancer = fed_as.balancer ∙ ap (λ (x : Balancer D R). record { feed = fed.feed; words = x.words; budget = x.budget; selected = fed.selected; fresh = x.fresh }) stale

    -- what a poll comes to, by its parts
    abbrev put_together : Option (PollError K F) → Option K → PollOutcome K S E D F R
    put_together fault stuck =
        map_or fault
        (map_or stuck (poll_end m now b fed settled sought) (λ k. poll_fault m now b fed (no_place k) settled.cache settled.asked))
        (λ f. poll_fault m now b fed f fed.cache [])

    -- ---- the search of the poll begins

    pub poll_begins : (n : ℕ) (b₂ : Balancer D R) (place : Option ℕ) (c₃ : Cache K S) → PassesAs {F = F} (settle_all m.keys m.endpoints now c₁) (Ok n) c₂ → worker_count c₂ ≤ 4096 →
        let x = candidate m now b₁.selected c₂ b₁.words in
        b₂ ≡ with_words b₁ x.words → place ≡ x.place → c₃ ≡ x.cache →
        PollLeft (poll m now b' c) (search_selected m now place c₃ b₂.words) n (with_selected b₂ place) c₃
    poll_begins n b₂ place c₃ at_first fits after first_place cache =
        let s : PassesAs {F = F} settled (Ok n) c₂ = subst (λ (z : Cache K S). PassesAs {F = F} (settle_all m.keys m.endpoints now z) (Ok n) c₂) fed_as.cache at_first in
        let k = not_stuck {F = F} settled.stuck n settled.lost s.answer in
        let whole : poll m now b' c ≡ poll_end m now b fed settled sought = ap (λ (x : Balancer D R). poll m now x c) (sym opened) ∙ ap₂ put_together fault_none k.0 in
        let x = candidate m now b₁.selected c₂ b₁.words in
        let first : SearchOutcome K S E R = search_selected m now b₁.selected c₂ b₁.words in
        let chosen : b₁.selected ≡ fed.selected = ap (λ (x : Balancer D R). x.selected) first_balancer in
        let words : b₁.words ≡ b.words = ap (λ (x : Balancer D R). x.words) first_balancer in
        let same : sought ≡ first =
        ap (λ (o : Option ℕ). search_selected m now o settled.cache b.words) (sym chosen) ∙ ap (λ (z : Cache K S). search_selected m now b₁.selected z b.words) (sym s.cache) ∙ ap (λ (r : R). search_selected m now b₁.selected c₂ r) (sym words) in
        let comes : ComesTo (poll m now b' c) sought settled.lost fed.feed b.budget = record {
          answer = ap (λ (p : PollOutcome K S E D F R). p.answer) whole;
          balancer = ap (λ (p : PollOutcome K S E D F R). p.balancer) whole;
          cache = ap (λ (p : PollOutcome K S E D F R). p.cache) whole;
        } in
        let from : ComesTo (poll m now b' c) first n b₁.feed b₁.budget =
        subst (λ (x : D). ComesTo (poll m now b' c) first n x b₁.budget) (sym (ap (λ (y : Balancer D R). y.feed) first_balancer))
        (subst (λ (x : ℕ). ComesTo (poll m now b' c) first n fed.feed x) (sym (ap (λ (y : Balancer D R). y.budget) first_balancer))
        (subst (λ (x : ℕ). ComesTo (poll m now b' c) first x fed.feed b.budget) (sym k.1)
        (subst (λ (z : SearchOutcome K S E R). ComesTo (poll m now b' c) z settled.lost fed.feed b.budget) same comes))) in
        let g = begins m now c₂ b₁.words b₁.selected in
        let last : SearchOutcome K S E R = search_selected m now x.place x.cache x.words in
        let on = subst (λ (k : ℕ). ComesTo (poll m now b' c) last k b₁.feed b₁.budget) (add-zero n) (comes_on (poll m now b' c) first last n 0 b₁.feed b₁.budget g.leaves from) in
        let few : n ≤ 4096 = s.few in
        let held_same = g.same in
        let is : with_selected b₂ place ≡ with_selected (with_words b₁ x.words) x.place = ap (λ (y : Balancer D R). with_selected y place) after ∙ ap (λ (o : Option ℕ). with_selected (with_words b₁ x.words) o) first_place in
        subst (λ (y : Balancer D R). PollLeft (poll m now b' c) (search_selected m now y.selected c₃ y.words) n y c₃) (sym is)
        (subst (λ (z : Cache K S). PollLeft (poll m now b' c) (search_selected m now x.place z x.words) n (with_selected (with_words b₁ x.words) x.place) z) (sym cache)
        (record { answer = on.answer; balancer = on.balancer; cache = on.cache; stale = ap (λ (y : Balancer D R). y.fresh) first_balancer; among = g.among; nobody = g.nobody; fits = omega arith }))

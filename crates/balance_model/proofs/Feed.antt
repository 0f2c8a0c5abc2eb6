-- What reading the feed does: workers come in under new serials, each with its count.
use Rattle.lists.specs.Options.{by_result}
use Rattle.lists.specs.Sums.{one_if}
use Rattle.lists.proofs.Cases.{cond_case, result_case}
use Rattle.lists.proofs.Totals.{total, total_mono}
use Rattle.service.specs.Meaning.{Sameness, Endpoints}
use Rattle.cache_model.specs.Entries.{ready_place}
use Rattle.cache_model.specs.Cache.{Cache, push, evict, with_worker}
use Rattle.cache_model.proofs.Keys.{one_if_le}
use Rattle.cache_model.proofs.Steps.{sum_held, Single, Keeps, evict_keeps}
use Rattle.cache_model.proofs.Serials.{is_serial, is_pair, pair_serial}
use Rattle.cache_model.proofs.Pushes.{push_taken, push_refused, pushed_sum, pushed_single}
use Rattle.balance_model.specs.Meanings.{Meanings}
use Rattle.balance_model.specs.Balance.{Arrival, FeedOutcome, with_pushes, read_feed, still_selected, FeedAnswer, feed_end}
use Rattle.balance_model.specs.History.{count_in_pushes}
use Rattle.balance_model.proofs.Cases.{discovered_case}
use Rattle.std.proofs.Common.{◌≡◌, ℕ, zero, suc, ◌+◌, ◌<◌, ◌≤◌, Bool, true, false, cond, ◌&&◌, ◌||◌, eqb, ◌⊎◌, [], ◌∷◌, length, Some, None, Option, sym, refl, ap, subst, inl, inr, arith}
use Rattle.std.proofs.lemmas.Bool.{ne_eqb, eqb-true}
use Rattle.std.proofs.lemmas.Bool.Decides.{eqb_tells}

module _ {K S Q A E W : Type 0} (keys : Sameness K) (ends : Endpoints S Q A E W) where
  abbrev pub of_push : (ℕ → ℕ → ℕ) → Arrival S → ℕ
  of_push f p = f p.serial (ends.count p.worker)

  pub record FedRight {D F : Type 0} (c : Cache K S) (fed : FeedOutcome K S D F) : Type 0 where
    pub sums : (f : ℕ → ℕ → ℕ) → sum_held keys ends f fed.cache ≤ sum_held keys ends f c + total (of_push f) fed.pushes
    pub single : Single keys ends c → Single keys ends fed.cache
    pub grows : c.next ≤ fed.cache.next
    pub below : (s : ℕ) → s < c.next → total (of_push (is_serial s)) fed.pushes ≡ 0
    pub above : (s : ℕ) → fed.cache.next ≤ s → total (of_push (is_serial s)) fed.pushes ≡ 0
    pub once : (s : ℕ) → total (of_push (is_serial s)) fed.pushes ≤ 1
    pub brings_none : (s : ℕ) → s < c.next → count_in_pushes ends.count s fed.pushes ≡ None
    pub brings : (s n : ℕ) → 1 ≤ total (of_push (is_pair s n)) fed.pushes → count_in_pushes ends.count s fed.pushes ≡ Some n

  stays : {D F : Type 0} (c : Cache K S) (fed : FeedOutcome K S D F) → fed.cache ≡ c → fed.pushes ≡ [] → FedRight c fed
  stays c fed e p = record {
    sums = λ f. let h : sum_held keys ends f fed.cache ≡ sum_held keys ends f c = ap (sum_held keys ends f) e in omega arith;
    single = λ s. subst (Single keys ends) (sym e) s;
    grows = let h : fed.cache.next ≡ c.next = ap (λ (x : Cache K S). x.next) e in omega arith;
    below = λ s h. ap (total (of_push (is_serial s))) p;
    above = λ s h. ap (total (of_push (is_serial s))) p;
    once = λ s. let h : total (of_push (is_serial s)) fed.pushes ≡ 0 = ap (total (of_push (is_serial s))) p in omega arith;
    brings_none = λ s h. ap (count_in_pushes ends.count s) p;
    brings = λ s n h. let z : total (of_push (is_pair s n)) fed.pushes ≡ 0 = ap (total (of_push (is_pair s n))) p in absurd (omega arith);
  }

  keeps_then : {D F : Type 0} (c c' : Cache K S) (fed : FeedOutcome K S D F) → Keeps keys ends c c' → FedRight c' fed → FedRight c fed
  keeps_then c c' fed k r = let e = k.next in record {
    sums = λ f. let a = k.sums f in let b = r.sums f in omega arith;
    single = λ s. r.single (k.single s);
    grows = let g = r.grows in omega arith;
    below = λ s h. r.below s (omega arith);
    above = r.above;
    once = r.once;
    brings_none = λ s h. r.brings_none s (omega arith);
    brings = r.brings;
  }

  pushing_right : {D F : Type 0} (c : Cache K S) (k : K) (s : S) (fed : FeedOutcome K S D F) → FedRight (with_worker keys c k s) fed → FedRight c (with_pushes (record { serial = c.next; worker = s } ∷ []) fed)
  pushing_right c k s fed r = record {
    sums = λ f. let a = r.sums f in let b = pushed_sum keys ends f c k s in omega arith;
    single = λ h. r.single (pushed_single keys ends c k s h);
    grows = let g = r.grows in omega arith;
    below = λ x h. let z : one_if (eqb c.next x) ≡ 0 = ap one_if (ne_eqb c.next x (omega arith)) in let a = r.below x (omega arith) in omega arith;
    above = λ x h. let g = r.grows in let z : one_if (eqb c.next x) ≡ 0 = ap one_if (ne_eqb c.next x (omega arith)) in let a = r.above x h in omega arith;
    once = λ x. once_go x (eqb_tells c.next x);
    brings_none = λ x h. let z : eqb c.next x ≡ false = ne_eqb c.next x (omega arith) in let a = r.brings_none x (omega arith) in rw z a;
    brings = λ x n h. brings_go x n h (eqb_tells c.next x);
  }
    where
      once_go : (x : ℕ) → ((eqb c.next x ≡ true) × (c.next ≡ x)) ⊎ ((eqb c.next x ≡ false) × (c.next ≡ x → ⊥)) → one_if (eqb c.next x) + total (of_push (is_serial x)) fed.pushes ≤ 1
      once_go x (inl t) = let o = one_if_le (eqb c.next x) in let q = t.1 in let a = r.below x (omega arith) in omega arith
      once_go x (inr t) = let z : one_if (eqb c.next x) ≡ 0 = ap one_if t.0 in let a = r.once x in omega arith

      brings_go : (x n : ℕ) → 1 ≤ one_if (eqb c.next x && eqb (ends.count s) n) + total (of_push (is_pair x n)) fed.pushes →
          ((eqb c.next x ≡ true) × (c.next ≡ x)) ⊎ ((eqb c.next x ≡ false) × (c.next ≡ x → ⊥)) →
          cond (eqb c.next x) (Some (ends.count s)) (count_in_pushes ends.count x fed.pushes) ≡ Some n
      brings_go x n h (inl t) =
          let q = t.1 in
          let a = r.below x (omega arith) in
          let l = total_mono (of_push (is_pair x n)) (of_push (is_serial x)) (λ p. pair_serial x n p.serial (ends.count p.worker)) fed.pushes in
          let g : 1 ≤ one_if (eqb c.next x && eqb (ends.count s) n) = omega arith in
          rw t.0 (ap Some (same_count (eqb (ends.count s) n) refl (rw t.0 at g)))
        where
          same_count : (b : Bool) → eqb (ends.count s) n ≡ b → 1 ≤ one_if b → ends.count s ≡ n
          same_count true e h = eqb-true (ends.count s) n e
          same_count false e h = absurd (omega arith)
      brings_go x n h (inr t) =
          let z : one_if (eqb c.next x && eqb (ends.count s) n) ≡ 0 = rw t.0 refl in
          rw t.0 (r.brings x n (omega arith))

was_selected : (selected : Option ℕ) (n : ℕ) (gone : Option ℕ) (i : ℕ) → still_selected selected n gone ≡ Some i → selected ≡ Some i
was_selected selected n None i e = e
was_selected None n (Some gone) i e = cc
was_selected (Some j) n (Some gone) i e =
    cond_case (λ (o : Option ℕ). o ≡ Some i → Some j ≡ Some i) (eqb j gone || eqb (suc j) n) _ _
    (λ _ e. cc)
    (λ _ e. e)
    e

module _ {K S Q A E W D F R : Type 0} (m : Meanings K S Q A E W D F R) (now : ℕ) where
  pub read_feed_right : (budget : ℕ) (d : D) (selected : Option ℕ) (c : Cache K S) → FedRight m.keys m.endpoints c (read_feed m now budget d selected c)
  read_feed_right zero d selected c = stays m.keys m.endpoints c _ refl refl
  read_feed_right (suc budget) d selected c =
      let left = m.feeds.poll_discover d now in
      let going : FeedAnswer K S D F → FeedOutcome K S D F = λ r. by_result r.answer (λ more. cond more (with_pushes r.pushes (read_feed m now budget r.feed r.selected r.cache)) (feed_end r None)) (λ e. feed_end r (Some e)) in
      let Goal : FeedAnswer K S D F → Type 0 = λ r. FedRight m.keys m.endpoints c (going r) in
      discovered_case Goal left.answer _ _ _ _
      (stays m.keys m.endpoints c _ refl refl)
      (λ x. stays m.keys m.endpoints c _ refl refl)
      (λ k s.
      let p = push m.keys c k s in
      let more = read_feed m now budget left.after selected p.after in
      let ih = read_feed_right budget left.after selected p.after in
      result_case Goal p.answer _ _
      (λ serial e.
      let t = push_taken m.keys m.endpoints c k s serial e in
      subst (λ (x : ℕ). FedRight m.keys m.endpoints c (with_pushes (record { serial = x; worker = s } ∷ []) more)) (sym t.0)
      (pushing_right m.keys m.endpoints c k s more (subst (λ (x : Cache K S). FedRight m.keys m.endpoints x more) t.1 ih)))
      (λ e refusal. stays m.keys m.endpoints c _ (push_refused m.keys m.endpoints c k s e refusal) refl))
      (λ k. keeps_then m.keys m.endpoints c (evict m.keys c k).after _ (evict_keeps m.keys m.endpoints c k)
      (read_feed_right budget left.after (still_selected selected (length c.ready) (ready_place m.keys k c.ready)) (evict m.keys c k).after))

  -- what is selected after the feed was read was so before
  pub read_feed_selected : (budget : ℕ) (d : D) (selected : Option ℕ) (c : Cache K S) (i : ℕ) → (read_feed m now budget d selected c).selected ≡ Some i → selected ≡ Some i
  read_feed_selected zero d selected c i = λ e. e
  read_feed_selected (suc budget) d selected c i =
      let left = m.feeds.poll_discover d now in
      let going : FeedAnswer K S D F → FeedOutcome K S D F = λ r. by_result r.answer (λ more. cond more (with_pushes r.pushes (read_feed m now budget r.feed r.selected r.cache)) (feed_end r None)) (λ e. feed_end r (Some e)) in
      let Goal : FeedAnswer K S D F → Type 0 = λ r. (going r).selected ≡ Some i → selected ≡ Some i in
      discovered_case Goal left.answer _ _ _ _
      (λ e. e)
      (λ x e. e)
      (λ k s.
      let p = push m.keys c k s in
      result_case Goal p.answer _ _
      (λ serial _. read_feed_selected budget left.after selected p.after i)
      (λ _ _ e. e))
      (λ k e.
      let place = ready_place m.keys k c.ready in
      was_selected selected (length c.ready) place i (read_feed_selected budget left.after (still_selected selected (length c.ready) place) (evict m.keys c k).after i e))

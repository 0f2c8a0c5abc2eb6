-- A poll keeps what holds.
use Rattle.std.specs.List.{AllByRecursion}
use Rattle.std.specs.Net.Reader.{map_or}
use Rattle.lists.specs.Lists.{last_of}
use Rattle.lists.proofs.Cases.{some_case}
use Rattle.lists.proofs.Totals.{total, total_mono}
use Rattle.lists.proofs.Places.{last_append, each_map}
use Rattle.service.specs.declared.poll.Poll.{Poll}
use Rattle.service.specs.Answers.{poll_report}
use Rattle.cache_model.specs.declared.entry.Entry.{Entry}
use Rattle.cache_model.specs.Cache.{Cache}
use Rattle.cache_model.proofs.Steps.{sum_held, Keeps, of_worker, keeps_refl, keeps_trans}
use Rattle.cache_model.proofs.Serials.{is_serial, is_pair, pair_serial}
use Rattle.balance_model.specs.declared.answer.Polled.{Polled}
use Rattle.balance_model.specs.declared.answer.PollError.{PollError}
use Rattle.balance_model.specs.Answers.{named_serial}
use Rattle.balance_model.specs.Meanings.{Meanings}
use Rattle.docket.specs.Docket.{Docket}
use Rattle.balance_model.specs.Balance.{Balancer, Step, asks, questions_in, draws_in, FeedOutcome, read_feed, PassesOutcome, settle, SearchOutcome, search_selected, PollOutcome, poll, poll_end, serial_at}
use Rattle.balance_model.specs.Search.{search_in, Search}
use Rattle.balance_model.specs.History.{History, polled, selected_serial, count_in_pushes, count_at_push, ready_question}
use Rattle.balance_model.specs.Promise.{CountRight, DrawRight, PollsSearched}
use Rattle.balance_model.specs.Polls.{selected_after_feed, cache_after_passes, place_still_selected, PollLawful}
use Rattle.balance_model.proofs.Search.{settle_keeps, select_keeps}
use Rattle.balance_model.proofs.Feed.{FedRight, of_push, read_feed_right, read_feed_selected}
use Rattle.balance_model.proofs.Kept.{settle_key, read_feed_key}
use Rattle.balance_model.proofs.Naming.{Grants, SoughtRight, select_right}
use Rattle.balance_model.proofs.Logs.{questions_after_asks, draws_after_asks, search_after_asks, search_alone, draws_of_asks, search_of_asks}
use Rattle.balance_model.proofs.Searches.{select_search, selected_among}
use Rattle.balance_model.proofs.Taken.{DrawsTook, poll_took}
use Rattle.balance_model.proofs.Nobody.{NobodyLeft, select_nobody}
use Rattle.balance_model.proofs.Holds.{Holds, Open}
use Rattle.std.proofs.Common.{◌≡◌, ℕ, suc, ◌<◌, ◌≤◌, Bool, true, false, IsTrue, is_some, ◌⊎◌, List, [], ◌∷◌, ◌++◌, length, map, Some, None, Ok, Err, Option, Result, sym, refl, ap, ◌∙◌, subst, inl, inr, arith, IsSomeAnd}
use Rattle.std.proofs.lemmas.Bool.{cases_lt}
use Rattle.service.specs.declared.poll.Poll.TheVariants.{Ready, Pending}

module _ {K S Q A E W D F R : Type 0} (m : Meanings K S Q A E W D F R) (now : ℕ) where
  -- what a poll leaves, as what reading a feed leaves
  abbrev as_fed : PollOutcome K S E D F R → FeedOutcome K S D F
  as_fed p = record { feed = p.balancer.feed; selected = p.balancer.selected; cache = p.cache; pushes = p.log.pushes; fault = None }

  -- the selected worker granted, and is the one named
  abbrev Found : PollOutcome K S E D F R → Type 0
  Found p = (i : ℕ) × (p.balancer.selected ≡ Some i) × (g : Grants m.endpoints now p.cache.ready (questions_in p.log.steps) i) × (named_serial p.answer ≡ Some g.entry.serial)

  record PollRight (b : Balancer D R) (c : Cache K S) (p : PollOutcome K S E D F R) : Type 0 where
    fed : FedRight m.keys m.endpoints c (as_fed p)
    fair : AllByRecursion (DrawRight m.endpoints m.weights now) (draws_in p.log.steps)
    searched : (over : Polled) → p.answer ≡ Ok over → Search m.endpoints now (cache_after_passes m now b c).ready (place_still_selected m now b c) (search_in p.log.steps) p.cache.ready
    unsearched : (fault : PollError K F) → p.answer ≡ Err fault → search_in p.log.steps ≡ []
    marked : (over : Polled) → p.answer ≡ Ok over → (i : ℕ) → p.balancer.selected ≡ Some i → p.balancer.fresh ≡ true
    known : (fault : PollError K F) → p.answer ≡ Err fault → (i : ℕ) → p.balancer.selected ≡ Some i → b.selected ≡ Some i
    found : p.balancer.fresh ≡ true → Found p
    nobody : p.balancer.fresh ≡ false → named_serial p.answer ≡ None
    empty : (lost : ℕ) → p.answer ≡ Ok (record { worker = Pending; lost = lost }) → p.cache.ready ≡ []

  then_keeps : (c : Cache K S) (fed p : FeedOutcome K S D F) → FedRight m.keys m.endpoints c fed → Keeps m.keys m.endpoints fed.cache p.cache → p.pushes ≡ fed.pushes → FedRight m.keys m.endpoints c p
  then_keeps c fed p r k e =
      let n = k.next in
      let same : (f : ℕ → ℕ → ℕ) → total (of_push m.keys m.endpoints f) p.pushes ≡ total (of_push m.keys m.endpoints f) fed.pushes = λ f. ap (total (of_push m.keys m.endpoints f)) e in
      record {
        sums = λ f. let a = r.sums f in let b = k.sums f in let q = same f in omega arith;
        single = λ s. k.single (r.single s);
        grows = let g = r.grows in omega arith;
        below = λ s h. same (is_serial s) ∙ r.below s h;
        above = λ s h. same (is_serial s) ∙ r.above s (omega arith);
        once = λ s. let a = r.once s in let q = same (is_serial s) in omega arith;
        brings_none = λ s h. ap (count_in_pushes m.endpoints.count s) e ∙ r.brings_none s h;
        brings = λ s n h. let q = same (is_pair s n) in ap (count_in_pushes m.endpoints.count s) e ∙ r.brings s n (omega arith);
      }

  false_true : {P : Type 0} → false ≡ true → P
  false_true e = cc

  not_faulted : {P : Type 0} {x : PollError K F} {y : Polled} → ◌≡◌ {A = Result Polled (PollError K F)} (Ok y) (Err x) → P
  not_faulted {P} {x} {y} e = cc

  not_ended : {P : Type 0} {x : PollError K F} {y : Polled} → ◌≡◌ {A = Result Polled (PollError K F)} (Err x) (Ok y) → P
  not_ended {P} {x} {y} e = cc

  poll_right : (b : Balancer D R) (c : Cache K S) → PollRight b c (poll m now b c)
  poll_right b c =
      let fed = read_feed m now b.budget b.feed b.selected c in
      let fuel : ℕ = suc (length fed.cache.pending) in
      let settled = settle m.keys m.endpoints now fuel fed.cache in
      let sought = search_selected m now fed.selected settled.cache b.words in
      let r = read_feed_right m now b.budget b.feed b.selected c in
      let one = settle_keeps m now fuel fed.cache in
      let two = keeps_trans m.keys m.endpoints fed.cache settled.cache sought.cache one (select_keeps m now fed.selected settled.cache b.words) in
      let Goal : PollOutcome K S E D F R → Type 0 = PollRight b c in
      some_case Goal fed.fault _ _
      (λ _. some_case Goal settled.stuck _ _
      (λ _. ended_right b c fed settled sought (then_keeps c fed _ r two refl) (select_right m now fed.selected settled.cache b.words) (select_nobody m now fed.selected settled.cache b.words)
      (select_search m now fed.selected settled.cache b.words))
      (λ k _. record { fed = then_keeps c fed _ r one refl; fair = subst (AllByRecursion (DrawRight m.endpoints m.weights now)) (sym (draws_of_asks K S settled.asked)) tt; searched = λ _ e. not_ended e; marked = λ _ e. not_ended e; unsearched = λ _ _. search_of_asks K S settled.asked; known = λ _ _ i e. read_feed_selected m now b.budget b.feed b.selected c i e; found = λ e. false_true e; nobody = λ _. refl; empty = λ _ e. not_ended e }))
      (λ x e. record { fed = then_keeps c fed _ r (keeps_refl m.keys m.endpoints fed.cache) refl; fair = tt; searched = λ _ e. not_ended e; marked = λ _ e. not_ended e; unsearched = λ _ _. refl; known = λ _ _ i e. read_feed_selected m now b.budget b.feed b.selected c i e; found = λ e. false_true e; nobody = λ _. refl; empty = λ _ e. not_ended e })
    where
      ended_right : (b : Balancer D R) (c : Cache K S) (fed : FeedOutcome K S D F) (settled : PassesOutcome K S E) (sought : SearchOutcome K S E R) → FedRight m.keys m.endpoints c (as_fed (poll_end m now b fed settled sought)) → SoughtRight m.endpoints m.weights now sought → NobodyLeft m now sought →
          Search m.endpoints now (cache_after_passes m now b c).ready (place_still_selected m now b c) sought.steps sought.cache.ready → PollRight b c (poll_end m now b fed settled sought)
      ended_right b c fed settled sought r right none search = record {
        fed = r;
        fair = subst (AllByRecursion (DrawRight m.endpoints m.weights now)) (sym (draws_after_asks settled.asked sought.steps)) right.fair;
        searched = λ _ _. subst (λ (steps : List (Step K S E)). Search m.endpoints now (cache_after_passes m now b c).ready (place_still_selected m now b c) steps sought.cache.ready)
            (sym (search_after_asks settled.asked sought.steps ∙ search_alone m.endpoints now _ _ sought.steps _ search)) search;
        unsearched = λ _ e. not_faulted e;
        marked = λ _ _ i e. ap (λ (o : Option ℕ). map_or o false (λ _. true)) e;
        known = λ _ e. not_faulted e;
        found = found_at sought.place right.found;
        nobody = nobody_at sought.place;
        empty = λ lost e. none (nowhere sought.place right.found (ap worker_of e));
      }
        where
          found_at : (o : Option ℕ) → ((i : ℕ) → o ≡ Some i → Grants m.endpoints now sought.cache.ready (questions_in sought.steps) i) → map_or o false (λ _. true) ≡ true →
              (i : ℕ) × (o ≡ Some i) × (g : Grants m.endpoints now sought.cache.ready (questions_in (map asks settled.asked ++ sought.steps)) i) × ((poll_report (serial_at sought.cache o)).value ≡ Some g.entry.serial)
          found_at None f e = false_true e
          found_at (Some i) f e =
              let g = f i refl in (
                i,
                refl,
                record { entry = g.entry; stands = g.stands; last = ap last_of (questions_after_asks settled.asked sought.steps) ∙ last_append settled.asked (questions_in sought.steps) _ g.last; grant = g.grant },
                ap (λ (o : Option (Entry K S)). (poll_report (map_or {B = Poll ℕ} o Pending (λ x. Ready x.serial))).value) g.stands,
              )

          nobody_at : (o : Option ℕ) → map_or o false (λ _. true) ≡ false → (poll_report (serial_at sought.cache o)).value ≡ None
          nobody_at None e = refl
          nobody_at (Some i) e = cc

          -- the worker that a poll answers with
          worker_of : Result Polled (PollError K F) → Poll ℕ
          worker_of (Ok p) = p.worker
          worker_of (Err e) = Pending

          nowhere : (o : Option ℕ) → ((i : ℕ) → o ≡ Some i → Grants m.endpoints now sought.cache.ready (questions_in sought.steps) i) → serial_at sought.cache o ≡ Pending → o ≡ None
          nowhere None f e = refl
          nowhere (Some i) f e =
              let g = f i refl in
              let named_serial : serial_at sought.cache (Some i) ≡ Ready g.entry.serial = ap (λ (o : Option (Entry K S)). map_or {B = Poll ℕ} o Pending (λ x. Ready x.serial)) g.stands in
              cc

  -- the laws of a poll
  pub poll_lawful : (b : Balancer D R) (c : Cache K S) → PollLawful m now b c (poll m now b c)
  poll_lawful b c = go (poll m now b c) (poll_right b c) (poll_took m now b c)
    where
      go : (p : PollOutcome K S E D F R) → PollRight b c p → DrawsTook m b.words (draws_in p.log.steps) p.balancer.words → PollLawful m now b c p
      go p r took = record {
        granted = λ serial e. let f = found serial e in let same = is_named serial e f in f.2.last ∙ ap (λ (s : ℕ). Some (ready_question s)) same;
        selected = λ serial e.
            let f = found serial e in
            ap (serial_at p.cache) f.1
            ∙ ap (λ (o : Option (Entry K S)). map_or {B = Poll ℕ} o Pending (λ x. Ready x.serial)) f.2.stands
            ∙ ap Ready (is_named serial e f);
        nobody = r.empty;
        shares = r.fair;
        searched = r.searched;
        unsearched = r.unsearched;
        words = took;
        still = λ i place. read_feed_selected m now b.budget b.feed b.selected c i (selected_among (selected_after_feed m now b c) (length (cache_after_passes m now b c).ready) i place);
        kept = λ i e place here.
            let fed = read_feed m now b.budget b.feed b.selected c in
            settle_key e.key m.keys m.endpoints now (suc (length fed.cache.pending)) fed.cache i
            (read_feed_key m now e.key b.budget b.feed b.selected c i
            (selected_among (selected_after_feed m now b c) (length (cache_after_passes m now b c).ready) i place)
            (subst (λ (o : Option (Entry K S)). IsSomeAnd o (λ f. f.key ≡ e.key)) (sym here) refl));
      }
        where
          by_fresh : (t : Bool) → p.balancer.fresh ≡ t → (serial : ℕ) → named_serial p.answer ≡ Some serial → Found p
          by_fresh true t serial e = r.found t
          by_fresh false t serial e = cc (r.nobody t)

          found : (serial : ℕ) → named_serial p.answer ≡ Some serial → Found p
          found serial e = by_fresh p.balancer.fresh refl serial e

          is_named : (serial : ℕ) → named_serial p.answer ≡ Some serial → (f : Found p) → f.2.entry.serial ≡ serial
          is_named serial e f = let q = f.3 in cc

  -- over the history with the poll in front
  pub poll_holds : (b : Balancer D R) (c : Cache K S) (d : Docket) (h : History K S A E F) → Holds m b c d h →
      Holds m (poll m now b c).balancer (poll m now b c).cache d (polled now (poll m now b c).log (poll m now b c).answer ∷ h)
  poll_holds b c d h o = go (poll m now b c) (poll_right b c)
    where
      go : (p : PollOutcome K S E D F R) → PollRight b c p → Holds m p.balancer p.cache d (polled now p.log p.answer ∷ h)
      go p r =
          let fed = r.fed in
          let new : History K S A E F = polled now p.log p.answer ∷ h in
          record {
            single = fed.single o.single;
            counts = λ s n one. count s n one (cases_lt s c.next);
            serials = λ s. serial s (cases_lt s c.next);
            below = λ s above. let a = fed.sums (is_serial s) in let g = fed.grows in let z = o.below s (omega arith) in let y = fed.above s above in omega arith;
            unsent = λ s above. let g = fed.grows in o.unsent s (omega arith);
            records = each_map (Open h d.next) (Open new d.next) (λ x w. record { issued = w.issued; out = w.out; sent = w.sent; nowhere_else = w.nowhere_else }) d.records o.records;
            tickets = o.tickets;
            unissued = λ t above. let u = o.unissued t above in record { out = u.out; nowhere = u.nowhere };
            fresh = λ e.
                let f = r.found e in
                record { place = f.0; entry = f.2.entry; granted = now; chosen = f.1; stands = f.2.stands; grant = f.2.grant; named = f.3; said = f.2.last; unsent = refl };
            spent = λ e. inr (inl (r.nobody e));
            calls = o.calls;
            draws = (r.fair, o.draws);
            known = λ i e. known_by p.answer refl i e;
            searched = searched_by p.answer refl;
          }
        where
          known_by : (v : Result Polled (PollError K F)) → p.answer ≡ v → (i : ℕ) → p.balancer.selected ≡ Some i → IsTrue (is_some (selected_serial (polled now p.log v ∷ h)))
          known_by (Ok over) e i chosen =
              let f = r.found (r.marked over e i chosen) in
              subst (λ (v : Result Polled (PollError K F)). IsTrue (is_some (named_serial v))) e (ap is_some f.3)
          known_by (Err fault) e i chosen = o.known i (r.known fault e i chosen)

          searched_by : (v : Result Polled (PollError K F)) → p.answer ≡ v → PollsSearched m.endpoints (polled now p.log v ∷ h) p.cache.ready
          searched_by (Ok over) e =
              let still : (i : ℕ) → place_still_selected m now b c ≡ Some i → IsTrue (is_some (selected_serial h)) = λ i k.
              o.known i (read_feed_selected m now b.budget b.feed b.selected c i (selected_among (selected_after_feed m now b c) (length (cache_after_passes m now b c).ready) i k)) in
              (record { ready = (cache_after_passes m now b c).ready; place = place_still_selected m now b c; selected = still; search = r.searched over e }, (c.ready, o.searched))
          searched_by (Err fault) e = (r.unsearched fault e, (c.ready, o.searched))

          serial : (s : ℕ) → (s < c.next) ⊎ (c.next ≤ s) → sum_held m.keys m.endpoints (is_serial s) p.cache ≤ 1
          serial s (inl low) = let a = r.fed.sums (is_serial s) in let b = r.fed.below s low in let z = o.serials s in omega arith
          serial s (inr high) = let a = r.fed.sums (is_serial s) in let b = r.fed.once s in let z = o.below s high in omega arith

          count : (s n : ℕ) → 1 ≤ sum_held m.keys m.endpoints (is_pair s n) p.cache → (s < c.next) ⊎ (c.next ≤ s) → CountRight m.endpoints.count (polled now p.log p.answer ∷ h) s n
          count s n one (inl low) =
              let a = r.fed.sums (is_pair s n) in
              let l = total_mono (of_push m.keys m.endpoints (is_pair s n)) (of_push m.keys m.endpoints (is_serial s)) (λ x. pair_serial s n x.serial (m.endpoints.count x.worker)) p.log.pushes in
              let z = r.fed.below s low in
              let old = o.counts s n (omega arith) in
              record { had = old.had; at_push = ap (λ (x : Option ℕ). map_or x (count_at_push m.endpoints.count s h) Some) (r.fed.brings_none s low) ∙ old.at_push; sum = old.sum }
          count s n one (inr high) =
              let a = r.fed.sums (is_pair s n) in
              let z = o.below s high in
              let l = total_mono (of_worker m.keys m.endpoints (is_pair s n)) (of_worker m.keys m.endpoints (is_serial s)) (λ x. pair_serial s n x.serial (m.endpoints.count x.endpoint)) c.ready in
              let k = total_mono (of_worker m.keys m.endpoints (is_pair s n)) (of_worker m.keys m.endpoints (is_serial s)) (λ x. pair_serial s n x.serial (m.endpoints.count x.endpoint)) c.pending in
              let none = o.unsent s high in
              record {
                had = n;
                at_push = ap (λ (x : Option ℕ). map_or x (count_at_push m.endpoints.count s h) Some) (r.fed.brings s n (omega arith));
                sum = rw none refl;
              }

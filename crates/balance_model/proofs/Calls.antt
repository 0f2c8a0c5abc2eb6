-- A call keeps what holds.
use Rattle.std.specs.List.{AllByRecursion}
use Rattle.lists.specs.Outcome.{Outcome, outcome}
use Rattle.lists.specs.Options.{by_result}
use Rattle.lists.specs.Lists.{swap_remove}
use Rattle.lists.specs.Sums.{one_if}
use Rattle.lists.proofs.Std.{count_by_cons}
use Rattle.lists.proofs.Cases.{cond_case, some_case, some_is}
use Rattle.lists.proofs.Totals.{total, total_append, total_mono, total_swap, total_swap_le}
use Rattle.lists.proofs.Places.{each_append, each_map}
use Rattle.service.specs.Meaning.{Endpoints, refused_by, ceiling}
use Rattle.cache_model.specs.declared.entry.Entry.{Entry}
use Rattle.cache_model.specs.declared.call_refusal.CallRefusal.{CallRefusal}
use Rattle.cache_model.specs.Answers.{as_call, call_number}
use Rattle.cache_model.specs.Entries.{with_endpoint, set_aside}
use Rattle.cache_model.specs.Cache.{Cache, with_lists}
use Rattle.cache_model.proofs.Keys.{one_if_le, of_key, aside_single}
use Rattle.cache_model.proofs.Steps.{sum_held, of_worker, aside_sum}
use Rattle.cache_model.proofs.Serials.{is_serial, is_pair, pair_serial}
use Rattle.cache_model.proofs.AtPlace.{call_there}
use Rattle.docket.specs.declared.docket_record.DocketRecord.{DocketRecord}
use Rattle.docket.specs.declared.docket_refusal.DocketRefusal.{DocketRefusal}
use Rattle.balance_model.specs.declared.answer.CallError.{CallError}
use Rattle.docket.specs.Docket.{docket_number, Docket, refusal_of, with_record}
use Rattle.balance_model.specs.Answers.{call_error_number}
use Rattle.balance_model.specs.Meanings.{Meanings}
use Rattle.balance_model.specs.Balance.{Balancer, State, SentRequest, call, call_at, refused_call}
use Rattle.balance_model.specs.History.{History, called, Granted, Latest, tickets_sent_to, is_completed}
use Rattle.balance_model.specs.Promise.{NobodyNamed, CountRight}
use Rattle.balance_model.proofs.Holds.{Holds, Selected, Open, CallRight, is_ticket, of_record}
use Rattle.std.proofs.Common.{◌≡◌, ℕ, suc, cond, count_by, length, ◌+◌, ◌<◌, ◌≤◌, Bool, true, false, not, ◌&&◌, IsTrue, eqb, ltb, ◌⊎◌, List, [], ◌∷◌, is_some, Some, None, Ok, Err, Option, Result, sym, refl, ap, ◌∙◌, subst, inl, inr, le_trans, arith, IsSomeAnd, slice_get}
use Rattle.std.proofs.lemmas.Bool.{cases_lt, ne_eqb, eq-eqb, ltb-true, eqb-true, not-true, not-false}
use Rattle.std.proofs.lemmas.Bool.Decides.{eqb_tells}
use Rattle.service.specs.declared.refusal.EndpointRefusal.{EndpointRefusal}
use Rattle.service.specs.declared.refusal.EndpointRefusal.TheVariants.{AtCeiling}
use Rattle.docket.specs.declared.docket_refusal.DocketRefusal.TheVariants as docket
use Rattle.balance_model.specs.declared.answer.CallError.TheVariants as error

-- what the docket refuses has the number 7 or 8
from_seven : (r : DocketRefusal) → 7 ≤ docket_number r
from_seven docket.Full = omega arith
from_seven docket.TicketsSpent = omega arith

module _ {S Q A E W : Type 0} (ends : Endpoints S Q A E W) where
  -- an endpoint that granted refuses only at the ceiling
  granted_number : (s : S) (t : ℕ) (r : EndpointRefusal) → ends.grant s ≡ Some t → refused_by ends s ≡ Some r → call_number (as_call r) ≡ 5
  granted_number s t r g =
      some_case (λ (o : Option EndpointRefusal). o ≡ Some r → call_number (as_call r) ≡ 5) (ends.grant s) _ _
      (λ none. cc)
      (λ _ _. cond_case (λ (o : Option EndpointRefusal). o ≡ Some r → call_number (as_call r) ≡ 5) (ltb (ends.count s) ceiling) _ _
      (λ _ e. cc)
      (λ _ e. let q : AtCeiling ≡ r = cc in ap (λ (x : EndpointRefusal). call_number (as_call x)) (sym q)))

  not_refused : (s : S) → refused_by ends s ≡ None → ends.count s < ceiling
  not_refused s =
      some_case (λ (o : Option EndpointRefusal). o ≡ None → ends.count s < ceiling) (ends.grant s) _ _
      (λ _ e. cc)
      (λ _ _. cond_case (λ (o : Option EndpointRefusal). o ≡ None → ends.count s < ceiling) (ltb (ends.count s) ceiling) _ _
      (λ t _. ltb-true (ends.count s) ceiling t)
      (λ _ e. cc))

module _ {K S Q A E W D F R : Type 0} (m : Meanings K S Q A E W D F R) (now : ℕ) where
  -- a call that is refused changes nothing but the history
  refused_holds : (b : Balancer D R) (c : Cache K S) (d : Docket) (h : History K S A E F) (r : CallError) → Holds m b c d h → CallRight h (Err r) → Holds m b c d (called now (Err r) ∷ h)
  refused_holds b c d h r o right =
      let new : History K S A E F = called now (Err r) ∷ h in
      record {
        single = o.single;
        counts = λ s n one. let k = o.counts s n one in record { had = k.had; at_push = k.at_push; sum = k.sum };
        serials = o.serials;
        below = o.below;
        unsent = o.unsent;
        records = each_map (Open h d.next) (Open new d.next) (λ x w. record { issued = w.issued; out = w.out; sent = w.sent; nowhere_else = w.nowhere_else }) d.records o.records;
        tickets = o.tickets;
        unissued = λ t above. let u = o.unissued t above in record { out = u.out; nowhere = u.nowhere };
        fresh = λ e. let s = o.fresh e in record { place = s.place; entry = s.entry; granted = s.granted; chosen = s.chosen; stands = s.stands; grant = s.grant; named = s.named; said = s.said; unsent = s.unsent };
        spent = o.spent;
        calls = (right, o.calls);
        draws = o.draws;
        known = o.known;
        searched = (c.ready, o.searched);
      }

  -- with a selected worker nothing is spent
  not_spent : (b : Balancer D R) (rs : List (Entry K S)) (h : History K S A E F) → Selected m.endpoints b rs h → NobodyNamed h → ⊥
  not_spent b rs h s (inl none) = subst (λ (o : Option (Latest K S E F)). IsSomeAnd o (λ l. Granted l.log s.entry.serial)) none s.said
  not_spent b rs h s (inr (inl nobody)) = cc
  not_spent b rs h s (inr (inr since)) = cc

  refused_right : (b : Balancer D R) (rs : List (Entry K S)) (h : History K S A E F) (r : CallError) → Selected m.endpoints b rs h → 5 ≤ call_error_number r → (call_error_number r ≡ 6 → ⊥) → CallRight h (Err r)
  refused_right b rs h r s five six = record {
    reached = tt;
    six = (λ g. absurd (six g), λ p. absurd (not_spent b rs h s p));
    never = (λ g. omega arith, λ g. omega arith);
  }

  stale_right : (h : History K S A E F) → NobodyNamed h → CallRight h (Err error.NotFresh)
  stale_right h p = record {
    reached = tt;
    six = (λ g. p, λ g. refl);
    never = (λ g. omega arith, λ g. omega arith);
  }

-- a number that is summed over a list that has the ticket in front
ticket_first : (t x : ℕ) (xs : List ℕ) → (x ≡ t → ⊥) → total (is_ticket t) (x ∷ xs) ≡ total (is_ticket t) xs
ticket_first t x xs n = let z : is_ticket t x ≡ 0 = ap one_if (ne_eqb x t n) in omega arith

records_below : {K S A E F : Type 0} (h : History K S A E F) (next t : ℕ) (xs : List DocketRecord) → next ≤ t → AllByRecursion (Open h next) xs → total (of_record t) xs ≡ 0
records_below h next t [] le e = refl
records_below h next t (x ∷ xs) le e =
    let i = e.0.issued in
    let z : of_record t x ≡ 0 = ap one_if (ne_eqb x.ticket t (omega arith)) in
    let r = records_below h next t xs le e.1 in
    omega arith

module _ {K S Q A E W D F R : Type 0} (m : Meanings K S Q A E W D F R) (now : ℕ) (b : Balancer D R) (c : Cache K S) (d : Docket) (h : History K S A E F) (q : Q) (o : Holds m b c d h) (s : Selected m.endpoints b c.ready h) (accepted : refused_by m.endpoints s.entry.endpoint ≡ None) where
  abbrev mine : Entry K S
  mine = with_endpoint s.entry (m.endpoints.accept s.entry.endpoint q now).after

  abbrev left : Cache K S
  left = with_lists c (swap_remove c.ready s.place) (set_aside m.keys mine c.pending)

  abbrev request : SentRequest A
  request = record { ticket = d.next; reached = s.entry.serial; response = (m.endpoints.accept s.entry.endpoint q now).answer }

  abbrev new : History K S A E F
  new = called now (Ok request) ∷ h

  abbrev worker : (ℕ → ℕ → ℕ) → Entry K S → ℕ
  worker f = of_worker m.keys m.endpoints f

  -- the others
  abbrev rest : (ℕ → ℕ → ℕ) → ℕ
  rest f = total (worker f) (swap_remove c.ready s.place) + total (worker f) c.pending

  before : (f : ℕ → ℕ → ℕ) → sum_held m.keys m.endpoints f c ≡ rest f + worker f s.entry
  before f = let a = total_swap (worker f) c.ready s.place s.entry s.stands in omega arith

  after : (f : ℕ → ℕ → ℕ) → sum_held m.keys m.endpoints f left ≤ rest f + worker f mine
  after f = let a = aside_sum m.keys m.endpoints f mine c.pending in omega arith

  rest_mono : (x n : ℕ) → rest (is_pair x n) ≤ rest (is_serial x)
  rest_mono x n =
      let a = total_mono (worker (is_pair x n)) (worker (is_serial x)) (λ y. pair_serial x n y.serial (m.endpoints.count y.endpoint)) (swap_remove c.ready s.place) in
      let b = total_mono (worker (is_pair x n)) (worker (is_serial x)) (λ y. pair_serial x n y.serial (m.endpoints.count y.endpoint)) c.pending in
      omega arith

  one_more_count : m.endpoints.count mine.endpoint ≡ m.endpoints.count s.entry.endpoint + 1
  one_more_count =
      let granted : IsTrue (is_some (m.endpoints.grant s.entry.endpoint)) = ap is_some s.grant in
      m.endpoints.count-accept s.entry.endpoint q now granted (not_refused m.endpoints s.entry.endpoint accepted)

  own_serial : is_serial s.entry.serial s.entry.serial 0 ≡ 1
  own_serial = ap one_if (eq-eqb s.entry.serial s.entry.serial refl)

  own_below : s.entry.serial < c.next
  own_below = go (cases_lt s.entry.serial c.next)
    where
      go : (s.entry.serial < c.next) ⊎ (c.next ≤ s.entry.serial) → s.entry.serial < c.next
      go (inl y) = y
      go (inr n) = let z = o.below s.entry.serial n in let a = before (is_serial s.entry.serial) in let b = own_serial in absurd (omega arith)

  own_count : CountRight m.endpoints.count h s.entry.serial (m.endpoints.count s.entry.endpoint)
  own_count =
      let x : ℕ = s.entry.serial in
      let n : ℕ = m.endpoints.count s.entry.endpoint in
      let a = before (is_pair x n) in
      let b : is_pair x n x n ≡ 1 = rw (eq-eqb x x refl, eq-eqb n n refl) refl in
      o.counts x n (omega arith)

  -- the worker that took the call has one more, and no other has its serial
  pair_of_mine : (n : ℕ) → 1 ≤ sum_held m.keys m.endpoints (is_pair s.entry.serial n) left → m.endpoints.count s.entry.endpoint + 1 ≡ n
  pair_of_mine n one =
      let x : ℕ = s.entry.serial in
      let a = after (is_pair x n) in
      let b = rest_mono x n in
      let e = before (is_serial x) in
      let w = own_serial in
      let z = o.serials x in
      let g : 1 ≤ is_pair x n x (m.endpoints.count mine.endpoint) = omega arith in
      go (eqb x x) (eqb (m.endpoints.count mine.endpoint) n) refl g
    where
      go : (y v : Bool) → eqb (m.endpoints.count mine.endpoint) n ≡ v → 1 ≤ one_if (y && v) → m.endpoints.count s.entry.endpoint + 1 ≡ n
      go true true e g = sym one_more_count ∙ eqb-true (m.endpoints.count mine.endpoint) n e
      go true false e g = absurd (omega arith)
      go false v e g = absurd (omega arith)

  other_worker : (x n : ℕ) → eqb s.entry.serial x ≡ false → CountRight m.endpoints.count h x n → CountRight m.endpoints.count new x n
  other_worker x n e old = record { had = old.had; at_push = old.at_push; sum = rw e old.sum }

  counts_after : (x n : ℕ) → 1 ≤ sum_held m.keys m.endpoints (is_pair x n) left → ((eqb s.entry.serial x ≡ true) × (s.entry.serial ≡ x)) ⊎ ((eqb s.entry.serial x ≡ false) × (s.entry.serial ≡ x → ⊥)) → CountRight m.endpoints.count new x n
  counts_after x n one (inl t) =
      let own = own_count in
      let u = o.unissued d.next (omega arith) in
      let k : 1 ≤ sum_held m.keys m.endpoints (is_pair s.entry.serial n) left = subst (λ (y : ℕ). 1 ≤ sum_held m.keys m.endpoints (is_pair y n) left) (sym t.1) one in
      let p = pair_of_mine n k in
      subst (λ (y : ℕ). CountRight m.endpoints.count new y n) t.1
      (record {
        had = own.had;
        at_push = own.at_push;
        sum =
            let e : eqb s.entry.serial s.entry.serial ≡ true = eq-eqb s.entry.serial s.entry.serial refl in
            let sent = tickets_sent_to s.entry.serial h in
            let out : count_by (is_completed new) (d.next ∷ sent) ≡ count_by (is_completed new) sent =
            count_by_cons (is_completed new) d.next sent ∙ ap (λ b. cond b (suc (count_by (is_completed new) sent)) (count_by (is_completed new) sent)) u.out in
            let g : m.endpoints.count s.entry.endpoint + count_by (is_completed new) sent ≡ own.had + length sent = own.sum in
            rw e (omega (arith, out));
      })
  counts_after x n one (inr t) =
      let a = after (is_pair x n) in
      let e = before (is_pair x n) in
      let z : is_pair x n s.entry.serial (m.endpoints.count mine.endpoint) ≡ 0 = rw t.0 refl in
      other_worker x n t.0 (o.counts x n (omega arith))

  unsent_after : (x : ℕ) → c.next ≤ x → tickets_sent_to x new ≡ []
  unsent_after x above = let y = own_below in let e : eqb s.entry.serial x ≡ false = ne_eqb s.entry.serial x (omega arith) in rw e (o.unsent x above)

  -- a ticket other than the new one
  other_ticket : (t x : ℕ) → (d.next ≡ t → ⊥) → total (is_ticket t) (tickets_sent_to x new) ≡ total (is_ticket t) (tickets_sent_to x h)
  other_ticket t x n =
      cond_case (λ (xs : List ℕ). total (is_ticket t) xs ≡ total (is_ticket t) (tickets_sent_to x h)) (eqb s.entry.serial x) _ _
      (λ _. ticket_first t d.next (tickets_sent_to x h) n)
      (λ _. refl)

  records_after : AllByRecursion (Open new (d.next + 1)) (with_record d s.entry.serial now).records
  records_after =
      each_append (Open new (d.next + 1)) d.records _
      (each_map (Open h d.next) (Open new (d.next + 1)) (λ x w.
      let i = w.issued in
      record {
        issued = omega arith;
        out = w.out;
        sent = other_ticket x.ticket x.serial (omega arith) ∙ w.sent;
        nowhere_else = λ y n. other_ticket x.ticket y (omega arith) ∙ w.nowhere_else y n;
      }) d.records o.records) (
        let u = o.unissued d.next (omega arith) in
            record {
              issued = omega arith;
              out = u.out;
              sent =
                  let e : eqb s.entry.serial s.entry.serial ≡ true = eq-eqb s.entry.serial s.entry.serial refl in
                  let k : eqb d.next d.next ≡ true = eq-eqb d.next d.next refl in
                  let z = u.nowhere s.entry.serial in
                  rw (e, k) (omega arith);
              nowhere_else = λ y n. let e : eqb s.entry.serial y ≡ false = ne_eqb s.entry.serial y (λ p. n (sym p)) in rw e (u.nowhere y);
            },
        tt,
      )

  tickets_after : (t : ℕ) → total (of_record t) (with_record d s.entry.serial now).records ≤ 1
  tickets_after t = go (eqb_tells d.next t)
    where
      go : ((eqb d.next t ≡ true) × (d.next ≡ t)) ⊎ ((eqb d.next t ≡ false) × (d.next ≡ t → ⊥)) → total (of_record t) (with_record d s.entry.serial now).records ≤ 1
      go (inl e) =
          let a = total_append (of_record t) d.records (record { ticket = d.next; serial = s.entry.serial; sent = now } ∷ []) in
          let l = e.1 in
          let z = records_below h d.next t d.records (omega arith) o.records in
          let w = one_if_le (eqb d.next t) in
          omega arith
      go (inr e) =
          let a = total_append (of_record t) d.records (record { ticket = d.next; serial = s.entry.serial; sent = now } ∷ []) in
          let z : one_if (eqb d.next t) ≡ 0 = ap one_if e.0 in
          let w = o.tickets t in
          omega arith

  pub sent_holds : Holds m (record { feed = b.feed; words = b.words; budget = b.budget; selected = None; fresh = false }) left (with_record d s.entry.serial now) new
  sent_holds = record {
    single = record {
      ready = λ k. le_trans (total_swap_le (of_key m.keys k) c.ready s.place) (o.single.ready k);
      pending = λ k. aside_single m.keys k mine c.pending (o.single.pending k);
    };
    counts = λ x n one. counts_after x n one (eqb_tells s.entry.serial x);
    serials = λ x. let a = after (is_serial x) in let e = before (is_serial x) in let z = o.serials x in omega arith;
    below = λ x above. let a = after (is_serial x) in let e = before (is_serial x) in let z = o.below x above in omega arith;
    unsent = unsent_after;
    records = records_after;
    tickets = tickets_after;
    unissued = λ t above. let u = o.unissued t (omega arith) in record { out = u.out; nowhere = λ x. other_ticket t x (omega arith) ∙ u.nowhere x };
    fresh = λ e. cc;
    spent = λ _. inr (inr refl);
    calls = (record { reached = (s.named, s.said); six = (λ g. absurd g, λ p. not_spent m now b c.ready h s p); never = (λ g. g, λ g. g) }, o.calls);
    draws = o.draws;
    known = λ i e. cc;
    searched = (c.ready, o.searched);
  }

module _ {K S Q A E W D F R : Type 0} (m : Meanings K S Q A E W D F R) (now : ℕ) where
  module _ (st : State K S D R) (h : History K S A E F) (q : Q) (o : Holds m st.balancer st.cache st.docket h) where
    abbrev Goal : Outcome (Result (SentRequest A) CallError) (State K S D R) → Type 0
    Goal l = Holds m l.after.balancer l.after.cache l.after.docket (called now l.answer ∷ h)

    -- what comes of the cache's answer, if the worker at the place is e
    abbrev noting : Entry K S → Outcome (Result A CallRefusal) (Cache K S) → Outcome (Result (SentRequest A) CallError) (State K S D R)
    noting e k =
        let b = st.balancer in
        by_result k.answer
        (λ response. outcome
        (Ok (record { ticket = st.docket.next; reached = e.serial; response = response }))
        (record {
          balancer = record { feed = b.feed; words = b.words; budget = b.budget; selected = None; fresh = false };
          cache = k.after;
          docket = with_record st.docket e.serial now;
        }))
        (λ r. refused_call m now st (error.Cache r))

    call_at_holds : (s : Selected m.endpoints st.balancer st.cache.ready h) → Goal (call_at m now st q s.place)
    call_at_holds s =
        some_is Goal (slice_get st.cache.ready s.place) _ _ s.entry s.stands
        (call_there m.keys m.endpoints now (λ (k : Outcome (Result A CallRefusal) (Cache K S)). Goal (noting s.entry k)) st.cache s.place q s.entry s.stands
        (some_case (λ (k : Outcome (Result A CallRefusal) (Cache K S)). Goal (noting s.entry k)) (refused_by m.endpoints s.entry.endpoint) _ _
        (λ accepted. sent_holds m now st.balancer st.cache st.docket h q o s accepted)
        (λ r e.
        let five = granted_number m.endpoints s.entry.endpoint s.granted r s.grant e in
        refused_holds m now st.balancer st.cache st.docket h (error.Cache (as_call r)) o (refused_right m now st.balancer st.cache.ready h (error.Cache (as_call r)) s (omega arith) (λ x. omega arith)))))

    pub call_holds : Goal (call m now st q)
    call_holds =
        let b = st.balancer in
        cond_case Goal (not b.fresh) _ _
        (λ stale. refused_holds m now b st.cache st.docket h error.NotFresh o (stale_right m now h (o.spent (not-true b.fresh stale))))
        (λ fresh.
        let s = o.fresh (not-false b.fresh fresh) in
        some_case Goal (refusal_of st.docket) _ _
        (λ _. some_case Goal b.selected _ _
        (λ none. cc)
        (λ i chosen.
        let p : s.place ≡ i = cc s.chosen in
        subst (λ (j : ℕ). Goal (call_at m now st q j)) p (call_at_holds s)))
        (λ r _.
        let seven = from_seven r in
        refused_holds m now b st.cache st.docket h (error.Docket r) o (refused_right m now b st.cache.ready h (error.Docket r) s (omega arith) (λ x. omega arith))))

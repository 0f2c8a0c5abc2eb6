-- A completion keeps what holds.
use Rattle.std.specs.List.{AllByRecursion}
use Rattle.std.specs.Net.Reader.{map_or}
use Rattle.lists.specs.Outcome.{Outcome}
use Rattle.lists.specs.Lists.{swap_remove}
use Rattle.lists.specs.Sums.{one_if}
use Rattle.lists.proofs.Std.{how_many, how_many_is}
use Rattle.std.proofs.lemmas.List.Sums.{count_by-le-length}
use Rattle.lists.proofs.Cases.{some_case}
use Rattle.lists.proofs.Totals.{total, total_swap, total_swap_le}
use Rattle.lists.proofs.Places.{each_map, each_at, each_swap, place_test}
use Rattle.cache_model.specs.Cache.{Cache, finish}
use Rattle.cache_model.proofs.Steps.{sum_held}
use Rattle.cache_model.proofs.Serials.{is_pair}
use Rattle.cache_model.proofs.Finish.{FinishEffect, finish_told}
use Rattle.docket.specs.declared.docket_record.DocketRecord.{DocketRecord}
use Rattle.balance_model.specs.declared.answer.CompleteError.{CompleteError}
use Rattle.balance_model.specs.declared.answer.Completion.{Completion}
use Rattle.balance_model.specs.Meanings.{Meanings}
use Rattle.docket.specs.Docket.{Docket, ticket_place, without, remove}
use Rattle.balance_model.specs.Balance.{Balancer, CompleteOutcome, complete, held_or_gone}
use Rattle.balance_model.specs.History.{History, completed, GrantedInLatest, tickets_sent_to, is_completed}
use Rattle.balance_model.specs.Promise.{CountRight}
use Rattle.balance_model.proofs.Holds.{Holds, Open, is_ticket, of_record}
use Rattle.std.proofs.Common.{count_by, ◌≡◌, ℕ, suc, ◌+◌, ◌-◌, ◌≤◌, Bool, true, false, cond, ◌||◌, eqb, ◌⊎◌, List, [], ◌∷◌, Some, Ok, Err, Option, sym, refl, ap, ◌∙◌, subst, inl, inr, arith, None, slice_get}
use Rattle.std.proofs.lemmas.Bool.{ne_eqb, eq-eqb, eqb-true}
use Rattle.std.proofs.lemmas.Bool.Decides.{eqb_tells}
use Rattle.balance_model.specs.declared.answer.CompleteError.TheVariants.{UnknownTicket}
use Rattle.service.specs.Meaning.{Endpoints}

false_or : (p q : Bool) → p ≡ false → q ≡ false → (p || q) ≡ false
false_or true q e f = e
false_or false q e f = f

zero_false : (t : Bool) → one_if t ≡ 0 → t ≡ false
zero_false true e = absurd (omega arith)
zero_false false e = refl

module _ {K S Q A E W D F R : Type 0} (m : Meanings K S Q A E W D F R) (now ticket : ℕ) where
  -- a completion that is refused changes nothing but the history
  refused_holds : (b : Balancer D R) (c : Cache K S) (d : Docket) (h : History K S A E F) (r : CompleteError) → Holds m b c d h → Holds m b c d (completed now ticket (Err r) ∷ h)
  refused_holds b c d h r o =
      let new : History K S A E F = completed now ticket (Err r) ∷ h in
      record {
        single = o.single;
        counts = λ s n one. let k = o.counts s n one in record { had = k.had; at_push = k.at_push; sum = k.sum };
        serials = o.serials;
        below = o.below;
        unsent = o.unsent;
        records = each_map (Open h d.next) (Open new d.next) (λ x w. record { issued = w.issued; out = w.out; sent = w.sent; nowhere_else = w.nowhere_else }) d.records o.records;
        tickets = o.tickets;
        unissued = λ t above. let u = o.unissued t above in record { out = u.out; nowhere = u.nowhere };
        fresh = λ e. let s = o.fresh e in record { place = s.place; entry = s.entry; granted = s.granted; chosen = s.chosen; stands = s.stands; grant = s.grant; named = s.named; said = s.said; unsent = s.unsent };
        spent = o.spent;
        calls = o.calls;
        draws = o.draws;
        known = o.known;
        searched = (c.ready, o.searched);
      }

  module _ (b : Balancer D R) (c c' : Cache K S) (d : Docket) (h : History K S A E F) (o : Holds m b c d h) (i : ℕ) (gone : DocketRecord) (stands : slice_get d.records i ≡ Some gone) (it_is : gone.ticket ≡ ticket) (told : FinishEffect m.keys m.endpoints now c c' gone.serial) (over : Completion) where
    abbrev new : History K S A E F
    new = completed now ticket (Ok over) ∷ h

    opened : Open h d.next gone
    opened = each_at (Open h d.next) d.records i gone o.records stands

    not_yet : is_completed h ticket ≡ false
    not_yet = ap (is_completed h) (sym it_is) ∙ opened.out

    -- the completed ones are those of before, and this ticket
    counted_by : (xs : List ℕ) → how_many (is_completed new) xs ≡ how_many (is_completed h) xs + total (is_ticket ticket) xs
    counted_by [] = refl
    counted_by (x ∷ xs) = go (eqb_tells ticket x) (counted_by xs)
      where
        go : ((eqb ticket x ≡ true) × (ticket ≡ x)) ⊎ ((eqb ticket x ≡ false) × (ticket ≡ x → ⊥)) → how_many (is_completed new) xs ≡ how_many (is_completed h) xs + total (is_ticket ticket) xs → how_many (is_completed new) (x ∷ xs) ≡ how_many (is_completed h) (x ∷ xs) + total (is_ticket ticket) (x ∷ xs)
        go (inl t) ih =
            let n : is_completed h x ≡ false = ap (is_completed h) (sym t.1) ∙ not_yet in
            let e : eqb x ticket ≡ true = eq-eqb x ticket (sym t.1) in
            rw (t.0, n, e) (omega arith)
        go (inr t) ih =
            let e : eqb x ticket ≡ false = ne_eqb x ticket (λ p. t.1 (sym p)) in
            rw (t.0, e) (add (is_completed h x))
          where
            add : (v : Bool) → cond v (suc (how_many (is_completed new) xs)) (how_many (is_completed new) xs) ≡ cond v (suc (how_many (is_completed h) xs)) (how_many (is_completed h) xs) + (0 + total (is_ticket ticket) xs)
            add true = omega arith
            add false = omega arith

    counted : (xs : List ℕ) → count_by (is_completed new) xs ≡ count_by (is_completed h) xs + total (is_ticket ticket) xs
    counted xs = how_many_is (is_completed new) xs ∙ counted_by xs ∙ ap (λ n. n + total (is_ticket ticket) xs) (sym (how_many_is (is_completed h) xs))

    one_here : total (is_ticket ticket) (tickets_sent_to gone.serial h) ≡ 1
    one_here = ap (λ (t : ℕ). total (is_ticket t) (tickets_sent_to gone.serial h)) (sym it_is) ∙ opened.sent

    none_there : (x : ℕ) → (x ≡ gone.serial → ⊥) → total (is_ticket ticket) (tickets_sent_to x h) ≡ 0
    none_there x ne = ap (λ (t : ℕ). total (is_ticket t) (tickets_sent_to x h)) (sym it_is) ∙ opened.nowhere_else x ne

    own_after : (n : ℕ) → 1 ≤ sum_held m.keys m.endpoints (is_pair gone.serial n) c' → CountRight m.endpoints.count new gone.serial n
    own_after n one =
        let r = told.own n (o.serials gone.serial) one in
        go r.0 r.2 (o.counts gone.serial r.0 r.1)
      where
        go : (n' : ℕ) → n ≡ n' - 1 → CountRight m.endpoints.count h gone.serial n' → CountRight m.endpoints.count new gone.serial n
        go n' e old =
            let a = counted (tickets_sent_to gone.serial h) in
            let l = count_by-le-length (is_completed new) (tickets_sent_to gone.serial h) in
            let w = one_here in
            let g = old.sum in
            record { had = old.had; at_push = old.at_push; sum = omega arith }

    other_after : (x n : ℕ) → (x ≡ gone.serial → ⊥) → CountRight m.endpoints.count h x n → CountRight m.endpoints.count new x n
    other_after x n ne old =
        let a = counted (tickets_sent_to x h) in
        let z = none_there x ne in
        let g = old.sum in
        record { had = old.had; at_push = old.at_push; sum = omega arith }

    counts_after : (x n : ℕ) → 1 ≤ sum_held m.keys m.endpoints (is_pair x n) c' → ((eqb x gone.serial ≡ true) × (x ≡ gone.serial)) ⊎ ((eqb x gone.serial ≡ false) × (x ≡ gone.serial → ⊥)) → CountRight m.endpoints.count new x n
    counts_after x n one (inl t) =
        subst (λ (y : ℕ). CountRight m.endpoints.count new y n) (sym t.1) (own_after n (subst (λ (y : ℕ). 1 ≤ sum_held m.keys m.endpoints (is_pair y n) c') t.1 one))
    counts_after x n one (inr t) = let e = told.others x n t.1 in other_after x n t.1 (o.counts x n (omega arith))

    records_after : (xs : List DocketRecord) → total (of_record ticket) xs ≡ 0 → AllByRecursion (Open h d.next) xs → AllByRecursion (Open new d.next) xs
    records_after [] z e = tt
    records_after (x ∷ xs) z e =
        let n : eqb x.ticket ticket ≡ false = zero_false (eqb x.ticket ticket) (omega arith) in
        let w = e.0 in (
          record {
            issued = w.issued;
            out = false_or (eqb ticket x.ticket) (is_completed h x.ticket) (ne_eqb ticket x.ticket (λ p. let y : ◌≡◌ {A = Bool} true false = sym (eq-eqb x.ticket ticket (sym p)) ∙ n in cc)) w.out;
            sent = w.sent;
            nowhere_else = w.nowhere_else;
          },
          records_after xs (omega arith) e.1,
        )

    done_holds : Holds m b c' (without d i) new
    done_holds = record {
      single = told.single o.single;
      counts = λ x n one. counts_after x n one (eqb_tells x gone.serial);
      serials = λ x. let e = told.serials x in let z = o.serials x in omega arith;
      below = λ x above. let e = told.serials x in let n = told.next in let z = o.below x (omega arith) in omega arith;
      unsent = λ x above. let n = told.next in o.unsent x (omega arith);
      records =
          let a = total_swap (of_record ticket) d.records i gone stands in
          let one : of_record ticket gone ≡ 1 = ap one_if (eq-eqb gone.ticket ticket it_is) in
          let l = o.tickets ticket in
          records_after (swap_remove d.records i) (omega arith) (each_swap (Open h d.next) d.records i o.records);
      tickets = λ t. let a = total_swap_le (of_record t) d.records i in let l = o.tickets t in omega arith;
      unissued = λ t above.
          let u = o.unissued t above in
          let w = opened.issued in
          record { out = false_or (eqb ticket t) (is_completed h t) (ne_eqb ticket t (omega arith)) u.out; nowhere = u.nowhere };
      fresh = λ e.
          let s = o.fresh e in
          let k = told.still s.place s.entry s.stands in
          record {
            place = s.place;
            entry = k.entry;
            granted = s.granted;
            chosen = s.chosen;
            stands = k.stands;
            grant = k.grant ∙ s.grant;
            named = s.named ∙ ap Some (sym k.serial);
            said = subst (GrantedInLatest h) (sym k.serial) s.said;
            unsent = s.unsent;
          };
      spent = o.spent;
      calls = o.calls;
      draws = o.draws;
      known = o.known;
      searched = (c.ready, o.searched);
    }

  pub complete_holds : (b : Balancer D R) (c : Cache K S) (d : Docket) (h : History K S A E F) → Holds m b c d h →
      let k = complete m.endpoints now c d ticket in
      Holds m b k.cache k.docket (completed now ticket k.answer ∷ h)
  complete_holds b c d h o =
      some_case (λ (x : Outcome (Option DocketRecord) Docket). Goal (told x)) (ticket_place d ticket) _ _
      (λ _. refused_holds b c d h UnknownTicket o)
      (λ i found. some_case Goal (slice_get d.records i) _ _
      (λ _. refused_holds b c d h UnknownTicket o)
      (λ gone here.
      let it_is : gone.ticket ≡ ticket = eqb-true gone.ticket ticket (place_test (λ s. eqb s.ticket ticket) d.records i gone found here) in
      done_holds b c _ d h o i gone here it_is (finish_told m.keys m.endpoints now c gone.serial gone.sent) _))
    where
      Goal : CompleteOutcome K S → Type 0
      Goal k = Holds m b k.cache k.docket (completed now ticket k.answer ∷ h)

      told : Outcome (Option DocketRecord) Docket → CompleteOutcome K S
      told gone = map_or gone.answer
          (record { answer = Err UnknownTicket; cache = c; docket = d })
          (λ r. let told = finish m.endpoints now c r.serial r.sent in record { answer = Ok (held_or_gone told.answer); cache = told.after; docket = gone.after })

-- an unknown ticket is refused, and nothing changes
pub complete_unknown : {K S Q A E W : Type 0} (ends : Endpoints S Q A E W) (now : ℕ) (c : Cache K S) (d : Docket) (ticket : ℕ) → (remove d ticket).answer ≡ None →
    complete ends now c d ticket ≡ record { answer = Err UnknownTicket; cache = c; docket = d }
complete_unknown ends now c d ticket e =
    ap (λ (o : Option DocketRecord). map_or o (record { answer = Err UnknownTicket; cache = c; docket = d }) (λ r. let told = finish ends now c r.serial r.sent in record { answer = Ok (held_or_gone told.answer); cache = told.after; docket = (remove d ticket).after })) e

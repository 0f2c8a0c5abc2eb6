-- A search draws among all that are ready, and checks the worker drawn.
use Rattle.std.specs.Net.Reader.{map_or}
use Rattle.std.proofs.Common.{◌≡◌, ℕ, zero, suc, ◌<◌, Bool, true, ltb, List, length, map, Some, None, Ok, Option, Result, refl, ap, ◌∙◌, subst, arith, ◌%◌, ◌-◌, cond, slice_get}
use Rattle.rng.specs.Pairs.{first_place}
use Rattle.rng.specs.Words.{nth_word}
use Rattle.lists.proofs.Cases.{cond_case}
use Rattle.lists.proofs.Places.{at_some}
use Rattle.service.specs.declared.readiness.Readiness.{Readiness}
use Rattle.service.specs.declared.readiness.Readiness.TheVariants as readiness
use Rattle.service.specs.Meaning.{Endpoints}
use Rattle.cache_model.specs.declared.entry.Entry.{Entry}
use Rattle.cache_model.specs.declared.error.Failed.{Failed}
use Rattle.cache_model.specs.Answers.{by_check}
use Rattle.cache_model.specs.Cache.{Cache, AskOutcome, check, load}
use Rattle.cache_model.proofs.Cases.{readiness_case}
use Rattle.cache_model.proofs.AtPlace.{check_there}
use Rattle.cache_model.proofs.Shrinks.{check_falls}
use Rattle.balance_model.specs.Meanings.{Meanings}
use Rattle.balance_model.specs.Draw.{DrawOutcome, draw}
use Rattle.balance_model.specs.Balance.{checks, SearchOutcome, with_steps, check_then, search_from, search_all, search_selected}
use Rattle.balance_model.specs.Search.{ReadyOr, load_read, loads_read, Search}
use Rattle.balance_model.proofs.Loops.{draw_within}
use Rattle.balance_model.proofs.Nobody.{none_left}
use Rattle.std.proofs.lemmas.Option.{slice_get_past}
use Rattle.std.proofs.lemmas.Bool.{ltb-true, ltb-false}

-- of an answer
module _ {E : Type 0} (A B : Type 0) where
  was_ready : (a : Readiness E) → a ≡ readiness.Ready → A → ReadyOr a A B
  was_ready readiness.Ready e x = x
  was_ready readiness.Pending e x = cc
  was_ready (readiness.Failed y) e x = cc

  was_pending : (a : Readiness E) → a ≡ readiness.Pending → B → ReadyOr a A B
  was_pending readiness.Ready e x = cc
  was_pending readiness.Pending e x = x
  was_pending (readiness.Failed y) e x = x

  had_failed : (y : E) (a : Readiness E) → a ≡ readiness.Failed y → B → ReadyOr a A B
  had_failed y readiness.Ready e x = cc
  had_failed y readiness.Pending e x = x
  had_failed y (readiness.Failed z) e x = x

module _ {K S Q A E W : Type 0} (ends : Endpoints S Q A E W) (now : ℕ) where
  load_ready : (c : Cache K S) (i : ℕ) → (load ends now c i).after.ready ≡ load_read ends now i c.ready
  load_ready c i = refl

module _ {K S Q A E W D F R : Type 0} (m : Meanings K S Q A E W D F R) (now : ℕ) where
  -- a draw is among all that are ready, and reads the loads of the two that its words give
  record DrawAmong (c : Cache K S) (d : DrawOutcome K S R) : Type 0 where
    before : d.made.before ≡ c.ready
    after : d.cache.ready ≡ loads_read m.endpoints now d.made.words c.ready

  draw_among : (c : Cache K S) (r : R) → DrawAmong c (draw m.endpoints m.weights now m.words c r)
  draw_among c r =
      let n : ℕ = length c.ready in
      let b : ℕ = nth_word m.words r 1 % n in
      let a : ℕ = first_place n (nth_word m.words r 0 % (n - 1)) b in
      cond_case (DrawAmong c) (ltb (length c.ready) 2) _ _
      (λ _. record { before = refl; after = refl })
      (λ _. record {
        before = refl;
        after = load_ready m.endpoints now (load m.endpoints now c a).after b ∙ ap (load_read m.endpoints now b) (load_ready m.endpoints now c a);
      })

  abbrev Searches : List (Entry K S) → Option ℕ → SearchOutcome K S E R → Type 0
  Searches ready place s = Search m.endpoints now ready place s.steps s.cache.ready

  -- the worker at the place is asked, and the search goes on among the others
  try_search : (more : Cache K S → R → SearchOutcome K S E R) (i : ℕ) (c : Cache K S) (r : R) → i < length c.ready →
      ((c' : Cache K S) → suc (length c'.ready) ≡ length c.ready → Searches c'.ready None (more c' r)) → Searches c.ready (Some i) (check_then m now more i c r)
  try_search more i c r h ih = go (at_some c.ready i h)
    where
      falls : ((check m.keys m.endpoints now c i).answer ≡ Ok true → ⊥) → suc (length (check m.keys m.endpoints now c i).after.ready) ≡ length c.ready
      falls = check_falls m.keys m.endpoints now c i h

      goes_on : AskOutcome (Result Bool (Failed K E)) K S E → SearchOutcome K S E R
      goes_on k = by_check k.answer
          (record { place = Some i; cache = k.after; words = r; lost = 0; steps = map checks k.asked })
          (with_steps (map checks k.asked) 0 (more k.after r))
          (with_steps (map checks k.asked) 1 (more k.after r))

      go : (x : Entry K S) × (slice_get c.ready i ≡ Some x) → Searches c.ready (Some i) (check_then m now more i c r)
      go (e, here) =
          let left = m.endpoints.poll_ready e.endpoint now in
          let Goal : AskOutcome (Result Bool (Failed K E)) K S E → Type 0 = λ k. ((k.answer ≡ Ok true → ⊥) → suc (length k.after.ready) ≡ length c.ready) → Searches c.ready (Some i) (goes_on k) in
          check_there m.keys m.endpoints now Goal c i e here
          (readiness_case Goal left.answer _ _ _
          (λ said _. (e, here, refl, was_ready _ _ left.answer said (refl, refl)))
          (λ said n. (e, here, refl, was_pending _ _ left.answer said (ih _ (n (λ y. cc)))))
          (λ x said n. (e, here, refl, had_failed _ _ x left.answer said (ih _ (n (λ y. cc))))))
          falls

  -- a search that draws first
  seek_search : (fuel : ℕ) (c : Cache K S) (r : R) → length c.ready ≡ fuel → Searches c.ready None (search_from m now fuel c r)
  seek_search zero c r n = let e = none_left c.ready (omega arith) in (e, e)
  seek_search (suc fuel) c r n =
      let d = draw m.endpoints m.weights now m.words c r in
      let w = draw_within m now c r in
      let same = w.same in
      let below = w.below (omega arith) in
      let among = draw_among c r in
      let checked = try_search (search_from m now fuel) d.made.place d.cache d.words (omega arith) (λ c' k. seek_search fuel c' d.words (omega arith)) in
      (among.before, subst (λ (ready : List (Entry K S)). Searches ready (Some d.made.place) (check_then m now (search_from m now fuel) d.made.place d.cache d.words)) among.after checked)

  -- a search from a place that is selected, if it is among the ready
  pub select_search : (selected : Option ℕ) (c : Cache K S) (r : R) → Searches c.ready (map_or selected None (λ i. cond (ltb i (length c.ready)) (Some i) None)) (search_selected m now selected c r)
  select_search None c r = seek_search (length c.ready) c r refl
  select_search (Some i) c r =
      cond_case (λ (place : Option ℕ). Searches c.ready place (search_selected m now (Some i) c r)) (ltb i (length c.ready)) _ _
      (λ t. try_search (search_all m now) i c r (ltb-true i (length c.ready) t) (λ c' k. seek_search (length c'.ready) c' r refl))
      (λ f. let past = slice_get_past c.ready i (ltb-false i (length c.ready) f) in rw (past, past) (seek_search (length c.ready) c r refl))

-- a place that is selected and among the ready is selected
pub selected_among : (selected : Option ℕ) (n i : ℕ) → map_or selected None (λ k. cond (ltb k n) (Some k) None) ≡ Some i → selected ≡ Some i
selected_among None n i e = cc
selected_among (Some k) n i e =
    cond_case (λ (o : Option ℕ). o ≡ Some i → Some k ≡ Some i) (ltb k n) _ _
    (λ _ same. same)
    (λ _ none. cc)
    e

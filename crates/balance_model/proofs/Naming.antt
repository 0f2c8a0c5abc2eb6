-- The worker that a poll finds granted at the poll's last question, and the draws on the way are fair.
use Rattle.std.specs.List.{AllByRecursion}
use Rattle.lists.specs.Lists.{last_of}
use Rattle.lists.proofs.Cases.{cond_case, some_case}
use Rattle.lists.proofs.Places.{at_set_same, last_append}
use Rattle.service.specs.declared.readiness.Readiness.{Readiness}
use Rattle.service.specs.Meaning.{Sameness, Endpoints, Weights, grant_after}
use Rattle.cache_model.specs.declared.entry.Entry.{Entry}
use Rattle.cache_model.specs.Entries.{with_endpoint}
use Rattle.cache_model.specs.Cache.{Cache, Question, AskOutcome, check}
use Rattle.cache_model.proofs.Cases.{readiness_case, check_case}
use Rattle.cache_model.proofs.AtPlace.{check_place}
use Rattle.balance_model.specs.Meanings.{Meanings}
use Rattle.balance_model.specs.Draw.{DrawOutcome, draw}
use Rattle.balance_model.specs.Balance.{SearchOutcome, checks, questions_in, draws_in, with_steps, check_then, search_from, search_all, search_selected}
use Rattle.balance_model.specs.History.{ready_question}
use Rattle.balance_model.specs.Promise.{DrawRight}
use Rattle.balance_model.proofs.Fair.{fair}
use Rattle.balance_model.proofs.Logs.{questions_after_checks, draws_after_checks, questions_of_checks, draws_of_checks}
use Rattle.std.proofs.Common.{◌≡◌, ℕ, zero, suc, ◌<◌, Bool, true, false, ltb, List, length, map, Some, Ok, Err, Option, Result, inl, inr, arith, refl, sym, ap, ◌∙◌, subst, slice_get}
use Rattle.std.proofs.lemmas.Bool.{ltb-true, ltb-false}
use Rattle.cache_model.proofs.Shrinks.{check_falls}
use Rattle.balance_model.proofs.Loops.{draw_within}
use Rattle.cache_model.specs.declared.error.Failed.{Failed}

not_yes : {K E : Type 0} → ◌≡◌ {A = Result Bool (Failed K E)} (Ok false) (Ok true) → ⊥
not_yes e = cc

failed_not_yes : {K E : Type 0} {x : Failed K E} → ◌≡◌ {A = Result Bool (Failed K E)} (Err x) (Ok true) → ⊥
failed_not_yes {K} {E} {x} e = cc

-- the entry at a place granted, and its question was the last of these
pub record Grants {K S Q A E W : Type 0} (ends : Endpoints S Q A E W) (now : ℕ) (rs : List (Entry K S)) (asked : List (Question E)) (i : ℕ) : Type 0 where
  pub entry : Entry K S
  pub stands : slice_get rs i ≡ Some entry
  pub last : last_of asked ≡ Some (ready_question entry.serial)
  pub grant : ends.grant entry.endpoint ≡ Some now

module _ {K S Q A E W : Type 0} (keys : Sameness K) (ends : Endpoints S Q A E W) (now : ℕ) where
  pub check_grants : (c : Cache K S) (i : ℕ) → (check keys ends now c i).answer ≡ Ok true → Grants ends now (check keys ends now c i).after.ready (check keys ends now c i).asked i
  check_grants c i =
      let Goal : AskOutcome (Result Bool (Failed K E)) K S E → Type 0 = λ k. k.answer ≡ Ok true → Grants ends now k.after.ready k.asked i in
      check_place keys ends now Goal c i
      (λ _ e. absurd (not_yes e))
      (λ e here.
      let mine : Entry K S = with_endpoint e (ends.poll_ready e.endpoint now).after in
      let question : Readiness E → Option (Question E) = λ r. Some (record { serial = e.serial; answer = r }) in
      readiness_case Goal (ends.poll_ready e.endpoint now).answer _ _ _
      (λ said _. record {
        entry = mine;
        stands = at_set_same c.ready i e mine here;
        last = ap question said;
        grant = ends.grant-poll_ready e.endpoint now ∙ ap (λ (r : Readiness E). grant_after r now) said;
      })
      (λ _ n. absurd (not_yes n))
      (λ x _ n. absurd (failed_not_yes n)))

pub record SoughtRight {K S Q A E W R : Type 0} (ends : Endpoints S Q A E W) (weights : Weights W) (now : ℕ) (s : SearchOutcome K S E R) : Type 0 where
  pub found : (i : ℕ) → s.place ≡ Some i → Grants ends now s.cache.ready (questions_in s.steps) i
  pub fair : AllByRecursion (DrawRight ends weights now) (draws_in s.steps)

module _ {K S Q A E W D F R : Type 0} (m : Meanings K S Q A E W D F R) (now : ℕ) where
  abbrev Right : SearchOutcome K S E R → Type 0
  Right = SoughtRight m.endpoints m.weights now

  -- a draw, where anybody is ready
  draw_right : (c : Cache K S) (r : R) → 0 < length c.ready → DrawRight m.endpoints m.weights now (draw m.endpoints m.weights now m.words c r).made
  draw_right c r some =
      cond_case (λ (d : DrawOutcome K S R). DrawRight m.endpoints m.weights now d.made) (ltb (length c.ready) 2) _ _
      (λ e. let few = ltb-true (length c.ready) 2 e in inl (omega arith, refl))
      (λ e. inr (fair m.endpoints m.weights now c _ _ (ltb-false (length c.ready) 2 e)))

  -- checks in front of a search
  after_checks_right : (qs : List (Question E)) (lost : ℕ) (s : SearchOutcome K S E R) → Right s → Right (with_steps (map checks qs) lost s)
  after_checks_right qs lost s r = record {
    found = λ i e. let g = r.found i e in record {
      entry = g.entry;
      stands = g.stands;
      last = ap last_of (questions_after_checks qs s.steps) ∙ last_append qs (questions_in s.steps) _ g.last;
      grant = g.grant;
    };
    fair = subst (AllByRecursion (DrawRight m.endpoints m.weights now)) (sym (draws_after_checks qs s.steps)) r.fair;
  }

  place_is : (i j : ℕ) → ◌≡◌ {A = Option ℕ} (Some i) (Some j) → i ≡ j
  place_is i j e = cc

  try_right : (more : Cache K S → R → SearchOutcome K S E R) (i : ℕ) (c : Cache K S) (r : R) → (((check m.keys m.endpoints now c i).answer ≡ Ok true → ⊥) → Right (more (check m.keys m.endpoints now c i).after r)) → Right (check_then m now more i c r)
  try_right more i c r ih =
      let k = check m.keys m.endpoints now c i in
      check_case Right k.answer _ _ _
      (λ yes_it_is. record {
        found = λ j e. subst (λ (x : ℕ). Grants m.endpoints now k.after.ready (questions_in {K = K} {S = S} (map checks k.asked)) x) (place_is i j e)
            (subst (λ (qs : List (Question E)). Grants m.endpoints now k.after.ready qs i) (sym (questions_of_checks K S k.asked)) (check_grants m.keys m.endpoints now c i yes_it_is));
        fair = subst (AllByRecursion (DrawRight m.endpoints m.weights now)) (sym (draws_of_checks K S k.asked)) tt;
      })
      (λ e. after_checks_right k.asked 0 (more k.after r) (ih (λ y. cc)))
      (λ x e. after_checks_right k.asked 1 (more k.after r) (ih (λ y. cc)))

  pub seek_right : (fuel : ℕ) (c : Cache K S) (r : R) → length c.ready ≡ fuel → Right (search_from m now fuel c r)
  seek_right zero c r n = record { found = λ i e. cc; fair = tt }
  seek_right (suc fuel) c r n =
      let d = draw m.endpoints m.weights now m.words c r in
      let w = draw_within m now c r in
      let same = w.same in
      let below = w.below (omega arith) in
      let next = try_right (search_from m now fuel) d.made.place d.cache d.words
      (λ unready. let f = check_falls m.keys m.endpoints now d.cache d.made.place (omega arith) unready in seek_right fuel _ d.words (omega arith)) in
      record {
        found = λ i e. let g = next.found i e in record { entry = g.entry; stands = g.stands; last = g.last; grant = g.grant };
        fair = (draw_right c r (omega arith), next.fair);
      }

  pub select_right : (selected : Option ℕ) (c : Cache K S) (r : R) → Right (search_selected m now selected c r)
  select_right selected c r =
      some_case Right selected _ _
      (λ _. seek_right (length c.ready) c r refl)
      (λ i _. try_right (search_all m now) i c r (λ _. seek_right _ (check m.keys m.endpoints now c i).after r refl))

-- Steps of the model, from what their parts answer and leave.
use Rattle.std.proofs.Common.{◌≡◌, ℕ, Bool, true, false, List, length, is_some, position, Some, None, Ok, Err, Option, Result, sym, refl, ap, ◌∙◌, slice_get}
use Rattle.std.proofs.lemmas.List.{length-set}
use Rattle.lists.specs.Outcome.{Outcome, outcome}
use Rattle.lists.specs.Options.{by_result}
use Rattle.lists.proofs.Cases.{some_case}
use Rattle.service.specs.Meaning.{Sameness, Endpoints, refused_by}
use Rattle.service.specs.declared.readiness.Readiness.{Readiness}
use Rattle.service.specs.declared.readiness.Readiness.TheVariants.{Ready, Pending, Failed}
use Rattle.cache_model.specs.declared.entry.Entry.{Entry}
use Rattle.cache_model.specs.declared.error.Failed.{Failed as Failure}
use Rattle.cache_model.specs.declared.call_refusal.CallRefusal.{CallRefusal}
use Rattle.cache_model.specs.Answers.{as_check, by_readiness, by_check}
use Rattle.cache_model.specs.Entries.{with_endpoint, has_serial}
use Rattle.cache_model.specs.Lists.{ask_in, call_in, after_finish}
use Rattle.cache_model.specs.Cache.{Cache, with_lists, remove, demote, check, call, finish}
use Rattle.ready_cache.proofs.Lists.{unchanged, finish_is}
use Rattle.ready_cache.specs.declared.ready_cache.ReadyCache.TheInside.{Inside}
use Rattle.ready_cache.proofs.Views.{shown, shown_with, Fits, ready_rewritten}

-- ---- one question

module _ {K S E B : Type 0} (e : Entry K S) where
  pub pick_ready : (r : Readiness E) (a b : B) (f : E → B) → Ok true ≡ as_check e r → by_readiness r a b f ≡ a
  pick_ready Ready a b f h = refl
  pick_ready Pending a b f h = cc
  pick_ready (Failed x) a b f h = cc

  pub pick_pending : (r : Readiness E) (a b : B) (f : E → B) → Ok false ≡ as_check e r → by_readiness r a b f ≡ b
  pick_pending Ready a b f h = cc
  pick_pending Pending a b f h = refl
  pick_pending (Failed x) a b f h = cc

  pub pick_failed : (r : Readiness E) (a b : B) (f : E → B) (y : Failure K E) → Err y ≡ as_check e r → by_readiness r a b f ≡ f y.error
  pick_failed Ready a b f y h = cc
  pick_failed Pending a b f y h = cc
  pick_failed (Failed x) a b f y h = let s : x ≡ y.error = cc in ap f s

-- ---- a check and a call at a place

module _ {K S Q A E W : Type 0} (keys : Sameness K) (ends : Endpoints S Q A E W) (now : ℕ) (f : Inside K S) (fits : Fits f) (i : ℕ) where
  abbrev v : Cache K S
  v = shown f

  abbrev told : Outcome (Result Bool (Failure K E)) (List (Entry K S))
  told = ask_in ends now v.ready i

  -- the memory shows the list that the step left
  module _ {zs : List (Entry K S)} (long : length zs ≡ length v.ready) where
    pub check_pending : zs ≡ told.after → Ok false ≡ told.answer → demote keys (shown_with f zs) i ≡ (check keys ends now v i).after
    check_pending l s =
        ap (λ z. demote keys z i) (ready_rewritten f fits zs long)
        ∙ ap (λ z. demote keys (with_lists v z v.pending) i) l
        ∙ ap (λ a. by_check a (with_lists v told.after v.pending) (demote keys (with_lists v told.after v.pending) i) (remove (with_lists v told.after v.pending) i)) s

    pub check_failed : {x : Failure K E} → zs ≡ told.after → Err x ≡ told.answer → remove (shown_with f zs) i ≡ (check keys ends now v i).after
    check_failed l s =
        ap (λ z. remove z i) (ready_rewritten f fits zs long)
        ∙ ap (λ z. remove (with_lists v z v.pending) i) l
        ∙ ap (λ a. by_check a (with_lists v told.after v.pending) (demote keys (with_lists v told.after v.pending) i) (remove (with_lists v told.after v.pending) i)) s

  call_long : (es : List (Entry K S)) (q : Q) → length (call_in ends now es i q).after ≡ length es
  call_long es q =
      let Goal : Outcome (Result A CallRefusal) (List (Entry K S)) → Type 0 = λ o. length o.after ≡ length es in
      some_case Goal (slice_get es i) _ _
      (λ _. refl)
      (λ e _. some_case Goal (refused_by ends e.endpoint) _ _ (λ _. length-set es i _) (λ _ _. refl))

  pub call_after : (q : Q) {a : A} {zs : List (Entry K S)} → zs ≡ (call_in ends now v.ready i q).after → Ok a ≡ (call_in ends now v.ready i q).answer → demote keys (shown_with f zs) i ≡ (call keys ends now v i q).after
  call_after q {a} {zs} l s =
      ap (λ z. demote keys z i) (ready_rewritten f fits zs (ap length l ∙ call_long v.ready q))
      ∙ ap (λ z. demote keys (with_lists v z v.pending) i) l
      ∙ ap (λ r. by_result r (λ _. demote keys (with_lists v (call_in ends now v.ready i q).after v.pending) i) (λ _. v)) s

-- ---- the end of a request

module _ {K S Q A E W : Type 0} (ends : Endpoints S Q A E W) (now serial sent : ℕ) where
  finish_none : (es : List (Entry K S)) (o : Option ℕ) → position (has_serial serial) es ≡ o → is_some o ≡ false → after_finish ends now es serial sent ≡ es
  finish_none es None h s = finish_is ends now es serial sent ∙ sym (unchanged (has_serial serial) (λ e. with_endpoint e (ends.finish e.endpoint sent now)) es (sym h))
  finish_none es (Some i) h s = cc

  pub finish_pending : (c : Cache K S) → is_some (position (has_serial serial) c.ready) ≡ false → finish ends now c serial sent ≡ outcome (is_some (position (has_serial serial) c.pending)) (with_lists c (after_finish ends now c.ready serial sent) (after_finish ends now c.pending serial sent))
  finish_pending c h =
      rw h (ap (λ z. outcome (is_some (position (has_serial serial) c.pending)) (with_lists c z (after_finish ends now c.pending serial sent))) (sym (finish_none c.ready (position (has_serial serial) c.ready) refl h)))

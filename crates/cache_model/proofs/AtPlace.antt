-- A check and a call at a place, case by case: there is nobody, or what the worker there says.
use Rattle.std.specs.Net.Reader.{map_or}
use Rattle.std.proofs.Common.{◌≡◌, ℕ, Bool, true, false, List, [], ◌∷◌, set, Some, None, Ok, Err, Option, Result, sym, refl, ap, ◌∙◌, subst, slice_get}
use Rattle.lists.specs.Outcome.{Outcome, outcome}
use Rattle.lists.specs.Lists.{swap_remove}
use Rattle.lists.specs.Options.{by_result}
use Rattle.lists.proofs.Places.{at_set_same}
use Rattle.lists.proofs.Slices.{swap_remove_set}
use Rattle.service.specs.Meaning.{Sameness, Endpoints, refused_by}
use Rattle.service.specs.declared.readiness.Readiness.{Readiness}
use Rattle.service.specs.declared.readiness.Readiness.TheVariants.{Ready, Pending, Failed}
use Rattle.service.specs.declared.refusal.EndpointRefusal.{EndpointRefusal}
use Rattle.cache_model.specs.declared.entry.Entry.{Entry}
use Rattle.cache_model.specs.declared.error.Failed.{Failed as Failure}
use Rattle.cache_model.specs.declared.call_refusal.CallRefusal.{CallRefusal}
use Rattle.cache_model.specs.declared.call_refusal.CallRefusal.TheVariants.{NotReady}
use Rattle.cache_model.specs.Answers.{as_call, as_check, by_readiness, by_check}
use Rattle.cache_model.specs.Entries.{with_endpoint, set_aside}
use Rattle.cache_model.specs.Cache.{Cache, Question, AskOutcome, with_lists, remove, demote, check, call}

module _ {K S : Type 0} (keys : Sameness K) where
  -- an entry that was written goes to pending as it was written
  pub demote_written : (c : Cache K S) (i : ℕ) (e x : Entry K S) → slice_get c.ready i ≡ Some e → demote keys (with_lists c (set c.ready i x) c.pending) i ≡ with_lists c (swap_remove c.ready i) (set_aside keys x c.pending)
  demote_written c i e x here =
      let u : Cache K S = with_lists c (set c.ready i x) c.pending in
      ap (λ o. map_or o u (λ y. with_lists u (swap_remove u.ready i) (set_aside keys y u.pending))) (at_set_same c.ready i e x here)
      ∙ ap (λ z. with_lists c z (set_aside keys x c.pending)) (swap_remove_set c.ready i x)

  module _ {Q A E W : Type 0} (ends : Endpoints S Q A E W) (now : ℕ) where
    -- ---- a check

    abbrev CheckOutcome : Type 0
    CheckOutcome = AskOutcome (Result Bool (Failure K E)) K S E

    -- of nobody, and of the entry e
    abbrev unasked : Cache K S → CheckOutcome
    unasked c = record { answer = Ok false; after = c; asked = [] }

    abbrev pub check_of : Cache K S → ℕ → Entry K S → CheckOutcome
    check_of c i e =
        let left = ends.poll_ready e.endpoint now in
        let mine : Entry K S = with_endpoint e left.after in
        let question : List (Question E) = record { serial = e.serial; answer = left.answer } ∷ [] in
        by_readiness left.answer
        (record { answer = Ok true; after = with_lists c (set c.ready i mine) c.pending; asked = question })
        (record { answer = Ok false; after = with_lists c (swap_remove c.ready i) (set_aside keys mine c.pending); asked = question })
        (λ x. record { answer = Err (record { key = e.key; error = x }); after = with_lists c (swap_remove c.ready i) c.pending; asked = question })

    nobody_asked : (c : Cache K S) (i : ℕ) → slice_get c.ready i ≡ None → check keys ends now c i ≡ unasked c
    nobody_asked c i none = rw (none, none) refl

    check_is : (c : Cache K S) (i : ℕ) (e : Entry K S) → slice_get c.ready i ≡ Some e → check keys ends now c i ≡ check_of c i e
    check_is c i e here = rw here (go (ends.poll_ready e.endpoint now).answer)
      where
        mine : Entry K S
        mine = with_endpoint e (ends.poll_ready e.endpoint now).after

        left : Cache K S
        left = with_lists c (set c.ready i mine) c.pending

        go : (a : Readiness E) →
            ◌≡◌ {A = CheckOutcome} (record { answer = as_check e a; after = by_check (as_check e a) left (demote keys left i) (remove left i); asked = record { serial = e.serial; answer = a } ∷ [] })
            (by_readiness a
            (record { answer = Ok true; after = with_lists c (set c.ready i mine) c.pending; asked = record { serial = e.serial; answer = a } ∷ [] })
            (record { answer = Ok false; after = with_lists c (swap_remove c.ready i) (set_aside keys mine c.pending); asked = record { serial = e.serial; answer = a } ∷ [] })
            (λ x. record { answer = Err (record { key = e.key; error = x }); after = with_lists c (swap_remove c.ready i) c.pending; asked = record { serial = e.serial; answer = a } ∷ [] }))
        go Ready = refl
        go Pending = ap (λ z. record { answer = Ok false; after = z; asked = record { serial = e.serial; answer = Pending } ∷ [] }) (demote_written c i e mine here)
        go (Failed x) = ap (λ z. record { answer = Err (record { key = e.key; error = x }); after = with_lists c z c.pending; asked = record { serial = e.serial; answer = Failed x } ∷ [] }) (swap_remove_set c.ready i mine)

    -- where somebody is there
    pub check_there : (P : CheckOutcome → Type 0) (c : Cache K S) (i : ℕ) (e : Entry K S) → slice_get c.ready i ≡ Some e → P (check_of c i e) → P (check keys ends now c i)
    check_there P c i e here = subst P (sym (check_is c i e here))

    -- where it is not known
    pub check_place : (P : CheckOutcome → Type 0) (c : Cache K S) (i : ℕ) → (slice_get c.ready i ≡ None → P (unasked c)) → ((e : Entry K S) → slice_get c.ready i ≡ Some e → P (check_of c i e)) → P (check keys ends now c i)
    check_place P c i none some = go (slice_get c.ready i) refl
      where
        go : (o : Option (Entry K S)) → slice_get c.ready i ≡ o → P (check keys ends now c i)
        go None h = subst P (sym (nobody_asked c i h)) (none h)
        go (Some e) h = check_there P c i e h (some e h)

    -- ---- a call

    abbrev CallOutcome : Type 0
    CallOutcome = Outcome (Result A CallRefusal) (Cache K S)

    abbrev pub call_of : Cache K S → ℕ → Q → Entry K S → CallOutcome
    call_of c i q e = map_or (refused_by ends e.endpoint)
        (let left = ends.accept e.endpoint q now in
        outcome (Ok left.answer) (with_lists c (swap_remove c.ready i) (set_aside keys (with_endpoint e left.after) c.pending)))
        (λ r. outcome (Err (as_call r)) c)

    nobody_called : (c : Cache K S) (i : ℕ) (q : Q) → slice_get c.ready i ≡ None → call keys ends now c i q ≡ outcome (Err NotReady) c
    nobody_called c i q none = rw none refl

    call_is : (c : Cache K S) (i : ℕ) (q : Q) (e : Entry K S) → slice_get c.ready i ≡ Some e → call keys ends now c i q ≡ call_of c i q e
    call_is c i q e here = rw here (go (refused_by ends e.endpoint))
      where
        mine : Entry K S
        mine = with_endpoint e (ends.accept e.endpoint q now).after

        answer : A
        answer = (ends.accept e.endpoint q now).answer

        go : (o : Option EndpointRefusal) →
            let told : Outcome (Result A CallRefusal) (List (Entry K S)) = map_or o (outcome (Ok answer) (set c.ready i mine)) (λ r. outcome (Err (as_call r)) c.ready) in
            ◌≡◌ {A = CallOutcome} (outcome told.answer (by_result told.answer (λ _. demote keys (with_lists c told.after c.pending) i) (λ _. c)))
            (map_or o (outcome (Ok answer) (with_lists c (swap_remove c.ready i) (set_aside keys mine c.pending))) (λ r. outcome (Err (as_call r)) c))
        go None = ap (outcome (Ok answer)) (demote_written c i e mine here)
        go (Some r) = refl

    -- where somebody is there
    pub call_there : (P : CallOutcome → Type 0) (c : Cache K S) (i : ℕ) (q : Q) (e : Entry K S) → slice_get c.ready i ≡ Some e → P (call_of c i q e) → P (call keys ends now c i q)
    call_there P c i q e here = subst P (sym (call_is c i q e here))

    -- where it is not known
    pub call_place : (P : CallOutcome → Type 0) (c : Cache K S) (i : ℕ) (q : Q) → (slice_get c.ready i ≡ None → P (outcome (Err NotReady) c)) → ((e : Entry K S) → slice_get c.ready i ≡ Some e → P (call_of c i q e)) → P (call keys ends now c i q)
    call_place P c i q none some = go (slice_get c.ready i) refl
      where
        go : (o : Option (Entry K S)) → slice_get c.ready i ≡ o → P (call keys ends now c i q)
        go None h = subst P (sym (nobody_called c i q h)) (none h)
        go (Some e) h = call_there P c i q e h (some e h)

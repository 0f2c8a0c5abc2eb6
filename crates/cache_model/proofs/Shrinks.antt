-- How the lists of a cache get shorter: a worker that fails, or is no longer ready, leaves its list.
use Rattle.std.specs.Net.Reader.{map_or}
use Rattle.lists.specs.Outcome.{Outcome}
use Rattle.lists.specs.Lists.{swap_remove}
use Rattle.lists.proofs.Cases.{cond_case, some_case}
use Rattle.lists.proofs.Places.{at_some, swap_length}
use Rattle.service.specs.Meaning.{Sameness, Endpoints}
use Rattle.cache_model.specs.declared.entry.Entry.{Entry}
use Rattle.cache_model.specs.Answers.{by_check}
use Rattle.cache_model.specs.Entries.{with_endpoint, set_aside, new_entry, promote, any_live}
use Rattle.cache_model.specs.Cache.{Cache, Question, AskOutcome, poll_pending, check, load, worker_count, pass, Pass, with_question, has_place, nothing_pending}
use Rattle.cache_model.proofs.Cases.{readiness_case}
use Rattle.cache_model.proofs.AtPlace.{check_place, check_there}
use Rattle.std.proofs.Common.{◌≡◌, ℕ, zero, suc, ◌+◌, ◌<◌, ◌≤◌, Bool, true, List, [], ◌∷◌, ◌++◌, length, take, drop, Some, None, Ok, Err, Option, Result, refl, ap, arith, length-append, length-drop, length-set, length-take, slice_get}
use Rattle.cache_model.specs.declared.error.NoPlace.{NoPlace}
use Rattle.cache_model.specs.declared.error.Failed.{Failed}
use Rattle.cache_model.specs.declared.error.PendingError.{PendingError}
use Rattle.cache_model.specs.declared.error.PendingError.TheVariants as pending

module _ {K S Q A E W : Type 0} (keys : Sameness K) (ends : Endpoints S Q A E W) (now : ℕ) where
  -- a pass that lost a worker leaves fewer than it met
  abbrev LostOne : Option (PendingError K E) → ℕ → ℕ → Type 0
  LostOne fault after before = (x : Failed K E) → fault ≡ Some (pending.Failed x) → after < before

  no_fault : {P : Type 0} {x : PendingError K E} → None ≡ Some x → P
  no_fault {P} {x} e = cc

  no_place_not_failed : {P : Type 0} {y : NoPlace K} {x : Failed K E} → ◌≡◌ {A = Option (PendingError K E)} (Some (pending.NoPlace y)) (Some (pending.Failed x)) → P
  no_place_not_failed {P} {y} {x} e = cc

  abbrev PassLost : List (Entry K S) → List (Entry K S) → Pass K S E → Type 0
  PassLost kept todo p = LostOne p.fault (length (p.kept ++ p.rest)) (length kept + length todo)

  pass_lost : (capacity : ℕ) (rs kept todo : List (Entry K S)) → PassLost kept todo (pass keys ends now capacity rs kept todo)
  pass_lost capacity rs kept [] = λ x e. no_fault e
  pass_lost capacity rs kept (e ∷ es) =
      let mine : Entry K S = with_endpoint e (ends.poll_ready e.endpoint now).after in
      let question : Question E = record { serial = e.serial; answer = (ends.poll_ready e.endpoint now).answer } in
      let Goal : Pass K S E → Type 0 = PassLost kept (e ∷ es) in
      cond_case Goal e.cancelled _ _
      (λ _ x f. let h = pass_lost capacity rs kept es x f in omega arith)
      (λ _. readiness_case (λ (p : Pass K S E). Goal (with_question question p)) (ends.poll_ready e.endpoint now).answer _ _ _
      (λ _. cond_case (λ (p : Pass K S E). Goal (with_question question p)) (has_place keys capacity rs e.key) _ _
      (λ _ x f. let h = pass_lost capacity (promote keys mine rs) kept es x f in omega arith)
      (λ _ x f. no_place_not_failed f))
      (λ _ x f. let h = pass_lost capacity rs (kept ++ (mine ∷ [])) es x f in let g = length-append kept (mine ∷ []) in omega arith)
      (λ _ _ x f. let g = length-append kept es in omega arith))

  -- `poll_pending` that reports a failure leaves fewer pending
  pub poll_pending_falls : (c : Cache K S) (x : Failed K E) → (poll_pending keys ends now c).answer ≡ Err (pending.Failed x) → length (poll_pending keys ends now c).after.pending < length c.pending
  poll_pending_falls c x e =
      let p = pass keys ends now c.capacity c.ready (take c.resume c.pending) (drop c.resume c.pending) in
      let h = pass_lost c.capacity c.ready (take c.resume c.pending) (drop c.resume c.pending) x (fault_is p.fault p.kept e) in
      let a = length-take c.resume c.pending in
      let b = length-drop c.resume c.pending in
      omega arith
    where
      fault_is : (o : Option (PendingError K E)) (kept : List (Entry K S)) → map_or o (Ok (nothing_pending kept)) Err ≡ Err (pending.Failed x) → o ≡ Some (pending.Failed x)
      fault_is None kept e = cc
      fault_is (Some y) kept e = ap Some (let q : y ≡ pending.Failed x = cc in q)

  -- a check at a ready place that is not answered by Ready leaves one less ready
  pub check_falls : (c : Cache K S) (i : ℕ) → i < length c.ready → ((check keys ends now c i).answer ≡ Ok true → ⊥) → suc (length (check keys ends now c i).after.ready) ≡ length c.ready
  check_falls c i h =
      let e = at_some c.ready i h in
      check_there keys ends now Goal c i e.0 e.1
      (readiness_case Goal (ends.poll_ready e.0.endpoint now).answer _ _ _
      (λ _ n. absurd (n refl))
      (λ _ _. swap_length c.ready i h)
      (λ x _ _. swap_length c.ready i h))
    where
      Goal : AskOutcome (Result Bool (Failed K E)) K S E → Type 0
      Goal k = (k.answer ≡ Ok true → ⊥) → suc (length k.after.ready) ≡ length c.ready

  -- reading a load leaves the number of ready ones
  pub load_length : (c : Cache K S) (i : ℕ) → length (load ends now c i).after.ready ≡ length c.ready
  load_length c i =
      some_case (λ (o : Outcome (Option W) (List (Entry K S))). length o.after ≡ length c.ready) (slice_get c.ready i) _ _
      (λ _. refl)
      (λ e _. length-set c.ready i (with_endpoint e (ends.load e.endpoint now)))

  aside_length : (e : Entry K S) (ps : List (Entry K S)) → length (set_aside keys e ps) ≤ suc (length ps)
  aside_length e ps =
      cond_case (λ (xs : List (Entry K S)). length xs ≤ suc (length ps)) (any_live keys e.key ps) _ _
      (λ _. omega arith)
      (λ _. let h = length-append ps (new_entry e.key e.endpoint e.serial ∷ []) in omega arith)

  swap_short : (xs : List (Entry K S)) (i : ℕ) (e : Entry K S) → slice_get xs i ≡ Some e → suc (length (swap_remove xs i)) ≡ length xs
  swap_short [] i e h = cc
  swap_short (x ∷ []) zero e h = refl
  swap_short (x ∷ y ∷ ys) zero e h = swap_length (x ∷ y ∷ ys) zero (omega arith)
  swap_short (x ∷ xs) (suc i) e h = ap suc (swap_short xs i e h)

  -- a check adds nobody, and one that fails leaves one less
  pub check_held : (c : Cache K S) (i : ℕ) → worker_count (check keys ends now c i).after + by_check (check keys ends now c i).answer 0 0 1 ≤ worker_count c
  check_held c i =
      let Goal : AskOutcome (Result Bool (Failed K E)) K S E → Type 0 = λ k. worker_count k.after + by_check k.answer 0 0 1 ≤ worker_count c in
      check_place keys ends now Goal c i
      (λ _. omega arith)
      (λ e here. readiness_case Goal (ends.poll_ready e.endpoint now).answer _ _ _
      (λ _. let h = length-set c.ready i (with_endpoint e (ends.poll_ready e.endpoint now).after) in omega arith)
      (λ _. let h = swap_short c.ready i e here in let g = aside_length (with_endpoint e (ends.poll_ready e.endpoint now).after) c.pending in omega arith)
      (λ x _. let h = swap_short c.ready i e here in omega arith))

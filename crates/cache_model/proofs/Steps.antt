-- What the steps of a cache keep: no worker is made or counted anew, and no key gets a second entry.
use Rattle.std.proofs.Common.{◌≡◌, ℕ, ◌+◌, ◌≤◌, Bool, false, List, [], ◌∷◌, ◌++◌, take, drop, Option, Result, refl, ap, ◌∙◌, le_trans, le_refl, arith, slice_get}
use Rattle.lists.specs.Outcome.{Outcome}
use Rattle.lists.proofs.Cases.{cond_case, some_case}
use Rattle.lists.proofs.Totals.{total, total_append, total_swap, total_swap_le, total_set, total_take_drop}
use Rattle.service.specs.Meaning.{Sameness, Endpoints}
use Rattle.cache_model.specs.declared.entry.Entry.{Entry}
use Rattle.cache_model.specs.declared.error.Failed.{Failed}
use Rattle.cache_model.specs.Entries.{with_endpoint, has_key, live_of, any_live, cancel, promote, set_aside, ready_place}
use Rattle.cache_model.specs.Cache.{Cache, Question, AskOutcome, with_lists, has_place, with_question, evict, Pass, pass, poll_pending, check, load}
use Rattle.cache_model.proofs.Cases.{readiness_case}
use Rattle.cache_model.proofs.AtPlace.{check_place}
use Rattle.cache_model.proofs.Keys.{of_key, of_live, promote_single, cancel_less, aside_single}

module _ {K S Q A E W : Type 0} (keys : Sameness K) (ends : Endpoints S Q A E W) where
  -- a number for each worker, by its serial and its count
  abbrev pub of_worker : (ℕ → ℕ → ℕ) → Entry K S → ℕ
  of_worker f e = f e.serial (ends.count e.endpoint)

  abbrev pub sum_held : (ℕ → ℕ → ℕ) → Cache K S → ℕ
  sum_held f c = total (of_worker f) c.ready + total (of_worker f) c.pending

  pub record Single (c : Cache K S) : Type 0 where
    pub ready : (k : K) → total (of_key keys k) c.ready ≤ 1
    pub pending : (k : K) → total (of_live keys k) c.pending ≤ 1

  pub record Keeps (c c' : Cache K S) : Type 0 where
    pub sums : (f : ℕ → ℕ → ℕ) → sum_held f c' ≤ sum_held f c
    pub single : Single c → Single c'
    pub next : c'.next ≡ c.next
    pub capacity : c'.capacity ≡ c.capacity

  pub keeps_refl : (c : Cache K S) → Keeps c c
  keeps_refl c = record { sums = λ f. le_refl _; single = λ s. s; next = refl; capacity = refl }

  pub keeps_trans : (a b c : Cache K S) → Keeps a b → Keeps b c → Keeps a c
  keeps_trans a b c p q = record { sums = λ f. le_trans (q.sums f) (p.sums f); single = λ s. q.single (p.single s); next = q.next ∙ p.next; capacity = q.capacity ∙ p.capacity }

  promote_sum : (f : ℕ → ℕ → ℕ) (e : Entry K S) (rs : List (Entry K S)) → total (of_worker f) (promote keys e rs) ≤ of_worker f e + total (of_worker f) rs
  promote_sum f e [] = omega arith
  promote_sum f e (r ∷ rs) =
      cond_case (λ (xs : List (Entry K S)). total (of_worker f) xs ≤ of_worker f e + total (of_worker f) (r ∷ rs)) (has_key keys e.key r) _ _
      (λ _. omega arith)
      (λ _. let h = promote_sum f e rs in omega arith)

  pub cancel_sum : (f : ℕ → ℕ → ℕ) (k : K) (ps : List (Entry K S)) → total (of_worker f) (cancel keys k ps) ≡ total (of_worker f) ps
  cancel_sum f k [] = refl
  cancel_sum f k (e ∷ es) =
      cond_case (λ (xs : List (Entry K S)). total (of_worker f) xs ≡ total (of_worker f) (e ∷ es)) (live_of keys k e) _ _
      (λ _. refl)
      (λ _. ap (λ (x : ℕ). of_worker f e + x) (cancel_sum f k es))

  pub aside_sum : (f : ℕ → ℕ → ℕ) (e : Entry K S) (ps : List (Entry K S)) → total (of_worker f) (set_aside keys e ps) ≤ of_worker f e + total (of_worker f) ps
  aside_sum f e ps =
      cond_case (λ (xs : List (Entry K S)). total (of_worker f) xs ≤ of_worker f e + total (of_worker f) ps) (any_live keys e.key ps) _ _
      (λ _. omega arith)
      (λ _. let h = total_append (of_worker f) ps (record { key = e.key; endpoint = e.endpoint; serial = e.serial; cancelled = false } ∷ []) in omega arith)

  pub evict_keeps : (c : Cache K S) (k : K) → Keeps c (evict keys c k).after
  evict_keeps c k =
      some_case (λ (rs : List (Entry K S)). Keeps c (with_lists c rs (cancel keys k c.pending))) (ready_place keys k c.ready) _ _
      (λ _. record {
        sums = λ f. let h = cancel_sum f k c.pending in omega arith;
        single = λ s. record { ready = s.ready; pending = λ j. le_trans (cancel_less keys j k c.pending) (s.pending j) };
        next = refl;
        capacity = refl;
      })
      (λ i _. record {
        sums = λ f. let h = cancel_sum f k c.pending in let g = total_swap_le (of_worker f) c.ready i in omega arith;
        single = λ s. record { ready = λ j. le_trans (total_swap_le (of_key keys j) c.ready i) (s.ready j); pending = λ j. le_trans (cancel_less keys j k c.pending) (s.pending j) };
        next = refl;
        capacity = refl;
      })

  -- an answer leaves the worker's number
  pub same_worker : (f : ℕ → ℕ → ℕ) (e : Entry K S) (now : ℕ) → of_worker f (with_endpoint e (ends.poll_ready e.endpoint now).after) ≡ of_worker f e
  same_worker f e now = ap (f e.serial) (ends.count-poll_ready e.endpoint now)

  module _ (now : ℕ) where
    pub record PassKeeps (rs kept todo : List (Entry K S)) (p : Pass K S E) : Type 0 where
      pub sums : (f : ℕ → ℕ → ℕ) → total (of_worker f) p.ready + total (of_worker f) (p.kept ++ p.rest) ≤ total (of_worker f) rs + total (of_worker f) kept + total (of_worker f) todo
      pub ready : ((k : K) → total (of_key keys k) rs ≤ 1) → (k : K) → total (of_key keys k) p.ready ≤ 1
      pub pending : (k : K) → total (of_live keys k) (p.kept ++ p.rest) ≤ total (of_live keys k) kept + total (of_live keys k) todo

    abbrev question : Entry K S → Question E
    question e = record { serial = e.serial; answer = (ends.poll_ready e.endpoint now).answer }

    pass_keeps : (capacity : ℕ) (rs kept todo : List (Entry K S)) → PassKeeps rs kept todo (pass keys ends now capacity rs kept todo)
    pass_keeps capacity rs kept [] = record {
      sums = λ f. let h = total_append (of_worker f) kept [] in omega arith;
      ready = λ h. h;
      pending = λ k. let h = total_append (of_live keys k) kept [] in omega arith;
    }
    pass_keeps capacity rs kept (e ∷ es) =
        let mine : Entry K S = with_endpoint e (ends.poll_ready e.endpoint now).after in
        let Goal : Pass K S E → Type 0 = PassKeeps rs kept (e ∷ es) in
        cond_case Goal e.cancelled _ _
        (λ _. let ih = pass_keeps capacity rs kept es in record {
          sums = λ f. let h = ih.sums f in omega arith;
          ready = ih.ready;
          pending = λ k. let h = ih.pending k in omega arith;
        })
        (λ _. readiness_case (λ (p : Pass K S E). Goal (with_question (question e) p)) (ends.poll_ready e.endpoint now).answer _ _ _
        (λ _. cond_case (λ (p : Pass K S E). Goal (with_question (question e) p)) (has_place keys capacity rs e.key) _ _
        (λ _. let ih = pass_keeps capacity (promote keys mine rs) kept es in record {
          sums = λ f. let h = ih.sums f in let g = promote_sum f mine rs in let w = same_worker f e now in omega arith;
          ready = λ h. ih.ready (λ k. promote_single keys k mine rs (h k));
          pending = λ k. let h = ih.pending k in omega arith;
        })
        (λ _. record {
          sums = λ f. let h = total_append (of_worker f) kept (mine ∷ es) in let w = same_worker f e now in omega arith;
          ready = λ h. h;
          pending = λ k. let h = total_append (of_live keys k) kept (mine ∷ es) in omega arith;
        }))
        (λ _. let ih = pass_keeps capacity rs (kept ++ (mine ∷ [])) es in record {
          sums = λ f. let h = ih.sums f in let g = total_append (of_worker f) kept (mine ∷ []) in let w = same_worker f e now in omega arith;
          ready = ih.ready;
          pending = λ k. let h = ih.pending k in let g = total_append (of_live keys k) kept (mine ∷ []) in omega arith;
        })
        (λ x _. record {
          sums = λ f. let h = total_append (of_worker f) kept es in omega arith;
          ready = λ h. h;
          pending = λ k. let h = total_append (of_live keys k) kept es in omega arith;
        }))

    pub poll_pending_keeps : (c : Cache K S) → Keeps c (poll_pending keys ends now c).after
    poll_pending_keeps c =
        let p = pass_keeps c.capacity c.ready (take c.resume c.pending) (drop c.resume c.pending) in
        record {
          sums = λ f. let h = p.sums f in let g = total_take_drop (of_worker f) c.resume c.pending in omega arith;
          single = λ s. record {
            ready = p.ready s.ready;
            pending = λ k. let h = p.pending k in let g = total_take_drop (of_live keys k) c.resume c.pending in let t = s.pending k in omega arith;
          };
          next = refl;
          capacity = refl;
        }

    pub check_keeps : (c : Cache K S) (i : ℕ) → Keeps c (check keys ends now c i).after
    check_keeps c i =
        check_place keys ends now (λ (k : AskOutcome (Result Bool (Failed K E)) K S E). Keeps c k.after) c i
        (λ _. keeps_refl c)
        (λ e here.
        let mine : Entry K S = with_endpoint e (ends.poll_ready e.endpoint now).after in
        readiness_case (λ (k : AskOutcome (Result Bool (Failed K E)) K S E). Keeps c k.after) (ends.poll_ready e.endpoint now).answer _ _ _
        (λ _. record {
          sums = λ f. let h = total_set (of_worker f) c.ready i e mine here (same_worker f e now) in omega arith;
          single = λ s. record { ready = λ k. let h = total_set (of_key keys k) c.ready i e mine here refl in let g = s.ready k in omega arith; pending = s.pending };
          next = refl;
          capacity = refl;
        })
        (λ _. record {
          sums = λ f. let h = total_swap (of_worker f) c.ready i e here in let g = aside_sum f mine c.pending in let w = same_worker f e now in omega arith;
          single = λ s. record { ready = λ k. le_trans (total_swap_le (of_key keys k) c.ready i) (s.ready k); pending = λ k. aside_single keys k mine c.pending (s.pending k) };
          next = refl;
          capacity = refl;
        })
        (λ x _. record {
          sums = λ f. let h = total_swap_le (of_worker f) c.ready i in omega arith;
          single = λ s. record { ready = λ k. le_trans (total_swap_le (of_key keys k) c.ready i) (s.ready k); pending = s.pending };
          next = refl;
          capacity = refl;
        }))

    -- reading a load
    pub load_keeps : (c : Cache K S) (i : ℕ) → Keeps c (load ends now c i).after
    load_keeps c i =
        some_case (λ (o : Outcome (Option W) (List (Entry K S))). Keeps c (with_lists c o.after c.pending)) (slice_get c.ready i) _ _
        (λ _. keeps_refl c)
        (λ e here.
        let mine : Entry K S = with_endpoint e (ends.load e.endpoint now) in
        record {
          sums = λ f. let h = total_set (of_worker f) c.ready i e mine here (ap (f e.serial) (ends.count-load e.endpoint now)) in omega arith;
          single = λ s. record { ready = λ k. let h = total_set (of_key keys k) c.ready i e mine here refl in let g = s.ready k in omega arith; pending = s.pending };
          next = refl;
          capacity = refl;
        })

-- After any sequence of calls on a newly made cache, its laws hold.
use Rattle.std.specs.List.{AllByRecursion}
use Rattle.std.proofs.Common.{◌≡◌, ℕ, ◌<◌, ◌≤◌, Bool, true, false, eqb, ◌⊎◌, List, [], ◌∷◌, ◌++◌, length, Result, sym, refl, ap, subst, inl, inr, le_trans, arith}
use Rattle.std.proofs.lemmas.Bool.{ne_eqb, eq-eqb, cases_lt}
use Rattle.std.proofs.lemmas.Bool.Decides.{eqb_tells}
use Rattle.lists.specs.Outcome.{Outcome}
use Rattle.lists.specs.Sums.{one_if}
use Rattle.lists.proofs.Cases.{some_case}
use Rattle.lists.proofs.Places.{each_append}
use Rattle.lists.proofs.Totals.{total, total_append, total_swap, total_swap_le}
use Rattle.service.specs.Meaning.{Sameness, Endpoints, refused_by}
use Rattle.cache_model.specs.declared.entry.Entry.{Entry}
use Rattle.cache_model.specs.declared.error.Failed.{Failed}
use Rattle.cache_model.specs.declared.call_refusal.CallRefusal.{CallRefusal}
use Rattle.cache_model.specs.Entries.{with_endpoint, has_key, has_serial, live_of, ready_place}
use Rattle.cache_model.specs.Cache.{Cache, new_cache, AskOutcome, worker_count, with_worker, push, check_key, call, call_key, finish}
use Rattle.cache_model.specs.Laws.{KeysOnce, SerialsOnce, Lawful, CacheCall, Push, Evict, PollPending, CheckIndex, CheckKey, CallIndex, CallKey, Finish, Load, after_call, after_calls, AlwaysLawful}
use Rattle.cache_model.proofs.Keys.{count_by_total, one_if_le, of_key, aside_single}
use Rattle.cache_model.proofs.Steps.{of_worker, sum_held, Single, Keeps, keeps_refl, evict_keeps, poll_pending_keeps, check_keeps, load_keeps, aside_sum}
use Rattle.cache_model.proofs.Serials.{is_serial}
use Rattle.cache_model.proofs.AtPlace.{call_place}
use Rattle.cache_model.proofs.Finish.{finish_told}
use Rattle.cache_model.proofs.Pushes.{push_cases, pushed_sum, pushed_single}

-- one for each entry
abbrev one_each : ℕ → ℕ → ℕ
one_each s n = 1

module _ {K S Q A E W : Type 0} (keys : Sameness K) (ends : Endpoints S Q A E W) where
  abbrev sums : (ℕ → ℕ → ℕ) → Cache K S → ℕ
  sums = sum_held keys ends

  pub record Holds (c : Cache K S) : Type 0 where
    pub single : Single keys ends c
    pub serials : (s : ℕ) → sums (is_serial s) c ≤ 1
    pub below : (s : ℕ) → c.next ≤ s → sums (is_serial s) c ≡ 0
    pub fits : sums one_each c ≤ c.capacity

  -- a step that adds nobody
  record Shrinks (c c' : Cache K S) : Type 0 where
    serials : (s : ℕ) → sums (is_serial s) c' ≤ sums (is_serial s) c
    size : sums one_each c' ≤ sums one_each c
    single : Single keys ends c → Single keys ends c'
    next : c'.next ≡ c.next
    capacity : c'.capacity ≡ c.capacity

  shrunk : (c c' : Cache K S) → Shrinks c c' → Holds c → Holds c'
  shrunk c c' k h =
      let n = k.next in
      let m = k.capacity in
      record {
        single = k.single h.single;
        serials = λ s. le_trans (k.serials s) (h.serials s);
        below = λ s above. let a = k.serials s in let z = h.below s (omega arith) in omega arith;
        fits = let a = k.size in let z = h.fits in omega arith;
      }

  from_keeps : (c c' : Cache K S) → Keeps keys ends c c' → Shrinks c c'
  from_keeps c c' k = record { serials = λ s. k.sums (is_serial s); size = k.sums one_each; single = k.single; next = k.next; capacity = k.capacity }

  sizes_told : (xs : List (Entry K S)) → total (of_worker keys ends one_each) xs ≡ length xs
  sizes_told [] = refl
  sizes_told (x ∷ xs) = let h = sizes_told xs in omega arith

  finish_shrinks : (now : ℕ) (c : Cache K S) (serial sent : ℕ) → Shrinks c (finish ends now c serial sent).after
  finish_shrinks now c serial sent =
      let t = finish_told keys ends now c serial sent in
      record {
        serials = λ s. let e = t.serials s in omega arith;
        size = t.size;
        single = t.single;
        next = t.next;
        capacity = t.capacity;
      }

  call_shrinks : (now : ℕ) (c : Cache K S) (i : ℕ) (q : Q) → Shrinks c (call keys ends now c i q).after
  call_shrinks now c i q =
      let Goal : Outcome (Result A CallRefusal) (Cache K S) → Type 0 = λ o. Shrinks c o.after in
      call_place keys ends now Goal c i q
      (λ _. from_keeps c c (keeps_refl keys ends c))
      (λ e here. some_case Goal (refused_by ends e.endpoint) _ _
      (λ _. let mine : Entry K S = with_endpoint e (ends.accept e.endpoint q now).after in record {
        serials = λ s. let h = total_swap (of_worker keys ends (is_serial s)) c.ready i e here in let g = aside_sum keys ends (is_serial s) mine c.pending in omega arith;
        size = let h = total_swap (of_worker keys ends one_each) c.ready i e here in let g = aside_sum keys ends one_each mine c.pending in omega arith;
        single = λ s. record { ready = λ k. le_trans (total_swap_le (of_key keys k) c.ready i) (s.ready k); pending = λ k. aside_single keys k mine c.pending (s.pending k) };
        next = refl;
        capacity = refl;
      })
      (λ r _. from_keeps c c (keeps_refl keys ends c)))

  taken_holds : (c : Cache K S) (k : K) (s : S) → worker_count c < c.capacity → Holds c → Holds (with_worker keys c k s)
  taken_holds c k s room h = record {
    single = pushed_single keys ends c k s h.single;
    serials = λ x. once x (eqb_tells c.next x);
    below = λ x above. let a = pushed_sum keys ends (is_serial x) c k s in let z : one_if (eqb c.next x) ≡ 0 = ap one_if (ne_eqb c.next x (omega arith)) in let y = h.below x (omega arith) in omega arith;
    fits = let a = pushed_sum keys ends one_each c k s in let r = sizes_told c.ready in let p = sizes_told c.pending in omega arith;
  }
    where
      once : (x : ℕ) → ((eqb c.next x ≡ true) × (c.next ≡ x)) ⊎ ((eqb c.next x ≡ false) × (c.next ≡ x → ⊥)) → sums (is_serial x) (with_worker keys c k s) ≤ 1
      once x (inl t) = let a = pushed_sum keys ends (is_serial x) c k s in let q = t.1 in let y = h.below x (omega arith) in let o = one_if_le (eqb c.next x) in omega arith
      once x (inr t) = let a = pushed_sum keys ends (is_serial x) c k s in let z : one_if (eqb c.next x) ≡ 0 = ap one_if t.0 in let y = h.serials x in omega arith

  push_holds : (c : Cache K S) (k : K) (s : S) → Holds c → Holds (push keys c k s).after
  push_holds c k s h = go (push_cases keys ends c k s)
    where
      go : ((push keys c k s).after ≡ c) ⊎ (((push keys c k s).after ≡ with_worker keys c k s) × (worker_count c < c.capacity)) → Holds (push keys c k s).after
      go (inl e) = subst Holds (sym e) h
      go (inr e) = subst Holds (sym e.0) (taken_holds c k s e.1 h)

  check_key_shrinks : (now : ℕ) (c : Cache K S) (k : K) → Shrinks c (check_key keys ends now c k).after
  check_key_shrinks now c k =
      some_case (λ (o : AskOutcome (Result Bool (Failed K E)) K S E). Shrinks c o.after) (ready_place keys k c.ready) _ _
      (λ _. from_keeps c c (keeps_refl keys ends c))
      (λ i _. from_keeps c _ (check_keeps keys ends now c i))

  call_key_shrinks : (now : ℕ) (c : Cache K S) (k : K) (q : Q) → Shrinks c (call_key keys ends now c k q).after
  call_key_shrinks now c k q =
      some_case (λ (o : Outcome (Result A CallRefusal) (Cache K S)). Shrinks c o.after) (ready_place keys k c.ready) _ _
      (λ _. from_keeps c c (keeps_refl keys ends c))
      (λ i _. call_shrinks now c i q)

  call_holds : (c : Cache K S) (x : CacheCall K S Q) → Holds c → Holds (after_call keys ends c x)
  call_holds c (Push k s) h = push_holds c k s h
  call_holds c (Evict k) h = shrunk c _ (from_keeps c _ (evict_keeps keys ends c k)) h
  call_holds c (PollPending now) h = shrunk c _ (from_keeps c _ (poll_pending_keeps keys ends now c)) h
  call_holds c (CheckIndex i now) h = shrunk c _ (from_keeps c _ (check_keeps keys ends now c i)) h
  call_holds c (CheckKey k now) h = shrunk c _ (check_key_shrinks now c k) h
  call_holds c (CallIndex i q now) h = shrunk c _ (call_shrinks now c i q) h
  call_holds c (CallKey k q now) h = shrunk c _ (call_key_shrinks now c k q) h
  call_holds c (Finish serial sent now) h = shrunk c _ (finish_shrinks now c serial sent) h
  call_holds c (Load i now) h = shrunk c _ (from_keeps c _ (load_keeps keys ends now c i)) h

  calls_hold : (c : Cache K S) (xs : List (CacheCall K S Q)) → Holds c → Holds (after_calls keys ends c xs)
  calls_hold c [] h = h
  calls_hold c (x ∷ xs) h = calls_hold (after_call keys ends c x) xs (call_holds c x h)

  -- serials below the next one
  each_below : (next : ℕ) (xs : List (Entry K S)) → ((s : ℕ) → next ≤ s → total (of_worker keys ends (is_serial s)) xs ≡ 0) → AllByRecursion (λ e. e.serial < next) xs
  each_below next [] z = tt
  each_below next (e ∷ es) z = (go (cases_lt e.serial next), each_below next es (λ s above. let a = z s above in omega arith))
    where
      go : (e.serial < next) ⊎ (next ≤ e.serial) → e.serial < next
      go (inl y) = y
      go (inr n) = let a = z e.serial n in let o : one_if (eqb e.serial e.serial) ≡ 1 = ap one_if (eq-eqb e.serial e.serial refl) in absurd (omega arith)

  pub serials_once : (c : Cache K S) → ((s : ℕ) → sums (is_serial s) c ≤ 1) → ((s : ℕ) → c.next ≤ s → sums (is_serial s) c ≡ 0) → SerialsOnce c
  serials_once c once below = record {
    once = λ s.
        let a = count_by_total (has_serial s) (c.ready ++ c.pending) in
        let b = total_append (λ (e : Entry K S). one_if (has_serial s e)) c.ready c.pending in
        let o = once s in
        omega arith;
    below = each_append (λ e. e.serial < c.next) c.ready c.pending
        (each_below c.next c.ready (λ s above. let a = below s above in omega arith))
        (each_below c.next c.pending (λ s above. let a = below s above in omega arith));
  }

  pub keys_once : (c : Cache K S) → Single keys ends c → KeysOnce keys c
  keys_once c s = record {
    ready = λ k. let a = count_by_total (has_key keys k) c.ready in let b = s.ready k in omega arith;
    pending = λ k. let a = count_by_total (live_of keys k) c.pending in let b = s.pending k in omega arith;
  }

  lawful : (c : Cache K S) → Holds c → Lawful keys c
  lawful c h = record {
    keys_once = keys_once c h.single;
    serials_once = serials_once c h.serials h.below;
    fits = let a = h.fits in let r = sizes_told c.ready in let p = sizes_told c.pending in omega arith;
  }

  pub new_holds : (capacity first : ℕ) → Holds (new_cache capacity first)
  new_holds capacity first = record {
    single = record { ready = λ k. omega arith; pending = λ k. omega arith };
    serials = λ s. omega arith;
    below = λ s above. refl;
    fits = omega arith;
  }

  pub always_lawful : (capacity first : ℕ) → AlwaysLawful keys ends (new_cache capacity first)
  always_lawful capacity first calls = lawful _ (calls_hold (new_cache capacity first) calls (new_holds capacity first))

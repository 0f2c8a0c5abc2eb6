-- What a push does: it is refused and changes nothing, or one worker comes in under the next serial.
use Rattle.std.proofs.Common.{◌≡◌, ℕ, ◌+◌, ◌-◌, ◌^◌, ◌<◌, ◌≤◌, Bool, true, false, not, ◌&&◌, IsTrue, ltb, ◌⊎◌, [], ◌∷◌, ◌++◌, Ok, Err, Result, refl, inl, inr, arith}
use Rattle.std.proofs.lemmas.Bool.{ltb-true, not-false}
use Rattle.lists.specs.Outcome.{Outcome}
use Rattle.lists.specs.Sums.{one_if}
use Rattle.lists.proofs.Cases.{cond_case}
use Rattle.lists.proofs.Totals.{total, total_append}
use Rattle.service.specs.Meaning.{Sameness, Endpoints}
use Rattle.cache_model.specs.declared.error.PushError.{PushError}
use Rattle.cache_model.specs.Entries.{new_entry, cancel}
use Rattle.cache_model.specs.Cache.{Cache, worker_count, with_worker, push}
use Rattle.cache_model.proofs.Keys.{one_if_le, of_live, cancel_less, cancel_all}
use Rattle.cache_model.proofs.Steps.{of_worker, sum_held, Single, cancel_sum}

module _ {K S Q A E W : Type 0} (keys : Sameness K) (ends : Endpoints S Q A E W) where
  pub push_taken : (c : Cache K S) (k : K) (s : S) (serial : ℕ) → (push keys c k s).answer ≡ Ok serial → (serial ≡ c.next) × ((push keys c k s).after ≡ with_worker keys c k s)
  push_taken c k s serial =
      let Goal : Outcome (Result ℕ (PushError K)) (Cache K S) → Type 0 = λ l. l.answer ≡ Ok serial → (serial ≡ c.next) × (l.after ≡ with_worker keys c k s) in
      cond_case Goal (not (ltb (worker_count c) c.capacity)) _ _
      (λ _ e. cc)
      (λ _. cond_case Goal (not (ltb c.next (2 ^ 64 - 1))) _ _
      (λ _ e. cc)
      (λ _ e. (cc, refl)))

  pub pushed_sum : (f : ℕ → ℕ → ℕ) (c : Cache K S) (k : K) (s : S) → sum_held keys ends f (with_worker keys c k s) ≡ sum_held keys ends f c + f c.next (ends.count s)
  pushed_sum f c k s =
      let a = total_append (of_worker keys ends f) (cancel keys k c.pending) (new_entry k s c.next ∷ []) in
      let b = cancel_sum keys ends f k c.pending in
      omega arith

  pub pushed_single : (c : Cache K S) (k : K) (s : S) → Single keys ends c → Single keys ends (with_worker keys c k s)
  pushed_single c k s h = record {
    ready = h.ready;
    pending = λ j. let a = total_append (of_live keys j) (cancel keys k c.pending) (new_entry k s c.next ∷ []) in go j (keys.same j k) refl a (h.pending j) (cancel_less keys j k c.pending) (cancel_all keys j k c.pending);
  }
    where
      go : (j : K) (b : Bool) → keys.same j k ≡ b →
          total (of_live keys j) (cancel keys k c.pending ++ (new_entry k s c.next ∷ [])) ≡ total (of_live keys j) (cancel keys k c.pending) + (one_if (keys.same j k && true) + 0) →
          total (of_live keys j) c.pending ≤ 1 → total (of_live keys j) (cancel keys k c.pending) ≤ total (of_live keys j) c.pending →
          (IsTrue (keys.same j k) → total (of_live keys j) c.pending ≤ 1 → total (of_live keys j) (cancel keys k c.pending) ≡ 0) →
          total (of_live keys j) (cancel keys k c.pending ++ (new_entry k s c.next ∷ [])) ≤ 1
      go j true p a one less all = let z = all p one in let o = one_if_le (keys.same j k && true) in omega arith
      go j false p a one less all = let o : one_if (keys.same j k && true) ≡ 0 = rw p refl in omega arith

  -- a refused push changes nothing
  pub push_refused : (c : Cache K S) (k : K) (s : S) (e : PushError K) → (push keys c k s).answer ≡ Err e → (push keys c k s).after ≡ c
  push_refused c k s e =
      let Goal : Outcome (Result ℕ (PushError K)) (Cache K S) → Type 0 = λ l. l.answer ≡ Err e → l.after ≡ c in
      cond_case Goal (not (ltb (worker_count c) c.capacity)) _ _
      (λ _ _. refl)
      (λ _. cond_case Goal (not (ltb c.next (2 ^ 64 - 1))) _ _
      (λ _ _. refl)
      (λ _ x. cc))

  -- either way
  pub push_cases : (c : Cache K S) (k : K) (s : S) → ((push keys c k s).after ≡ c) ⊎ (((push keys c k s).after ≡ with_worker keys c k s) × (worker_count c < c.capacity))
  push_cases c k s =
      let Goal : Outcome (Result ℕ (PushError K)) (Cache K S) → Type 0 = λ l. (l.after ≡ c) ⊎ ((l.after ≡ with_worker keys c k s) × (worker_count c < c.capacity)) in
      cond_case Goal (not (ltb (worker_count c) c.capacity)) _ _
      (λ _. inl refl)
      (λ room. cond_case Goal (not (ltb c.next (2 ^ 64 - 1))) _ _
      (λ _. inl refl)
      (λ _. inr (refl, ltb-true (worker_count c) c.capacity (not-false (ltb (worker_count c) c.capacity) room))))

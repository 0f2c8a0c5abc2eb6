-- What the end of a request does to the workers: the one of its serial has one less, and nothing else changes.
use Rattle.std.proofs.Common.{◌≡◌, ℕ, zero, suc, ◌+◌, ◌-◌, ◌≤◌, Bool, true, false, cond, ◌&&◌, eqb, List, [], ◌∷◌, is_some, position, Some, None, Option, sym, refl, ap, ◌∙◌, arith, slice_get}
use Rattle.std.proofs.lemmas.Bool.{ne_eqb, eq-eqb, eqb-true}
use Rattle.lists.specs.Outcome.{Outcome}
use Rattle.lists.specs.Sums.{one_if}
use Rattle.lists.proofs.Std.{place_of, one_more, position_is}
use Rattle.lists.proofs.Cases.{cond_case}
use Rattle.lists.proofs.Totals.{total, total_mono}
use Rattle.service.specs.Meaning.{Sameness, Endpoints}
use Rattle.cache_model.specs.declared.entry.Entry.{Entry}
use Rattle.cache_model.specs.Entries.{with_endpoint, has_serial}
use Rattle.cache_model.specs.Lists.{after_finish}
use Rattle.cache_model.specs.Cache.{Cache, with_lists, finish}
use Rattle.cache_model.proofs.Keys.{of_key, of_live}
use Rattle.cache_model.proofs.Steps.{sum_held, Single, of_worker}
use Rattle.cache_model.proofs.Serials.{is_serial, is_pair, pair_serial}

module _ {K S Q A E W : Type 0} (keys : Sameness K) (ends : Endpoints S Q A E W) (now : ℕ) where
  abbrev worker : (ℕ → ℕ → ℕ) → Entry K S → ℕ
  worker f = of_worker keys ends f

  -- what does not look at the endpoint stays
  pub finish_keeps : (g : Entry K S → ℕ) → ((e : Entry K S) (s : S) → g (with_endpoint e s) ≡ g e) → (xs : List (Entry K S)) (serial sent : ℕ) → total g (after_finish ends now xs serial sent) ≡ total g xs
  finish_keeps g same [] serial sent = refl
  finish_keeps g same (e ∷ es) serial sent =
      cond_case (λ (xs : List (Entry K S)). total g xs ≡ total g (e ∷ es)) (eqb e.serial serial) _ _
      (λ _. ap (λ (x : ℕ). x + total g es) (same e _))
      (λ _. ap (λ (x : ℕ). g e + x) (finish_keeps g same es serial sent))

  -- a worker of another serial stays
  finish_other : (x n : ℕ) (xs : List (Entry K S)) (serial sent : ℕ) → (x ≡ serial → ⊥) → total (worker (is_pair x n)) (after_finish ends now xs serial sent) ≡ total (worker (is_pair x n)) xs
  finish_other x n [] serial sent ne = refl
  finish_other x n (e ∷ es) serial sent ne =
      cond_case (λ (xs : List (Entry K S)). total (worker (is_pair x n)) xs ≡ total (worker (is_pair x n)) (e ∷ es)) (eqb e.serial serial) _ _
      (λ t.
      let q = eqb-true e.serial serial t in
      let z : eqb e.serial x ≡ false = ne_eqb e.serial x (λ p. ne (sym p ∙ q)) in
      rw z refl)
      (λ _. ap (λ (y : ℕ). worker (is_pair x n) e + y) (finish_other x n es serial sent ne))

  pairs_le : (x n : ℕ) (xs : List (Entry K S)) → total (worker (is_pair x n)) xs ≤ total (worker (is_serial x)) xs
  pairs_le x n xs = total_mono (worker (is_pair x n)) (worker (is_serial x)) (λ y. pair_serial x n y.serial (ends.count y.endpoint)) xs

  -- the worker of the serial has one less
  finish_own : (n : ℕ) (xs : List (Entry K S)) (serial sent : ℕ) → total (worker (is_serial serial)) xs ≤ 1 → 1 ≤ total (worker (is_pair serial n)) (after_finish ends now xs serial sent) → (n' : ℕ) × (1 ≤ total (worker (is_pair serial n')) xs) × (n ≡ n' - 1)
  finish_own n [] serial sent le = λ one. absurd (omega arith)
  finish_own n (e ∷ es) serial sent le =
      cond_case (λ (xs : List (Entry K S)). 1 ≤ total (worker (is_pair serial n)) xs → (n' : ℕ) × (1 ≤ total (worker (is_pair serial n')) (e ∷ es)) × (n ≡ n' - 1)) (eqb e.serial serial) _ _
      (λ t one. here t one)
      (λ t one.
      let z : is_pair serial n e.serial (ends.count e.endpoint) ≡ 0 = rw t refl in
      let r = finish_own n es serial sent (omega arith) (omega arith) in
      (r.0, omega (arith, r.1), r.2))
    where
      here : eqb e.serial serial ≡ true → 1 ≤ is_pair serial n e.serial (ends.count (ends.finish e.endpoint sent now)) + total (worker (is_pair serial n)) es → (n' : ℕ) × (1 ≤ total (worker (is_pair serial n')) (e ∷ es)) × (n ≡ n' - 1)
      here t one =
          let w : is_serial serial e.serial 0 ≡ 1 = ap one_if t in
          let p = pairs_le serial n es in
          let g : 1 ≤ is_pair serial n e.serial (ends.count (ends.finish e.endpoint sent now)) = omega arith in
          let k : is_pair serial (ends.count e.endpoint) e.serial (ends.count e.endpoint) ≡ 1 = rw (t, eq-eqb (ends.count e.endpoint) (ends.count e.endpoint) refl) refl in
          (ends.count e.endpoint, omega arith, go (eqb e.serial serial) (eqb (ends.count (ends.finish e.endpoint sent now)) n) refl g)
        where
          go : (y v : Bool) → eqb (ends.count (ends.finish e.endpoint sent now)) n ≡ v → 1 ≤ one_if (y && v) → n ≡ ends.count e.endpoint - 1
          go true true p g = sym (eqb-true (ends.count (ends.finish e.endpoint sent now)) n p) ∙ ends.count-finish e.endpoint sent now
          go true false p g = absurd (omega arith)
          go false v p g = absurd (omega arith)

  pub record Still (rs : List (Entry K S)) (i : ℕ) (e : Entry K S) : Type 0 where
    pub entry : Entry K S
    pub stands : slice_get rs i ≡ Some entry
    pub serial : entry.serial ≡ e.serial
    pub grant : ends.grant entry.endpoint ≡ ends.grant e.endpoint

  at_finish : (xs : List (Entry K S)) (serial sent i : ℕ) (e : Entry K S) → slice_get xs i ≡ Some e → Still (after_finish ends now xs serial sent) i e
  at_finish [] serial sent i e p = cc
  at_finish (x ∷ xs) serial sent zero e p =
      let q : x ≡ e = cc in
      cond_case (λ (ys : List (Entry K S)). Still ys 0 e) (eqb x.serial serial) _ _
      (λ _. record { entry = _; stands = refl; serial = ap (λ (y : Entry K S). y.serial) q; grant = ends.grant-finish x.endpoint sent now ∙ ap (λ (y : Entry K S). ends.grant y.endpoint) q })
      (λ _. record { entry = x; stands = refl; serial = ap (λ (y : Entry K S). y.serial) q; grant = ap (λ (y : Entry K S). ends.grant y.endpoint) q })
  at_finish (x ∷ xs) serial sent (suc i) e p =
      cond_case (λ (ys : List (Entry K S)). Still ys (suc i) e) (eqb x.serial serial) _ _
      (λ _. record { entry = e; stands = p; serial = refl; grant = refl })
      (λ _. let r = at_finish xs serial sent i e p in record { entry = r.entry; stands = r.stands; serial = r.serial; grant = r.grant })

  no_serial_by : (serial : ℕ) (xs : List (Entry K S)) → is_some (place_of (has_serial serial) xs) ≡ false → total (worker (is_serial serial)) xs ≡ 0
  no_serial_by serial [] e = refl
  no_serial_by serial (x ∷ xs) e = go (eqb x.serial serial) (place_of (has_serial serial) xs) e (no_serial_by serial xs)
    where
      go : (p : Bool) (o : Option ℕ) → is_some (cond p (Some 0) (one_more o)) ≡ false → (is_some o ≡ false → total (worker (is_serial serial)) xs ≡ 0) → one_if p + total (worker (is_serial serial)) xs ≡ 0
      go true o e ih = cc
      go false None e ih = let r = ih refl in omega arith
      go false (Some i) e ih = cc

  some_serial_by : (serial : ℕ) (xs : List (Entry K S)) → is_some (place_of (has_serial serial) xs) ≡ true → 1 ≤ total (worker (is_serial serial)) xs
  some_serial_by serial [] e = cc
  some_serial_by serial (x ∷ xs) e = go (eqb x.serial serial) (place_of (has_serial serial) xs) e (some_serial_by serial xs)
    where
      go : (p : Bool) (o : Option ℕ) → is_some (cond p (Some 0) (one_more o)) ≡ true → (is_some o ≡ true → 1 ≤ total (worker (is_serial serial)) xs) → 1 ≤ one_if p + total (worker (is_serial serial)) xs
      go true o e ih = omega arith
      go false None e ih = cc
      go false (Some i) e ih = let r = ih refl in omega arith

  no_serial : (serial : ℕ) (xs : List (Entry K S)) → is_some (position (has_serial serial) xs) ≡ false → total (worker (is_serial serial)) xs ≡ 0
  no_serial serial xs e = no_serial_by serial xs (ap is_some (sym (position_is (has_serial serial) xs)) ∙ e)

  some_serial : (serial : ℕ) (xs : List (Entry K S)) → is_some (position (has_serial serial) xs) ≡ true → 1 ≤ total (worker (is_serial serial)) xs
  some_serial serial xs e = some_serial_by serial xs (ap is_some (sym (position_is (has_serial serial) xs)) ∙ e)

  -- what telling a worker that a request is over does to the cache
  pub record FinishEffect (c c' : Cache K S) (serial : ℕ) : Type 0 where
    pub single : Single keys ends c → Single keys ends c'
    pub serials : (x : ℕ) → sum_held keys ends (is_serial x) c' ≡ sum_held keys ends (is_serial x) c
    pub size : sum_held keys ends (λ s n. 1) c' ≤ sum_held keys ends (λ s n. 1) c
    pub others : (x n : ℕ) → (x ≡ serial → ⊥) → sum_held keys ends (is_pair x n) c' ≡ sum_held keys ends (is_pair x n) c
    pub own : (n : ℕ) → sum_held keys ends (is_serial serial) c ≤ 1 → 1 ≤ sum_held keys ends (is_pair serial n) c' → (n' : ℕ) × (1 ≤ sum_held keys ends (is_pair serial n') c) × (n ≡ n' - 1)
    pub next : c'.next ≡ c.next
    pub capacity : c'.capacity ≡ c.capacity
    pub still : (i : ℕ) (e : Entry K S) → slice_get c.ready i ≡ Some e → Still c'.ready i e

  pub told_ready : (c : Cache K S) (serial sent : ℕ) → is_some (position (has_serial serial) c.ready) ≡ true → FinishEffect c (with_lists c (after_finish ends now c.ready serial sent) c.pending) serial
  told_ready c serial sent has = record {
    single = λ s. record { ready = λ k. let a = finish_keeps (of_key keys k) (λ e x. refl) c.ready serial sent in let b = s.ready k in omega arith; pending = s.pending };
    serials = λ x. let a = finish_keeps (worker (is_serial x)) (λ e y. refl) c.ready serial sent in omega arith;
    size = let a = finish_keeps (worker (λ s n. 1)) (λ e y. refl) c.ready serial sent in omega arith;
    others = λ x n ne. let a = finish_other x n c.ready serial sent ne in omega arith;
    own = λ n le one.
        let a = some_serial serial c.ready has in
        let b = pairs_le serial n c.pending in
        let r = finish_own n c.ready serial sent (omega arith) (omega arith) in
        (r.0, omega (arith, r.1), r.2);
    next = refl;
    capacity = refl;
    still = λ i e p. at_finish c.ready serial sent i e p;
  }

  pub told_pending : (c : Cache K S) (serial sent : ℕ) → is_some (position (has_serial serial) c.ready) ≡ false → FinishEffect c (with_lists c c.ready (after_finish ends now c.pending serial sent)) serial
  told_pending c serial sent has = record {
    single = λ s. record { ready = s.ready; pending = λ k. let a = finish_keeps (of_live keys k) (λ e x. refl) c.pending serial sent in let b = s.pending k in omega arith };
    serials = λ x. let a = finish_keeps (worker (is_serial x)) (λ e y. refl) c.pending serial sent in omega arith;
    size = let a = finish_keeps (worker (λ s n. 1)) (λ e y. refl) c.pending serial sent in omega arith;
    others = λ x n ne. let a = finish_other x n c.pending serial sent ne in omega arith;
    own = λ n le one.
        let a = no_serial serial c.ready has in
        let b = pairs_le serial n c.ready in
        let r = finish_own n c.pending serial sent (omega arith) (omega arith) in
        (r.0, omega (arith, r.1), r.2);
    next = refl;
    capacity = refl;
    still = λ i e p. record { entry = e; stands = p; serial = refl; grant = refl };
  }

  -- whatever it finds
  pub finish_told : (c : Cache K S) (serial sent : ℕ) → FinishEffect c (finish ends now c serial sent).after serial
  finish_told c serial sent =
      cond_case (λ (o : Outcome Bool (Cache K S)). FinishEffect c o.after serial) (is_some (position (has_serial serial) c.ready)) _ _
      (λ has. told_ready c serial sent has)
      (λ not_ready. told_pending c serial sent not_ready)

-- One turn of each loop of a poll, as its model has it.
use Rattle.lists.proofs.Cases.{cond_case, some_case}
use Rattle.rng.specs.Pairs.{first_place}
use Rattle.rng.proofs.Floyd.{two_below}
use Rattle.rng.specs.Words.{nth_word}
use Rattle.service.specs.declared.poll.Poll.{Poll}
use Rattle.service.specs.Meaning.{Sameness, Endpoints}
use Rattle.cache_model.specs.Answers.{by_check, by_pass}
use Rattle.cache_model.specs.Cache.{Cache, AskOutcome, poll_pending, check, load}
use Rattle.balance_model.specs.Meanings.{Meanings}
use Rattle.balance_model.specs.Draw.{DrawOutcome, weigh, draw}
use Rattle.balance_model.specs.Balance.{PassesOutcome, with_one_lost, settle, SearchOutcome, checks, draws, with_steps, check_then, search_from, search_all, settle_all}
use Rattle.std.proofs.Common.{◌≡◌, ℕ, zero, suc, ◌-◌, ◌%◌, ◌<◌, Bool, true, false, ltb, [], ◌∷◌, length, map, Some, None, Ok, Err, Result, sym, refl, ap, ◌∙◌, subst, mod-lt, arith}
use Rattle.std.proofs.lemmas.Bool.{ltb-false}
use Rattle.cache_model.specs.declared.error.Failed.{Failed}
use Rattle.cache_model.specs.declared.error.PendingError.{PendingError}
use Rattle.cache_model.proofs.Shrinks.{poll_pending_falls, check_falls, load_length}
use Rattle.cache_model.specs.declared.error.PendingError.TheVariants as pending

module _ {K S Q A E W : Type 0} (keys : Sameness K) (ends : Endpoints S Q A E W) (now : ℕ) where
  -- ---- the passes over pending

  -- what a pass leads to, where `more` follows a lost worker
  abbrev going_on : Cache K S → PassesOutcome K S E → Result (Poll (Unit {0})) (PendingError K E) → PassesOutcome K S E
  going_on c more v =
      let p = poll_pending keys ends now c in
      by_pass v (record { cache = p.after; lost = 0; asked = p.asked; stuck = None }) (λ k. record { cache = p.after; lost = 0; asked = p.asked; stuck = Some k }) (λ _. with_one_lost p.asked more)

  same_pass : (c : Cache K S) (v : Result (Poll (Unit {0})) (PendingError K E)) → (poll_pending keys ends now c).answer ≡ v → (x y : PassesOutcome K S E) →
      ((f : Failed K E) → (poll_pending keys ends now c).answer ≡ Err (pending.Failed f) → x ≡ y) → going_on c x v ≡ going_on c y v
  same_pass c (Ok a) e x y f = refl
  same_pass c (Err (pending.NoPlace k)) e x y f = refl
  same_pass c (Err (pending.Failed a)) e x y f = ap (with_one_lost (poll_pending keys ends now c).asked) (f a e)

  -- fuel above the pending length makes no difference
  settle_fuel : (n k : ℕ) (c : Cache K S) → length c.pending < n → length c.pending < k → settle keys ends now n c ≡ settle keys ends now k c
  settle_fuel zero k c a b = absurd (omega arith)
  settle_fuel (suc n) zero c a b = absurd (omega arith)
  settle_fuel (suc n) (suc k) c a b =
      let p = poll_pending keys ends now c in
      same_pass c p.answer refl (settle keys ends now n p.after) (settle keys ends now k p.after)
      (λ x e. let f = poll_pending_falls keys ends now c x e in settle_fuel n k p.after (omega arith) (omega arith))

  -- a pass that lost a worker is followed by another
  pub settle_lost : (c : Cache K S) (x : Failed K E) → (poll_pending keys ends now c).answer ≡ Err (pending.Failed x) →
      settle_all keys ends now c ≡ with_one_lost (poll_pending keys ends now c).asked (settle_all keys ends now (poll_pending keys ends now c).after)
  settle_lost c x e =
      let p = poll_pending keys ends now c in
      let f = poll_pending_falls keys ends now c x e in
      ap (going_on c (settle keys ends now (length c.pending) p.after)) e
      ∙ ap (with_one_lost p.asked) (settle_fuel (length c.pending) (suc (length p.after.pending)) p.after (omega arith) (omega arith))

module _ {K S Q A E W D F R : Type 0} (m : Meanings K S Q A E W D F R) (now : ℕ) where
  -- ---- the search for a ready worker

  weigh_length : (c : Cache K S) (a b : ℕ) → length (weigh m.endpoints m.weights now c a b).cache.ready ≡ length c.ready
  weigh_length c a b = load_length m.keys m.endpoints now (load m.endpoints now c a).after b ∙ load_length m.keys m.endpoints now c a

  weigh_below : (c : Cache K S) (a b n : ℕ) → a < n → b < n → (weigh m.endpoints m.weights now c a b).place < n
  weigh_below c a b n ha hb =
      let first = load m.endpoints now c a in
      let second = load m.endpoints now first.after b in
      some_case (λ (x : ℕ). x < n) first.answer _ _
      (λ _. ha)
      (λ v _. some_case (λ (x : ℕ). x < n) second.answer _ _
      (λ _. ha)
      (λ w _. cond_case (λ (x : ℕ). x < n) (m.weights.not_heavier v w) a b (λ _. ha) (λ _. hb)))

  -- a draw leaves the number of ready workers, and is among them
  pub record DrawWithin (c : Cache K S) (d : DrawOutcome K S R) : Type 0 where
    pub same : length d.cache.ready ≡ length c.ready
    pub below : 0 < length c.ready → d.made.place < length c.ready

  pub draw_within : (c : Cache K S) (r : R) → DrawWithin c (draw m.endpoints m.weights now m.words c r)
  draw_within c r =
      let n : ℕ = length c.ready in
      let x : ℕ = nth_word m.words r 0 % (n - 1) in
      let y : ℕ = nth_word m.words r 1 % n in
      cond_case (DrawWithin c) (ltb n 2) _ _
      (λ _. record { same = refl; below = λ h. h })
      (λ e.
      let h = ltb-false n 2 e in
      let two = two_below n x y (mod-lt _ (omega arith)) (mod-lt _ (omega arith)) in
      record { same = weigh_length c (first_place n x y) y; below = λ _. weigh_below c (first_place n x y) y n two.first two.second })

  load_pending : (c : Cache K S) (i : ℕ) → (load m.endpoints now c i).after.pending ≡ c.pending
  load_pending c i = refl

  -- and it leaves the pending workers
  pub draw_pending : (c : Cache K S) (r : R) → length (draw m.endpoints m.weights now m.words c r).cache.pending ≡ length c.pending
  draw_pending c r =
      let n : ℕ = length c.ready in
      let x : ℕ = nth_word m.words r 0 % (n - 1) in
      let y : ℕ = nth_word m.words r 1 % n in
      cond_case (λ (d : DrawOutcome K S R). length d.cache.pending ≡ length c.pending) (ltb n 2) _ _
      (λ _. refl)
      (λ _. ap length (load_pending (load m.endpoints now c (first_place n x y)).after y ∙ load_pending c (first_place n x y)))

  -- where the place is ready or not, the search goes on over what is left, which is one less
  try_seek : (fuel i : ℕ) (c : Cache K S) (r : R) → i < length c.ready → suc fuel ≡ length c.ready → check_then m now (search_from m now fuel) i c r ≡ check_then m now (search_all m now) i c r
  try_seek fuel i c r h n = go k.answer (check_falls m.keys m.endpoints now c i h)
    where
      k : AskOutcome (Result Bool (Failed K E)) K S E
      k = check m.keys m.endpoints now c i

      found : SearchOutcome K S E R
      found = record { place = Some i; cache = k.after; words = r; lost = 0; steps = map checks k.asked }

      fewer : suc (length k.after.ready) ≡ length c.ready → search_from m now fuel k.after r ≡ search_all m now k.after r
      fewer f = ap (λ (x : ℕ). search_from m now x k.after r) (omega arith)

      go : (v : Result Bool (Failed K E)) → ((v ≡ Ok true → ⊥) → suc (length k.after.ready) ≡ length c.ready) →
          by_check v found (with_steps (map checks k.asked) 0 (search_from m now fuel k.after r)) (with_steps (map checks k.asked) 1 (search_from m now fuel k.after r))
          ≡ by_check v found (with_steps (map checks k.asked) 0 (search_all m now k.after r)) (with_steps (map checks k.asked) 1 (search_all m now k.after r))
      go (Ok true) f = refl
      go (Ok false) f = ap (with_steps (map checks k.asked) 0) (fewer (f (λ e. cc)))
      go (Err x) f = ap (with_steps (map checks k.asked) 1) (fewer (f (λ e. cc)))

  -- where anybody is ready, one is drawn and tried
  pub seek_some : (c : Cache K S) (r : R) → 0 < length c.ready →
      let d = draw m.endpoints m.weights now m.words c r in
      search_all m now c r ≡ with_steps (draws d.made ∷ []) 0 (check_then m now (search_all m now) d.made.place d.cache d.words)
  seek_some c r h =
      let d = draw m.endpoints m.weights now m.words c r in
      let w = draw_within c r in
      let e : length c.ready ≡ suc (length c.ready - 1) = omega arith in
      let s = w.same in
      ap (λ (n : ℕ). search_from m now n c r) e
      ∙ ap (with_steps (draws d.made ∷ []) 0) (try_seek (length c.ready - 1) d.made.place d.cache d.words (subst (λ (n : ℕ). d.made.place < n) (sym s) (w.below h)) (omega arith))

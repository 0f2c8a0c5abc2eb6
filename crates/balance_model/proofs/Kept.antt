-- The worker at a selected place keeps its key while the feed is read and the pending workers are asked.
use Rattle.std.specs.Net.Reader.{map_or}
use Rattle.std.proofs.Common.{◌≡◌, ℕ, zero, suc, Bool, true, false, cond, ◌||◌, eqb, List, [], ◌∷◌, length, take, drop, Some, None, Option, sym, refl, ap, subst, IsSomeAnd, slice_get}
use Rattle.std.proofs.lemmas.Bool.{eqb-false}
use Rattle.lists.specs.Options.{by_result}
use Rattle.lists.specs.Lists.{front, swap_remove}
use Rattle.lists.proofs.Cases.{cond_case, result_case}
use Rattle.service.specs.Meaning.{Sameness, Endpoints}
use Rattle.cache_model.specs.declared.entry.Entry.{Entry}
use Rattle.cache_model.specs.Entries.{has_key, with_endpoint, ready_place, promote}
use Rattle.cache_model.specs.Cache.{Cache, Pass, with_question, has_place, push, evict, pass, poll_pending}
use Rattle.cache_model.proofs.Pushes.{push_taken, push_refused}
use Rattle.cache_model.proofs.Cases.{readiness_case, pass_case}
use Rattle.balance_model.specs.Meanings.{Meanings}
use Rattle.balance_model.specs.Balance.{FeedAnswer, FeedOutcome, with_pushes, feed_end, still_selected, read_feed, PassesOutcome, settle}
use Rattle.balance_model.proofs.Cases.{discovered_case}
use Rattle.balance_model.proofs.Feed.{read_feed_selected}

either_false : (a b : Bool) → a || b ≡ false → (a ≡ false) × (b ≡ false)
either_false true b e = cc
either_false false b e = (refl, e)

module _ {K S : Type 0} (k : K) where
  -- the entry at a place has the key
  abbrev pub KeyAt : ℕ → List (Entry K S) → Type 0
  KeyAt i rs = IsSomeAnd (slice_get rs i) (λ e. e.key ≡ k)

  front_key : (y : Entry K S) (ys : List (Entry K S)) (j : ℕ) → KeyAt j (y ∷ ys) → (suc j ≡ length (y ∷ ys) → ⊥) → KeyAt j (front y ys)
  front_key y [] zero h n = absurd (n refl)
  front_key y [] (suc j) h n = absurd h
  front_key y (z ∷ zs) zero h n = h
  front_key y (z ∷ zs) (suc j) h n = front_key z zs j h (λ e. n (ap suc e))

  -- another entry leaves, and the last one moves
  swap_key : (rs : List (Entry K S)) (gone i : ℕ) → KeyAt i rs → (i ≡ gone → ⊥) → (suc i ≡ length rs → ⊥) → KeyAt i (swap_remove rs gone)
  swap_key [] gone i h a b = absurd h
  swap_key (x ∷ xs) zero zero h a b = absurd (a refl)
  swap_key (x ∷ []) zero (suc j) h a b = absurd h
  swap_key (x ∷ y ∷ ys) zero (suc j) h a b = front_key y ys j h (λ e. b (ap suc e))
  swap_key (x ∷ xs) (suc g) zero h a b = h
  swap_key (x ∷ xs) (suc g) (suc j) h a b = swap_key xs g j h (λ e. a (ap suc e)) (λ e. b (ap suc e))

  still_key : (rs : List (Entry K S)) (selected place : Option ℕ) (i : ℕ) → still_selected selected (length rs) place ≡ Some i → KeyAt i rs → KeyAt i (map_or place rs (swap_remove rs))
  still_key rs selected None i e h = h
  still_key rs None (Some gone) i e h = cc
  still_key rs (Some j) (Some gone) i e h =
      cond_case (λ (o : Option ℕ). o ≡ Some i → KeyAt i (swap_remove rs gone)) (eqb j gone || eqb (suc j) (length rs)) _ _
      (λ _ e. cc)
      (λ f e.
      let same : j ≡ i = cc in
      let both = either_false (eqb j gone) (eqb (suc j) (length rs)) f in
      subst (λ (x : ℕ). KeyAt x rs → KeyAt x (swap_remove rs gone)) same
      (λ there. swap_key rs gone j there (eqb-false j gone both.0) (eqb-false (suc j) (length rs) both.1)) h)
      e

  module _ (keys : Sameness K) where
    promote_key : (e : Entry K S) (rs : List (Entry K S)) (i : ℕ) → KeyAt i rs → KeyAt i (promote keys e rs)
    promote_key e [] i h = absurd h
    promote_key e (r ∷ rs) zero h = cond_case (KeyAt 0) (has_key keys e.key r) _ _ (λ _. h) (λ _. h)
    promote_key e (r ∷ rs) (suc i) h = cond_case (KeyAt (suc i)) (has_key keys e.key r) _ _ (λ _. h) (λ _. promote_key e rs i h)

    module _ {Q A E W : Type 0} (ends : Endpoints S Q A E W) (now : ℕ) where
      pass_key : (capacity : ℕ) (rs kept es : List (Entry K S)) (i : ℕ) → KeyAt i rs → KeyAt i (pass keys ends now capacity rs kept es).ready
      pass_key capacity rs kept [] i h = h
      pass_key capacity rs kept (e ∷ es) i h =
          let left = ends.poll_ready e.endpoint now in
          let Goal : Pass K S E → Type 0 = λ p. KeyAt i p.ready in
          cond_case Goal e.cancelled _ _
          (λ _. pass_key capacity rs kept es i h)
          (λ _. readiness_case (λ (p : Pass K S E). Goal (with_question (record { serial = e.serial; answer = left.answer }) p)) left.answer _ _ _
          (λ _. cond_case Goal (has_place keys capacity rs e.key) _ _
          (λ _. pass_key capacity (promote keys (with_endpoint e left.after) rs) kept es i (promote_key (with_endpoint e left.after) rs i h))
          (λ _. h))
          (λ _. pass_key capacity rs _ es i h)
          (λ _ _. h))

      pub settle_key : (fuel : ℕ) (c : Cache K S) (i : ℕ) → KeyAt i c.ready → KeyAt i (settle keys ends now fuel c).cache.ready
      settle_key zero c i h = h
      settle_key (suc fuel) c i h =
          let p = poll_pending keys ends now c in
          let one : KeyAt i p.after.ready = pass_key c.capacity c.ready (take c.resume c.pending) (drop c.resume c.pending) i h in
          pass_case (λ (s : PassesOutcome K S E). KeyAt i s.cache.ready) p.answer _ _ _
          (λ _ _. one)
          (λ _ _. one)
          (λ _ _. settle_key fuel p.after i one)

module _ {K S Q A E W D F R : Type 0} (m : Meanings K S Q A E W D F R) (now : ℕ) (k : K) where
  pub read_feed_key : (budget : ℕ) (d : D) (selected : Option ℕ) (c : Cache K S) (i : ℕ) → (read_feed m now budget d selected c).selected ≡ Some i → KeyAt k i c.ready → KeyAt k i (read_feed m now budget d selected c).cache.ready
  read_feed_key zero d selected c i = λ e h. h
  read_feed_key (suc budget) d selected c i =
      let left = m.feeds.poll_discover d now in
      let going : FeedAnswer K S D F → FeedOutcome K S D F = λ r. by_result r.answer (λ more. cond more (with_pushes r.pushes (read_feed m now budget r.feed r.selected r.cache)) (feed_end r None)) (λ e. feed_end r (Some e)) in
      let Goal : FeedAnswer K S D F → Type 0 = λ r. (going r).selected ≡ Some i → KeyAt k i c.ready → KeyAt k i (going r).cache.ready in
      discovered_case Goal left.answer _ _ _ _
      (λ e h. h)
      (λ x e h. h)
      (λ key s.
      let p = push m.keys c key s in
      result_case Goal p.answer _ _
      (λ serial took e h. read_feed_key budget left.after selected p.after i e (subst (λ (x : Cache K S). KeyAt k i x.ready) (sym (push_taken m.keys m.endpoints c key s serial took).1) h))
      (λ refusal refused e h. subst (λ (x : Cache K S). KeyAt k i x.ready) (sym (push_refused m.keys m.endpoints c key s refusal refused)) h))
      (λ key e h.
      let place = ready_place m.keys key c.ready in
      let next = still_selected selected (length c.ready) place in
      let then : still_selected selected (length c.ready) place ≡ Some i = read_feed_selected m now budget left.after next (evict m.keys c key).after i e in
      read_feed_key budget left.after next (evict m.keys c key).after i e (still_key k c.ready selected place i then h))

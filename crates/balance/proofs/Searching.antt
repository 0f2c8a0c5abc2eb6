-- One turn of the search for a ready worker, and one pass over pending.
use Rattle.std.specs.Net.Reader.{map_or}
use Rattle.std.proofs.Common.{◌≡◌, ℕ, zero, suc, ◌+◌, ◌<◌, ◌≤◌, Bool, true, false, eqb, ltb, List, [], ◌∷◌, length, IfSome, IfNone, Some, None, Ok, Err, Option, Result, sym, refl, ap, ◌∙◌, subst, arith}
use Rattle.std.specs.Result.{result_unwrap_or}
use Rattle.std.proofs.lemmas.Bool.{eqb-true, eqb-false, lt-ltb, ltb-true, ltb-false}
use Rattle.std.proofs.lemmas.Option.{slice_get_past}
use Rattle.lists.proofs.Cases.{cond_case}
use Rattle.cache_model.specs.declared.error.Failed.{Failed}
use Rattle.service.specs.declared.poll.Poll.{Poll}
use Rattle.cache_model.specs.declared.error.PendingError.{PendingError}
use Rattle.cache_model.specs.declared.error.PendingError.TheVariants as pending
use Rattle.cache_model.specs.Answers.{by_check}
use Rattle.cache_model.specs.Cache.{Cache, worker_count, check, poll_pending}
use Rattle.cache_model.proofs.Cases.{check_case}
use Rattle.cache_model.proofs.Shrinks.{check_falls, check_held, poll_pending_falls}
use Rattle.service.specs.Meaning.{Sameness, Endpoints}
use Rattle.balance_model.specs.Meanings.{Meanings}
use Rattle.balance_model.specs.Draw.{DrawOutcome, draw}
use Rattle.balance_model.specs.Balance.{Balancer, SearchOutcome, search_all, search_selected, serial_at, PollOutcome, PassesOutcome, settle_all}
use Rattle.balance_model.proofs.Loops.{seek_some, draw_within, draw_pending, settle_lost}
use Rattle.balance.specs.Steps.{drawn_place, with_selected, with_words, Candidate, candidate, loses_one}
use Rattle.balance.proofs.Left.{PollLeft, SettleLeft}

-- two searches come to the same place, cache and words, and the first has lost `gone` more
pub record Leaves {K S E R : Type 0} (x y : SearchOutcome K S E R) (gone : ℕ) : Type 0 where
  pub place : x.place ≡ y.place
  pub cache : x.cache ≡ y.cache
  pub words : x.words ≡ y.words
  pub count : x.lost ≡ gone + y.lost

leaves_on : {K S E R : Type 0} (x y z : SearchOutcome K S E R) (gone : ℕ) → Leaves x y gone → Leaves y z 0 → Leaves x z gone
leaves_on x y z gone a b = record { place = a.place ∙ b.place; cache = a.cache ∙ b.cache; words = a.words ∙ b.words; count = let p = a.count in let q = b.count in omega arith }

-- a poll comes to what a search leaves, for a balancer with this feed and this budget
pub record ComesTo {K S E D F R : Type 0} (p : PollOutcome K S E D F R) (x : SearchOutcome K S E R) (lost : ℕ) (feed : D) (budget : ℕ) : Type 0 where
  pub answer : p.answer ≡ Ok (record { worker = serial_at x.cache x.place; lost = lost + x.lost })
  pub balancer : p.balancer ≡ record { feed = feed; words = x.words; budget = budget; selected = x.place; fresh = map_or x.place false (λ _. true) }
  pub cache : p.cache ≡ x.cache

pub comes_on : {K S E D F R : Type 0} (p : PollOutcome K S E D F R) (x y : SearchOutcome K S E R) (lost gone : ℕ) (feed : D) (budget : ℕ) → Leaves x y gone → ComesTo p x lost feed budget → ComesTo p y (lost + gone) feed budget
comes_on {D = D} p x y lost gone feed budget a left =
    let count = a.count in
    let sum : lost + x.lost ≡ lost + gone + y.lost = omega arith in
    record {
      answer = left.answer
          ∙ ap (λ n. Ok (record { worker = serial_at x.cache x.place; lost = n })) sum
          ∙ ap (λ c. Ok (record { worker = serial_at c x.place; lost = lost + gone + y.lost })) a.cache
          ∙ ap (λ o. Ok (record { worker = serial_at y.cache o; lost = lost + gone + y.lost })) a.place;
      balancer = left.balancer
          ∙ ap (λ r. record { feed = feed; words = r; budget = budget; selected = x.place; fresh = map_or x.place false (λ _. true) }) a.words
          ∙ ap (λ o. record { feed = feed; words = y.words; budget = budget; selected = o; fresh = map_or o false (λ _. true) }) a.place;
      cache = left.cache ∙ a.cache;
    }

-- who is told not to be ready did not answer that it is
pub not_ready : {X : Type 0} (v w : Result Bool X) (told : Bool) → told ≡ result_unwrap_or v false → told ≡ false → v ≡ w → w ≡ Ok true → ⊥
not_ready v w told said denied is ready =
    let k : told ≡ true = said ∙ ap (λ x. result_unwrap_or x false) (is ∙ ready) in
    cc

empty : {A : Type 0} (xs : List A) → length xs ≡ 0 → xs ≡ []
empty [] e = refl
empty (x ∷ xs) e = absurd (omega arith)

module _ {K S Q A E W D F R : Type 0} (m : Meanings K S Q A E W D F R) (now : ℕ) where
  -- a search goes on from a place that is among the ready, or is none where nobody is
  pub record GoesOn (whole : SearchOutcome K S E R) (held_before : ℕ) (place : Option ℕ) (c : Cache K S) (r : R) : Type 0 where
    pub leaves : Leaves whole (search_selected m now place c r) 0
    pub among : IfSome place (λ i. i < length c.ready)
    pub nobody : IfNone place (c.ready ≡ [])
    pub same : worker_count c ≡ held_before

  -- ---- a draw

  module _ (c : Cache K S) (r : R) where
    abbrev d : DrawOutcome K S R
    d = draw m.endpoints m.weights now m.words c r

    few : length c.ready < 2 → d ≡ record { made = record { before = c.ready; words = []; place = 0 }; cache = c; words = r }
    few h = let e : ltb (length c.ready) 2 ≡ true = lt-ltb (length c.ready) 2 h in rw e refl

    nobody_drawn : length c.ready ≡ 0 → GoesOn (search_all m now c r) (worker_count c) None d.cache d.words
    nobody_drawn n =
        subst (λ (x : DrawOutcome K S R). GoesOn (search_all m now c r) (worker_count c) None x.cache x.words) (sym (few (omega arith))) (record {
          leaves = record { place = refl; cache = refl; words = refl; count = omega arith };
          among = tt;
          nobody = empty c.ready n;
          same = refl;
        })

    one_drawn : 0 < length c.ready → GoesOn (search_all m now c r) (worker_count c) (Some d.made.place) d.cache d.words
    one_drawn n =
        let step = seek_some m now c r n in
        let w = draw_within m now c r in
        let same = w.same in
        let below = w.below n in
        let p = draw_pending m now c r in
        record {
          leaves = record {
            place = ap (λ (s : SearchOutcome K S E R). s.place) step;
            cache = ap (λ (s : SearchOutcome K S E R). s.cache) step;
            words = ap (λ (s : SearchOutcome K S E R). s.words) step;
            count = ap (λ (s : SearchOutcome K S E R). s.lost) step;
          };
          among = omega arith;
          nobody = tt;
          same = omega arith;
        }

    pub drawn : GoesOn (search_all m now c r) (worker_count c) (drawn_place c d) d.cache d.words
    drawn =
        cond_case (λ (o : Option ℕ). GoesOn (search_all m now c r) (worker_count c) o d.cache d.words) (eqb (length c.ready) 0) None (Some d.made.place)
        (λ e. nobody_drawn (eqb-true (length c.ready) 0 e))
        (λ e. let f = eqb-false (length c.ready) 0 e in one_drawn (positive (length c.ready) f))
      where
        positive : (n : ℕ) → (n ≡ 0 → ⊥) → 0 < n
        positive zero f = absurd (f refl)
        positive (suc n) f = omega arith

    -- ---- where a search begins

    unlisted : (o : Option ℕ) → map_or o false (λ i. ltb i (length c.ready)) ≡ false → Leaves (search_selected m now o c r) (search_all m now c r) 0
    unlisted None e = record { place = refl; cache = refl; words = refl; count = omega arith }
    unlisted (Some i) e =
        let past = slice_get_past c.ready i (ltb-false i (length c.ready) e) in
        rw (past, past) (record { place = refl; cache = refl; words = refl; count = omega arith })

    listed : (o : Option ℕ) → map_or o false (λ i. ltb i (length c.ready)) ≡ true → GoesOn (search_selected m now o c r) (worker_count c) o c r
    listed None e = cc
    listed (Some i) e = record {
      leaves = record { place = refl; cache = refl; words = refl; count = omega arith };
      among = ltb-true i (length c.ready) e;
      nobody = tt;
      same = refl;
    }

    pub begins : (selected : Option ℕ) → let x = candidate m now selected c r in GoesOn (search_selected m now selected c r) (worker_count c) x.place x.cache x.words
    begins selected =
        cond_case (λ (x : Candidate K S R). GoesOn (search_selected m now selected c r) (worker_count c) x.place x.cache x.words)
        (map_or selected false (λ i. ltb i (length c.ready)))
        (record { place = selected; cache = c; words = r })
        (record { place = drawn_place c d; cache = d.cache; words = d.words })
        (λ e. listed selected e)
        (λ e. record {
          leaves = leaves_on (search_selected m now selected c r) (search_all m now c r) (search_selected m now (drawn_place c d) d.cache d.words) 0 (unlisted selected e) drawn.leaves;
          among = drawn.among;
          nobody = drawn.nobody;
          same = drawn.same;
        })

  -- ---- a turn: the place was checked, and its worker is not ready

  module _ (c c₁ c₂ : Cache K S) (i : ℕ) (b : Balancer D R)
      (chosen : b.selected ≡ Some i)
      (unready : (check m.keys m.endpoints now c i).answer ≡ Ok true → ⊥)
      (asked : c₁ ≡ (check m.keys m.endpoints now c i).after)
      (drawn_cache : c₂ ≡ (draw m.endpoints m.weights now m.words c₁ b.words).cache)
    where
      -- the worker that was asked left the ready
      pub search_falls : IfSome b.selected (λ k. k < length c.ready) → length c₂.ready < length c.ready
      search_falls among =
          let h : i < length c.ready = subst (λ (o : Option ℕ). IfSome o (λ k. k < length c.ready)) chosen among in
          let f = check_falls m.keys m.endpoints now c i h unready in
          let a : length c₁.ready ≡ length (check m.keys m.endpoints now c i).after.ready = ap (λ (x : Cache K S). length x.ready) asked in
          let w = (draw_within m now c₁ b.words).same in
          let e : length c₂.ready ≡ length (draw m.endpoints m.weights now m.words c₁ b.words).cache.ready = ap (λ (x : Cache K S). length x.ready) drawn_cache in
          omega arith

      abbrev another : DrawOutcome K S R
      another = draw m.endpoints m.weights now m.words c₁ b.words

      abbrev gone : ℕ
      gone = by_check (check m.keys m.endpoints now c i).answer 0 0 1

      missed : Leaves (search_selected m now (Some i) c b.words) (search_all m now c₁ b.words) gone
      missed =
          let k = check m.keys m.endpoints now c i in
          let count : (v : Result Bool (Failed K E)) → k.answer ≡ v → gone ≡ by_check v 0 0 1 = λ v e. ap (λ (x : Result Bool (Failed K E)). by_check x 0 0 1) e in
          subst (λ (x : Cache K S). Leaves (search_selected m now (Some i) c b.words) (search_all m now x b.words) gone) (sym asked)
          (check_case (λ (s : SearchOutcome K S E R). Leaves s (search_all m now k.after b.words) gone) k.answer _ _ _
          (λ e. absurd (unready e))
          (λ e. let z = count (Ok false) e in record { place = refl; cache = refl; words = refl; count = omega arith })
          (λ x e. let z = count (Err x) e in record { place = refl; cache = refl; words = refl; count = omega arith }))

      -- nobody is lost but the one that failed
      held_after : worker_count c₁ + gone ≤ worker_count c
      held_after = subst (λ (x : Cache K S). worker_count x + gone ≤ worker_count c) (sym asked) (check_held m.keys m.endpoints now c i)

      abbrev next : Balancer D R
      next = with_selected (with_words b another.words) (drawn_place c₁ another)

      go_on : (p : PollOutcome K S E D F R) (lost : ℕ) → PollLeft p (search_selected m now b.selected c b.words) lost b c → PollLeft p (search_selected m now (drawn_place c₁ another) another.cache another.words) (lost + gone) next another.cache
      go_on p lost left =
          let x : SearchOutcome K S E R = search_selected m now (Some i) c b.words in
          let y : SearchOutcome K S E R = search_selected m now (drawn_place c₁ another) another.cache another.words in
          let g = drawn c₁ b.words in
          let k : ComesTo p x lost b.feed b.budget =
          subst (λ (o : Option ℕ). ComesTo p (search_selected m now o c b.words) lost b.feed b.budget) chosen (record { answer = left.answer; balancer = left.balancer; cache = left.cache }) in
          let n = comes_on p x y lost gone b.feed b.budget (leaves_on x (search_all m now c₁ b.words) y gone missed g.leaves) k in
          let fits = left.fits in
          let h = held_after in
          let same = g.same in
          record { answer = n.answer; balancer = n.balancer; cache = n.cache; stale = left.stale; among = g.among; nobody = g.nobody; fits = omega arith }

      pub search_goes_on : (p : PollOutcome K S E D F R) (lost more : ℕ) (b₂ : Balancer D R) (place : Option ℕ) → PollLeft p (search_selected m now b.selected c b.words) lost b c →
          more ≡ gone → b₂ ≡ with_words b another.words → place ≡ drawn_place c₁ another → PollLeft p (search_selected m now place c₂ b₂.words) (lost + more) (with_selected b₂ place) c₂
      search_goes_on p lost more b₂ place left counted after found =
          let is : with_selected b₂ place ≡ next = ap (λ (x : Balancer D R). with_selected x place) after ∙ ap (λ (o : Option ℕ). with_selected (with_words b another.words) o) found in
          subst (λ (x : Balancer D R). PollLeft p (search_selected m now x.selected c₂ x.words) (lost + more) x c₂) (sym is)
          (subst (λ (x : Cache K S). PollLeft p (search_selected m now next.selected x next.words) (lost + more) next x) (sym drawn_cache)
          (subst (λ (n : ℕ). PollLeft p (search_selected m now (drawn_place c₁ another) another.cache another.words) (lost + n) next another.cache) (sym counted) (go_on p lost left)))

-- ---- the passes over pending

module _ {K S Q A E W : Type 0} (keys : Sameness K) (ends : Endpoints S Q A E W) (now : ℕ) (c c' : Cache K S) (whole : PassesOutcome K S E) (lost : ℕ)
    (after : c' ≡ (poll_pending keys ends now c).after)
    (left : SettleLeft (settle_all keys ends now c) whole lost (length c.pending))
  where
    abbrev answer : Result (Poll (Unit {0})) (PendingError K E)
    answer = (poll_pending keys ends now c).answer

    failed : {F : Type 0} → Ok true ≡ loses_one {F = F} answer → (x : Failed K E) × (answer ≡ Err (pending.Failed x))
    failed {F} said = go answer refl said
      where
        go : (v : Result (Poll (Unit {0})) (PendingError K E)) → answer ≡ v → Ok true ≡ loses_one {F = F} v → (x : Failed K E) × (answer ≡ Err (pending.Failed x))
        go (Ok p) e s = cc
        go (Err (pending.NoPlace k)) e s = cc
        go (Err (pending.Failed x)) e s = (x, e)

    pub settle_falls : {F : Type 0} → Ok true ≡ loses_one {F = F} answer → length c'.pending < length c.pending
    settle_falls said =
        let f = failed said in
        subst (λ (z : Cache K S). length z.pending < length c.pending) (sym after) (poll_pending_falls keys ends now c f.0 f.1)

    pub settle_goes_on : {F : Type 0} → Ok true ≡ loses_one {F = F} answer → SettleLeft (settle_all keys ends now c') whole (lost + 1) (length c'.pending)
    settle_goes_on said =
        let f = failed said in
        let step = settle_lost keys ends now c f.0 f.1 in
        let same : settle_all keys ends now (poll_pending keys ends now c).after ≡ settle_all keys ends now c' = ap (settle_all keys ends now) (sym after) in
        let falls = settle_falls said in
        let fits = left.fits in
        let count = left.count in
        let more : (settle_all keys ends now c).lost ≡ 1 + (settle_all keys ends now (poll_pending keys ends now c).after).lost = ap (λ (s : PassesOutcome K S E). s.lost) step in
        let next : (settle_all keys ends now (poll_pending keys ends now c).after).lost ≡ (settle_all keys ends now c').lost = ap (λ (s : PassesOutcome K S E). s.lost) same in
        record {
          cache = sym (ap (λ (s : PassesOutcome K S E). s.cache) same) ∙ sym (ap (λ (s : PassesOutcome K S E). s.cache) step) ∙ left.cache;
          stuck = sym (ap (λ (s : PassesOutcome K S E). s.stuck) same) ∙ sym (ap (λ (s : PassesOutcome K S E). s.stuck) step) ∙ left.stuck;
          count = omega arith;
          fits = omega arith;
        }

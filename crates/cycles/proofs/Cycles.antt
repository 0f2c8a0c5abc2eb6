-- What the cycles leave: none, one more, and all of a shape.
use Rattle.std.proofs.lemmas.List.{length-replicate}
use Rattle.std.proofs.Common.{◌≡◌, List, length, replicate, ℕ, ◌+◌, ◌*◌, ◌%◌, ◌^◌, refl, ap, ap₂, ◌∙◌, add-one}
use Rattle.lists.specs.Outcome.{outcome}
use Rattle.std.specs.Option.{unwrap_or}
use Rattle.cache_model.specs.Cache.{Cache, new_cache, capacity_of}
use Rattle.docket.specs.Docket.{Docket, new_docket, docket_capacity}
use Rattle.balance_model.specs.Meanings.{Meanings}
use Rattle.rng.specs.declared.hasher_rng.HasherRng.{HasherRng}
use Rattle.rng.specs.Sources.{hasher_start}
use Rattle.balance_model.specs.Balance.{newly_made, new_balancer, Balancer, State}
use Rattle.balance.specs.Steps.{state}
use Rattle.cycles.specs.Cycles.{Leaves, cycle, cycles, nearest_u32, making_of}

module _ {S E W D F R : Type 0} (m : Meanings ℕ S ℕ ℕ E W D F R) (late : ℕ) where
  pub none_yet : (st : State ℕ S D R) → cycles m late 0 st ≡ outcome 0 st
  unfolding cycles
  none_yet st = refl

  -- one cycle more, 1000 nanoseconds after the last
  pub one_more : (n : ℕ) (st : State ℕ S D R) → cycles m late (n + 1) st ≡
      (let before = cycles m late n st in
      let last = cycle m late (n * 1000) before.after in
      outcome ((before.answer + unwrap_or last.answer 0) % 2 ^ 64) last.after)
  unfolding cycles
  one_more n st = rw add-one

-- as many blank places as asked for
pub blank_places : {A : Type 0} (xs ys : List A) (n k : ℕ) (blank : A) →
    xs ≡ ys → ys ≡ replicate n blank → n ≡ k → length xs ≡ k
blank_places xs ys n k blank e f g = ap length (e ∙ f) ∙ length-replicate n blank ∙ g

-- the sum of cycles that begin with these three, newly made
pub sum_of_new : {S E W D F : Type 0} (m : Meanings ℕ S ℕ ℕ E W D F HasherRng)
    (workers out count ready pending records sum : ℕ) (feed : D) (words : HasherRng)
    (b : Balancer D HasherRng) (c : Cache ℕ S) (d : Docket) (st : State ℕ S D HasherRng) →
    ready ≡ nearest_u32 (2 * workers + 2) → pending ≡ nearest_u32 (2 * workers + 2) →
    records ≡ nearest_u32 (out + 1) → words ≡ hasher_start →
    b ≡ new_balancer feed words 4096 → c ≡ new_cache (capacity_of ready pending) 1 →
    d ≡ new_docket (docket_capacity records) 1 →
    Leaves (cycles m out count (state b c d)) sum st →
    sum ≡ (cycles m out count (newly_made (making_of workers out feed))).answer
sum_of_new {S} {D = D} m workers out count ready pending records sum feed words b c d st er ep ec ew eb ek ed l =
    let places = nearest_u32 (2 * workers + 2) in
    let is_b : b ≡ new_balancer feed hasher_start 4096 =
    eb ∙ ap (λ (w : HasherRng). new_balancer feed w 4096) ew in
    let is_c : c ≡ new_cache (capacity_of places places) 1 =
    ek ∙ ap₂ (λ (x y : ℕ). new_cache (capacity_of x y) 1) er ep in
    let is_d : d ≡ new_docket (docket_capacity (nearest_u32 (out + 1))) 1 =
    ed ∙ ap (λ (x : ℕ). new_docket (docket_capacity x) 1) ec in
    let is : state b c d ≡ newly_made (making_of workers out feed) =
    ap (λ (x : Balancer D HasherRng). state x c d) is_b
    ∙ ap₂ (λ (x : Cache ℕ S) (y : Docket). state (new_balancer feed hasher_start 4096) x y) is_c is_d in
    l.answer_is ∙ ap (λ (x : State ℕ S D HasherRng). (cycles m out count x).answer) is

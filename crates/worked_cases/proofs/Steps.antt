-- The worked cases by the model's steps.
use Rattle.std.proofs.Common.{◌≡◌, ℕ, ◌+◌, ◌-◌, ◌^◌, ◌<◌, ◌≤◌, Ok, Err, refl, arith}
use Rattle.std.proofs.lemmas.Bool.{lt-ltb, le-ltb}
use Rattle.cache_model.specs.declared.error.PushRefusal.TheVariants.{Full}
use Rattle.cache_model.specs.Cache.{Cache, worker_count, push}
use Rattle.worked_cases.specs.Cases.{numbers, WorkedSteps}
use Rattle.worked_cases.proofs.Computed.{rounded_is, weight_is, estimate_is}

full : (c : Cache ℕ ℕ) → worker_count c ≡ c.capacity → (k s : ℕ) →
    (push numbers c k s).answer ≡ Err (record { key = k; refusal = Full })
full c e k s =
    let h : c.capacity ≤ worker_count c = omega arith in
    rw (le-ltb (worker_count c) c.capacity h) refl

one_place_left : (c : Cache ℕ ℕ) → worker_count c + 1 ≡ c.capacity → c.next < 2 ^ 64 - 1 →
    (k s : ℕ) → (push numbers c k s).answer ≡ Ok c.next
one_place_left c e t k s =
    let h : worker_count c < c.capacity = omega arith in
    rw (lt-ltb (worker_count c) c.capacity h) (rw (lt-ltb c.next (2 ^ 64 - 1) t) refl)

pub worked_steps : WorkedSteps
worked_steps = record {
  different_remainders = refl;
  equal_remainders = refl;
  shares = refl;
  rounded = rounded_is;
  weight_read = weight_is;
  completed = estimate_is;
  evicted = λ a b c. refl;
  unselected = λ a b c. refl;
  full = full;
  full_number = λ k. refl;
  one_place_left = one_place_left;
}

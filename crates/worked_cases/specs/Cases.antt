-- Worked cases of sampling, shares, Peak-EWMA, capacity and removal: the table of what real calls come to, and the
-- model's steps, whatever the cache and its workers are.
use Rattle.std.specs.Prelude.{◌≡◌, ℕ, ◌+◌, ◌-◌, ◌*◌, ◌^◌, ◌<◌, Bool, if◌then◌else◌, List, [], ◌∷◌, length, map, count_by, Some, None, Ok, Err, nat_eq, nat_le, nat_lt}
use Rattle.rng.specs.Pairs.{count_pairs, places_of_words}
use Rattle.rng.specs.Shares.{winner_of_pair, heavier_count, equal_count}
use Rattle.rounding.specs.Floats.{nearest}
use Rattle.service.specs.Meaning.{Sameness}
use Rattle.service.specs.ByNumber.{same_number}
use Rattle.load.specs.Estimates.{nanos}
use Rattle.cache_model.specs.declared.error.PushRefusal.TheVariants.{Full}
use Rattle.cache_model.specs.Answers.{push_report}
use Rattle.cache_model.specs.Entries.{new_entry, ready_place}
use Rattle.cache_model.specs.Cache.{Cache, worker_count, push, evict}
use Rattle.balance_model.specs.Balance.{still_selected}
use Rattle.worked_cases.specs.Estimates.{weight_at_two_seconds, estimate_at_two_seconds}
use Rattle.worked_cases.specs.declared.WorkedCases.{WorkedCases}
use Rattle.worked_cases.specs.Removal.{IsRemovalOfSelected}

-- three places of weights 3, 3 and 5
abbrev pub weight : ℕ → ℕ
weight place = if nat_lt place 2 then 3 else 5

-- a place weighs no more than another
abbrev pub not_heavier : ℕ → ℕ → Bool
not_heavier a b = nat_le (weight a) (weight b)

-- the place that a remainder pair makes win
abbrev pub winner : ℕ → ℕ → ℕ
winner x y = winner_of_pair not_heavier 3 x y

-- by how many of these each of the three places wins
abbrev pub wins_by_place : List ℕ → List ℕ
wins_by_place winners = map (λ place. count_by (nat_eq place) winners) (0 ∷ 1 ∷ 2 ∷ [])

-- twice as often as others are heavier, and as often as others weigh the same
abbrev pub shares_by_place : List ℕ
shares_by_place =
    map (λ place. 2 * heavier_count not_heavier 3 place + equal_count not_heavier 3 place)
    (0 ∷ 1 ∷ 2 ∷ [])

-- every value of the table
pub record IsWorkedTable (t : WorkedCases) : Type 0 where
  -- of five places, the words 7 and 9 give the remainders 3 and 4, and these places
  pub different_remainders : t.different_remainders
      ≡ record { words = 7 ∷ 9 ∷ []; places = 3 ∷ 4 ∷ [] }
  -- the words 3 and 8 give the remainders 3 and 3, and the first place becomes the last one
  pub equal_remainders : t.equal_remainders
      ≡ record { words = 3 ∷ 8 ∷ []; places = 4 ∷ 3 ∷ [] }
  -- of three places the first wins by the remainders 0 and 0, 0 and 1, 0 and 2, the second by 1 and
  -- 0, 1 and 1, 1 and 2
  pub winners : t.winners ≡ 0 ∷ 0 ∷ 0 ∷ 1 ∷ 1 ∷ 1 ∷ []
  -- the two light ones win by three pairs each, the heavy one by none, and these are their shares
  pub wins : wins_by_place t.winners ≡ 3 ∷ 3 ∷ 0 ∷ []
  pub shares : wins_by_place t.winners ≡ shares_by_place
  -- 2^53 + 1 nanoseconds become 2^53
  pub rounded_nanos : t.rounded_nanos ≡ nearest 9007199254740992
  -- read at two seconds with three requests out: a quarter of a second, four times
  pub weight_at_two_seconds : t.weight_at_two_seconds ≡ nearest (10 ^ 9)
  -- not read, sent at 1.6 and completed at two seconds: a quarter of 1 s and three quarters of
  -- 0.4 s
  pub estimate_at_two_seconds : t.estimate_at_two_seconds ≡ nearest 550000000
  -- a cache with one place and a serial left takes a worker in
  pub first_push : t.first_push ≡ Ok 7
  -- and refuses the next as full, with the number 1 and the key
  pub second_push : t.second_push ≡ Err (record { key = 2; refusal = Full })
  pub refusal_number : t.refusal_number ≡ Some 1
  pub refusal_key : t.refusal_key ≡ Some 2
  -- a worker that is selected and removed
  pub removal : IsRemovalOfSelected t.removal

-- by how many of the six remainder pairs a place wins
abbrev pub wins : ℕ → ℕ
wins place = count_pairs 3 (λ x y. nat_eq (winner x y) place)

-- keys are numbers
abbrev pub numbers : Sameness ℕ
numbers = same_number (λ k. k)

-- a cache with a, b and c ready under the keys 1, 2 and 3; workers are numbers
abbrev pub three_ready : ℕ → ℕ → ℕ → Cache ℕ ℕ
three_ready a b c = record {
  ready = new_entry 1 a 0 ∷ new_entry 2 b 1 ∷ new_entry 3 c 2 ∷ [];
  pending = [];
  next = 3;
  resume = 0;
  capacity = 3;
}

-- the same by the model's steps, of any cache and any workers
pub record WorkedSteps : Type 0 where
  pub different_remainders : places_of_words 5 7 9 ≡ 3 ∷ 4 ∷ []
  pub equal_remainders : places_of_words 5 3 8 ≡ 4 ∷ 3 ∷ []
  pub shares : wins 0 ∷ wins 1 ∷ wins 2 ∷ [] ≡ 3 ∷ 3 ∷ 0 ∷ []
  pub rounded : nanos 9007199254740993 ≡ nearest 9007199254740992
  pub weight_read : weight_at_two_seconds ≡ nearest (10 ^ 9)
  pub completed : estimate_at_two_seconds ≡ nearest 550000000
  -- a Remove of the key 1 moves the last entry to its place
  pub evicted : (a b c : ℕ) →
      (evict numbers (three_ready a b c) 1).after.ready ≡ new_entry 3 c 2 ∷ new_entry 2 b 1 ∷ []
  -- and the place 0, which was selected, no longer is
  pub unselected : (a b c : ℕ) →
      let ready = (three_ready a b c).ready in
      still_selected (Some 0) (length ready) (ready_place numbers 1 ready) ≡ None
  -- a cache that holds as many entries as its capacity refuses a push as full
  pub full : (c : Cache ℕ ℕ) → worker_count c ≡ c.capacity → (k s : ℕ) →
      (push numbers c k s).answer ≡ Err (record { key = k; refusal = Full })
  -- whose number is 1
  pub full_number : (k : ℕ) →
      (push_report {K = ℕ} (record { key = k; refusal = Full })).number ≡ 1
  -- with one place and a serial left, it takes the worker in
  pub one_place_left : (c : Cache ℕ ℕ) → worker_count c + 1 ≡ c.capacity → c.next < 2 ^ 64 - 1 →
      (k s : ℕ) → (push numbers c k s).answer ≡ Ok c.next

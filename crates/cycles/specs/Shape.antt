-- What a shape is, and what its feed contains; in place of an interval, the number 0 is for none.
use Rattle.std.specs.Net.Reader.{map_or}
use Rattle.std.specs.Prelude.{◌≡◌, ℕ, zero, suc, ◌*◌, ◌%◌, max, not, ◌&&◌, if◌then◌else◌, List, [], ◌∷◌, ◌++◌, None, Option, ◌==◌}
use Rattle.std.specs.declared.num.NonZeroU32.{NonZeroU32}
use Rattle.std.specs.Int.NonZero.{non_zero_u32_get}
use Rattle.workers.specs.declared.answer.Answer.{Answer}
use Rattle.workers.specs.declared.answer.Answer.TheVariants as answer
use Rattle.workers.specs.declared.patterned.Patterned.{Patterned}
use Rattle.workers.specs.Patterns.{code_of_answers, pattern_state}
use Rattle.discover.specs.declared.discovered.Discovered.{Discovered}
use Rattle.discover.specs.declared.discovered.Discovered.TheVariants.{Pending, Insert, Remove}
use Rattle.cycles.specs.declared.shape.Shape.{Shape}
use Rattle.cycles.specs.Cycles.{nearest_u32}

-- an interval as a number
abbrev pub number_of : Option NonZeroU32 → ℕ
number_of every = map_or every 0 non_zero_u32_get

-- a shape of these numbers
pub record IsShape (s : Shape) (workers unready turnover cycles out : ℕ) : Type 0 where
  pub workers_is : s.workers ≡ workers
  pub unready_is : number_of s.unready ≡ unready
  pub turnover_is : number_of s.turnover ≡ turnover
  pub cycles_is : s.cycles ≡ cycles
  pub out_is : s.out ≡ out

-- what a worker always answers: Pending where its key is divided by `unready`, and Ready elsewhere
abbrev pub answer_of : ℕ → ℕ → Answer
answer_of unready key =
    if not (unready == 0) && (key % unready == 0) then answer.Pending else answer.Ready

-- the worker of a key
abbrev pub worker_of : ℕ → ℕ → Patterned
worker_of unready key = pattern_state (code_of_answers (answer_of unready key ∷ [])) 1 0 0 None

-- the lists of the numbers below n, one after the other
unfoldable pub each_below : {A : Type 0} → ℕ → (ℕ → List A) → List A
each_below zero f = []
each_below (suc n) f = each_below n f ++ f n

-- all workers, by their keys
abbrev pub arrivals : ℕ → ℕ → List (Discovered ℕ Patterned ℕ)
arrivals workers unready = each_below workers (λ key. Insert key (worker_of unready key) ∷ [])

-- what a poll reads in a cycle: in each `turnover`-th, the worker whose turn it is leaves and comes
-- back
abbrev pub turn : ℕ → ℕ → ℕ → ℕ → List (Discovered ℕ Patterned ℕ)
turn workers unready turnover i =
    let key = i % max workers 1 in
    if i % turnover == 0 then Remove key ∷ Insert key (worker_of unready key) ∷ Pending ∷ []
    else Pending ∷ []

-- the round: so many cycles that each worker had its turn
abbrev pub round : ℕ → ℕ → ℕ → List (Discovered ℕ Patterned ℕ)
round workers unready turnover =
    each_below (nearest_u32 (turnover * workers)) (turn workers unready turnover)

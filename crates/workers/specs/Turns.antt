-- What a newly made patterned service does, however it is asked and called.
use Rattle.std.specs.Prelude.{◌≡◌, ℕ, ◌+◌, ◌-◌, ◌^◌, ◌<◌, min, List, length, Some, slice_get}
use Rattle.service.specs.Uses.{Use, times_asked, readiness_in, responses_in}
use Rattle.workers.specs.declared.answer.Answer.{Answer}
use Rattle.workers.specs.declared.patterned.Patterned.{Patterned}
use Rattle.workers.specs.Patterns.{answer_in_turn, patterned_serves}

-- asked for the k-th time (from 0), it answers as the list does in turn
abbrev pub AnswersInTurn : List Answer → Patterned → Type 0
AnswersInTurn answers p =
    (uses : List (Use ℕ)) (k : ℕ) → k < times_asked uses →
    slice_get (readiness_in patterned_serves p uses) k ≡ Some (answer_in_turn answers k)

-- the k-th response (from 0) is the number of calls taken, with this one
abbrev pub CountsCalls : Patterned → Type 0
CountsCalls p =
    (uses : List (Use ℕ)) (k : ℕ) → k < length (responses_in patterned_serves p uses) →
    slice_get (responses_in patterned_serves p uses) k ≡ Some (min (k + 1) (2 ^ 64 - 1))

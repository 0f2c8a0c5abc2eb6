-- The steps of a poll: what each leaves of a balancer.
-- Types: keys K, workers S with requests Q, responses A, errors E and weights W, a feed D with
-- errors F, a source of words R.
use Rattle.std.specs.Net.Reader.{map_or}
use Rattle.std.specs.Prelude.{◌≡◌, ℕ, ◌≤◌, Bool, true, false, if◌then◌else◌, length, IfOk, Some, None, Ok, Err, Option, Result, ◌==◌, nat_lt}
use Rattle.service.specs.declared.poll.Poll.{Poll}
use Rattle.cache_model.specs.declared.error.PendingError.{PendingError}
use Rattle.cache_model.specs.Answers.{by_pass}
use Rattle.cache_model.specs.Cache.{Cache}
use Rattle.ready_cache.specs.declared.ready_cache.TheConstants.{MOST}
use Rattle.balance_model.specs.declared.answer.PollError.{PollError}
use Rattle.balance_model.specs.Answers.{no_place}
use Rattle.balance_model.specs.Meanings.{Meanings}
use Rattle.balance_model.specs.Balance.{Balancer, State, FeedAnswer, FeedOutcome, PassesOutcome}
use Rattle.docket.specs.Docket.{Docket}
use Rattle.balance_model.specs.Draw.{DrawOutcome, draw}

-- a balancer with its cache and docket
abbrev pub state : {K S D R : Type 0} → Balancer D R → Cache K S → Docket → State K S D R
state b c d = record { balancer = b; cache = c; docket = d }

-- the place that a draw gives, where anybody is ready
abbrev pub drawn_place : {K S R : Type 0} → Cache K S → DrawOutcome K S R → Option ℕ
drawn_place c d = if length c.ready == 0 then None else Some d.made.place

-- the balancer with another selected place
abbrev pub with_selected : {D R : Type 0} → Balancer D R → Option ℕ → Balancer D R
with_selected b place = record b { selected = place }

-- the balancer after one answer of the feed
abbrev pub with_feed_answer : {K S D F R : Type 0} → Balancer D R → FeedAnswer K S D F → Balancer D R
with_feed_answer b r = record b { feed = r.feed; selected = r.selected }

-- the feed was read: what is answered, and what balancer and cache are then
pub record ReadsFeedAs {K S D F R : Type 0} (fed : FeedOutcome K S D F)
    (r : Result (Unit {0}) (PollError K F)) (before after : Balancer D R) (c : Cache K S) :
    Type 0 where
  pub answer : r ≡ map_or fed.fault (Ok tt) Err
  pub balancer : after ≡ record before { feed = fed.feed; selected = fed.selected }
  pub cache : c ≡ fed.cache

-- the balancer with another source of words
abbrev pub with_words : {D R : Type 0} → Balancer D R → R → Balancer D R
with_words b words = record b { words = words }

-- one pass over pending: whether a worker failed; no place for a ready one ends the poll
abbrev pub loses_one : {K E F : Type 0} → Result (Poll (Unit {0})) (PendingError K E) →
    Result Bool (PollError K F)
loses_one answer = by_pass answer (Ok false) (λ k. Err (no_place k)) (λ _. Ok true)

-- the passes over pending: what is answered, and what the cache is then
pub record PassesAs {K S E F : Type 0} (settled : PassesOutcome K S E)
    (r : Result ℕ (PollError K F)) (c : Cache K S) : Type 0 where
  pub answer : r ≡ map_or settled.stuck (Ok settled.lost) (λ k. Err (no_place k))
  pub cache : c ≡ settled.cache
  pub few : IfOk r (λ lost. lost ≤ MOST)

-- the place that a search begins with, or none, the cache with the loads read, the words
pub record Candidate (K S R : Type 0) : Type 0 where
  pub place : Option ℕ
  pub cache : Cache K S
  pub words : R

-- the selected place, if it is among the ready; otherwise one that is drawn
abbrev pub candidate : {K S Q A E W D F R : Type 0} → Meanings K S Q A E W D F R → ℕ → Option ℕ →
    Cache K S → R → Candidate K S R
candidate m now selected c r =
    let d = draw m.endpoints m.weights now m.words c r in
    if map_or selected false (λ i. nat_lt i (length c.ready))
    then record { place = selected; cache = c; words = r }
    else record { place = drawn_place c d; cache = d.cache; words = d.words }

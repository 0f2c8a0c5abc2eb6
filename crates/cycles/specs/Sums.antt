-- What the sums of cycles are sums of.
use Rattle.std.specs.Prelude.{◌≡◌, ℕ, ◌^◌, List, map, Ok}
use Rattle.rng.specs.Sources.{hasher_words}
use Rattle.service.specs.ByNumber.{by_number}
use Rattle.workers.specs.declared.patterned.Patterned.{Patterned}
use Rattle.workers.specs.Patterns.{patterned_serves}
use Rattle.load.specs.declared.pending_requests.PendingRequests.{PendingRequests}
use Rattle.load.specs.Pending.{pending_requests, new_pending_requests}
use Rattle.discover.specs.declared.discovered.Discovered.{Discovered}
use Rattle.discover.specs.declared.list_feed.ListFeed.{ListFeed}
use Rattle.discover.specs.Feeds.{discovered_map}
use Rattle.discover.specs.ListFeeds.{list_feeds}
use Rattle.load.specs.declared.decay.Squaring.{Squaring}
use Rattle.load.specs.Decays.{squaring_decays}
use Rattle.load.specs.Costs.{costs}
use Rattle.load.specs.declared.peak_ewma_discover.PeakEwmaDiscover.{PeakEwmaDiscover}
use Rattle.load.specs.declared.settings.Settings.{Settings}
use Rattle.load.specs.PeakEwma.{peak_ewma}
use Rattle.load.specs.Feed.{new_feed, ewma_feeds}
use Rattle.balance_model.specs.Balance.{newly_made}
use Rattle.balance_model.specs.Meanings.{meanings_of}
use Rattle.cycles.specs.declared.shape.Shape.{Shape}
use Rattle.cycles.specs.declared.repeated.Repeated.{Repeated}
use Rattle.cycles.specs.Repeated.{repeated_feeds, GivesRounds}
use Rattle.cycles.specs.Cycles.{numbers, cycles, making_of}
use Rattle.cycles.specs.Shape.{number_of, arrivals, round}

-- the same answers with workers weighed by requests out
abbrev pub answers_by_count : List (Discovered ℕ Patterned ℕ) →
    List (Discovered ℕ (PendingRequests Patterned) ℕ)
answers_by_count answers = map (discovered_map new_pending_requests) answers

-- the sum of the cycles of these numbers, with workers weighed by requests out
pub record IsSumByCount (workers unready turnover count out sum : ℕ) : Type 0 where
  pub feed : Repeated (ListFeed ℕ (PendingRequests Patterned) ℕ)
  pub gives : GivesRounds feed
      (answers_by_count (arrivals workers unready))
      (answers_by_count (round workers unready turnover))
  pub sum_is : sum ≡ (cycles
      (meanings_of numbers (pending_requests patterned_serves) (by_number (λ n. n))
      (repeated_feeds list_feeds) hasher_words)
      out count (newly_made (making_of workers out feed))).answer

-- estimates by squaring, from a second on, over a period of ten
abbrev pub settings : Settings Squaring
settings = record { decay = record {}; default_rtt = 10 ^ 9; decay_period = 10 ^ 10 }

-- the same with workers weighed by response time
pub record IsSumByTime (workers unready turnover count out sum : ℕ) : Type 0 where
  pub bare : Repeated (ListFeed ℕ Patterned ℕ)
  pub gives : GivesRounds bare (arrivals workers unready) (round workers unready turnover)
  pub feed : PeakEwmaDiscover (Repeated (ListFeed ℕ Patterned ℕ)) Squaring
  pub feed_is : Ok feed ≡ new_feed bare settings
  pub sum_is : sum ≡ (cycles
      (meanings_of numbers (peak_ewma squaring_decays patterned_serves) costs
      (ewma_feeds (repeated_feeds list_feeds)) hasher_words)
      out count (newly_made (making_of workers out feed))).answer

-- the numbers of a shape
abbrev pub OfShape : (ℕ → ℕ → ℕ → ℕ → ℕ → ℕ → Type 0) → Shape → ℕ → Type 0
OfShape P s sum = P s.workers (number_of s.unready) (number_of s.turnover) s.cycles s.out sum

-- Two polls of a balancer over answers and words in memory, and what they leave.
use Rattle.std.specs.Net.Reader.{map_or}
use Rattle.std.specs.Prelude.{ℕ, List, [], ◌∷◌, map, Some, None, Option, slice_get}
use Rattle.std.specs.Borrow.{Bor}
use Rattle.std.specs.declared.convert.Infallible.{Infallible}
use Rattle.rng.specs.declared.list_rng.ListRng.{ListRng}
use Rattle.rng.specs.Sources.{list_words, list_start as words_start}
use Rattle.service.specs.ByNumber.{same_number, by_number}
use Rattle.workers.specs.declared.paced.Paced.{Paced}
use Rattle.workers.specs.Paces.{paced_serves}
use Rattle.load.specs.declared.pending_requests.PendingRequests.{PendingRequests}
use Rattle.load.specs.Pending.{pending_requests}
use Rattle.discover.specs.declared.discovered.Discovered.{Discovered}
use Rattle.discover.specs.declared.list_feed.ListFeed.{ListFeed}
use Rattle.discover.specs.ListFeeds.{list_feeds, list_start}
use Rattle.cache_model.specs.Cache.{Cache}
use Rattle.balance_model.specs.Meanings.{Meanings, meanings_of}
use Rattle.balance_model.specs.Draw.{Draw}
use Rattle.balance_model.specs.Balance.{Balancer, PollOutcome, new_balancer, draws_in, poll}
use Rattle.worked_cases.specs.declared.two_polls.TwoPolls.{TwoPolls}

-- the workers, what the feed answers, the feed from a list, the balancer and its cache
abbrev pub Worker : Type 0
Worker = PendingRequests Paced

abbrev pub Answers : Type 0
Answers = List (Discovered ℕ Worker ℕ)

abbrev pub Feed : Type 0
Feed = ListFeed ℕ Worker ℕ

abbrev pub TheBalancer : Type 0
TheBalancer = Balancer Feed ListRng

abbrev pub TheCache : Type 0
TheCache = Cache ℕ Worker

-- their meanings
abbrev pub meanings : Meanings ℕ Worker ℕ ℕ Infallible ℕ Feed ℕ ListRng
meanings = meanings_of (same_number (λ k. k)) (pending_requests paced_serves) (by_number (λ n. n))
    list_feeds list_words

-- a balancer whose feed gives the answers in this memory, with the words in this memory; a poll
-- reads at most four answers
unfoldable pub balancer : Bor Answers → Bor (List ℕ) → TheBalancer
balancer feed words = new_balancer (list_start feed) (words_start words) 4

-- a poll at the instant 0
unfoldable pub poll_at_0 : TheBalancer → TheCache →
    PollOutcome ℕ Worker Infallible Feed ℕ ListRng
poll_at_0 b c = poll meanings 0 b c

-- the poll after it
abbrev pub second_poll : TheBalancer → TheCache → PollOutcome ℕ Worker Infallible Feed ℕ ListRng
second_poll b c = poll_at_0 (poll_at_0 b c).balancer (poll_at_0 b c).cache

-- the serial at a place among the ready
unfoldable pub serial_at : TheCache → ℕ → Option ℕ
serial_at c place = map_or (slice_get c.ready place) None (λ e. Some e.serial)

-- what both answer and leave
unfoldable pub two_polls : TheBalancer → TheCache → TwoPolls
two_polls b c =
    let left = (second_poll b c).cache in
    record {
      first = (poll_at_0 b c).answer;
      first_place = (poll_at_0 b c).balancer.selected;
      second = (second_poll b c).answer;
      second_place = (second_poll b c).balancer.selected;
      ready = serial_at left 0 ∷ serial_at left 1 ∷ serial_at left 2 ∷ [];
    }

-- the serials of the workers that a draw found ready, in their order
abbrev pub serials_before : Draw ℕ Worker → List ℕ
serials_before d = map (λ e. e.serial) d.before

-- the same of each draw of the second poll
unfoldable pub second_draws : TheBalancer → TheCache → List (List ℕ)
second_draws b c = map serials_before (draws_in (second_poll b c).log.steps)

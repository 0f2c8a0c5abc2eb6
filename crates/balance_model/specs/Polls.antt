-- What holds of every poll.
-- Types: keys K, workers S with requests Q, responses A, errors E and weights W, a feed D with
-- errors F, a source of words R.
use Rattle.std.specs.List.{AllByRecursion}
use Rattle.std.specs.Net.Reader.{map_or}
use Rattle.std.specs.Prelude.{◌≡◌, ℕ, if◌then◌else◌, [], length, Some, None, Ok, Err, Option, nat_lt, IsSomeAnd, slice_get}
use Rattle.service.specs.declared.poll.Poll.TheVariants.{Ready, Pending}
use Rattle.cache_model.specs.declared.entry.Entry.{Entry}
use Rattle.cache_model.specs.Cache.{Cache}
use Rattle.balance_model.specs.declared.answer.Polled.{Polled}
use Rattle.balance_model.specs.declared.answer.PollError.{PollError}
use Rattle.balance_model.specs.Answers.{named_serial}
use Rattle.balance_model.specs.Meanings.{Meanings}
use Rattle.balance_model.specs.Balance.{Balancer, PollOutcome, draws_in, read_feed, settle_all, serial_at}
use Rattle.balance_model.specs.Search.{search_in, Search}
use Rattle.balance_model.specs.History.{Granted}
use Rattle.balance_model.specs.Promise.{DrawRight, words_in, GivesWords}

-- of a balancer b and a cache c, and what a poll of them came to
module _ {K S Q A E W D F R : Type 0} (m : Meanings K S Q A E W D F R) (now : ℕ)
    (b : Balancer D R) (c : Cache K S) where
  -- the selected place after the feed was read
  abbrev pub selected_after_feed : Option ℕ
  selected_after_feed = (read_feed m now b.budget b.feed b.selected c).selected

  -- the cache after the passes over pending
  abbrev pub cache_after_passes : Cache K S
  cache_after_passes =
      let read = read_feed m now b.budget b.feed b.selected c in
      (settle_all m.keys m.endpoints now read.cache).cache

  -- the selected place then, if it is among the ready
  abbrev pub place_still_selected : Option ℕ
  place_still_selected = map_or selected_after_feed None
      (λ i. if nat_lt i (length cache_after_passes.ready) then Some i else None)

  -- what holds of the poll
  pub record PollLawful (p : PollOutcome K S E D F R) : Type 0 where
    -- the worker that it names was the last asked, and said Ready
    pub granted : (serial : ℕ) → named_serial p.answer ≡ Some serial → Granted p.log serial
    -- and the selected place is that worker's
    pub selected : (serial : ℕ) → named_serial p.answer ≡ Some serial →
        serial_at p.cache p.balancer.selected ≡ Ready serial
    -- a poll that answers Pending left nobody ready
    pub nobody : (lost : ℕ) → p.answer ≡ Ok (record { worker = Pending; lost = lost }) →
        p.cache.ready ≡ []
    -- a poll that comes to its end searched: the worker at the place that is still selected is asked
    -- first, and each other one was drawn right before, among all that were ready
    pub searched : (over : Polled) → p.answer ≡ Ok over →
        Search m.endpoints now cache_after_passes.ready place_still_selected
        (search_in p.log.steps) p.cache.ready
    -- that place was selected before the poll, and the worker there has the key of the one that was there
    pub still : (i : ℕ) → place_still_selected ≡ Some i → b.selected ≡ Some i
    pub kept : (i : ℕ) (e : Entry K S) → place_still_selected ≡ Some i → slice_get c.ready i ≡ Some e →
        IsSomeAnd (slice_get cache_after_passes.ready i) (λ f. f.key ≡ e.key)
    -- a poll that a fault ends did not
    pub unsearched : (fault : PollError K F) → p.answer ≡ Err fault → search_in p.log.steps ≡ []
    -- in each draw among two or more, each worker has its share of the remainder pairs of two words;
    -- the only one is drawn without a word
    pub shares : AllByRecursion (DrawRight m.endpoints m.weights now) (draws_in p.log.steps)
    -- the draws took the words that the source gave, and no other
    pub words : GivesWords m.words b.words (words_in (draws_in p.log.steps)) p.balancer.words

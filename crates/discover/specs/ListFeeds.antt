-- The feed from a list: its answers in order, and End after the last, again and again.
use Rattle.std.specs.Net.Reader.{map_or}
use Rattle.std.specs.Prelude.{ℕ, ◌+◌, if◌then◌else◌, List, length, nat_lt, slice_get}
use Rattle.std.specs.Borrow.{Bor}
use Rattle.lists.specs.Outcome.{outcome}
use Rattle.discover.specs.declared.discovered.Discovered.{Discovered}
use Rattle.discover.specs.declared.discovered.Discovered.TheVariants.{End}
use Rattle.discover.specs.declared.list_feed.ListFeed.{ListFeed}
use Rattle.discover.specs.Feeds.{Feeds}

-- keys K, workers S and errors F
module _ {K S F : Type 0} where
  -- the answer at a place of the list, and End past it
  abbrev pub in_list : List (Discovered K S F) → ℕ → Discovered K S F
  in_list answers k = map_or (slice_get answers k) End (λ answer. answer)

  -- the place after one, up to the end of the list
  abbrev pub place_after : List (Discovered K S F) → ℕ → ℕ
  place_after answers i = if nat_lt i (length answers) then i + 1 else i

  -- what a feed from a list means
  abbrev pub list_feeds : Feeds (ListFeed K S F) K S F
  list_feeds = record {
    poll_discover = λ feed now.
        outcome
        (in_list feed.answers.now feed.next)
        (record feed { next = place_after feed.answers.now feed.next });
  }

  -- newly made: the first answer is next
  abbrev pub list_start : Bor (List (Discovered K S F)) → ListFeed K S F
  list_start answers = record { answers = answers; next = 0 }

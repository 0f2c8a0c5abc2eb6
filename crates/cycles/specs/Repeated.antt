-- A feed that starts over where another one ends.
use Rattle.std.specs.Prelude.{◌≡◌, ℕ, List}
use Rattle.lists.specs.Outcome.{Outcome, outcome}
use Rattle.discover.specs.declared.discovered.Discovered.{Discovered}
use Rattle.discover.specs.declared.discovered.Discovered.TheVariants.{Pending, End, Fault, Insert, Remove}
use Rattle.discover.specs.Feeds.{Feeds, nth_discovered}
use Rattle.discover.specs.declared.list_feed.ListFeed.{ListFeed}
use Rattle.discover.specs.ListFeeds.{list_feeds, in_list}
use Rattle.cycles.specs.declared.repeated.Repeated.{Repeated}

-- a feed D of keys K, workers S and errors F
module _ {D K S F : Type 0} where
  -- what a round leaves, with an answer: its End is a Pending, and the next round begins
  abbrev pub or_next_round : D → D → Discovered K S F → Outcome (Discovered K S F) (Repeated D)
  or_next_round round left End = outcome Pending (record { round = round; rest = round })
  or_next_round round left Pending = outcome Pending (record { round = round; rest = left })
  or_next_round round left (Fault e) = outcome (Fault e) (record { round = round; rest = left })
  or_next_round round left (Insert k s) =
      outcome (Insert k s) (record { round = round; rest = left })
  or_next_round round left (Remove k) = outcome (Remove k) (record { round = round; rest = left })

  -- what a repeated feed means
  abbrev pub repeated_feeds : Feeds D K S F → Feeds (Repeated D) K S F
  repeated_feeds feeds = record {
    poll_discover = λ feed now.
        let left = feeds.poll_discover feed.rest now in
        or_next_round feed.round left.after left.answer;
  }

-- keys K, workers S and errors F
module _ {K S F : Type 0} where
  -- a feed that gives these answers in their order, and then End
  abbrev pub Gives : ListFeed K S F → List (Discovered K S F) → Type 0
  Gives feed answers =
      (instants : ℕ → ℕ) (k : ℕ) → nth_discovered list_feeds feed instants k ≡ in_list answers k

  -- a feed that gives first these answers, and then those of a round, over and over
  pub record GivesRounds (feed : Repeated (ListFeed K S F))
      (first round : List (Discovered K S F)) : Type 0 where
    pub first_is : Gives feed.rest first
    pub round_is : Gives feed.round round

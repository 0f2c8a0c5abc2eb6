-- The feed of endpoints over a feed of bare services.
use Rattle.std.specs.Prelude.{Result}
use Rattle.lists.specs.Outcome.{outcome}
use Rattle.service.specs.declared.refusal.Invalid.{Invalid}
use Rattle.discover.specs.Feeds.{Feeds, discovered_map}
use Rattle.load.specs.declared.peak_ewma.PeakEwma.{PeakEwma}
use Rattle.load.specs.declared.peak_ewma_discover.PeakEwmaDiscover.{PeakEwmaDiscover}
use Rattle.load.specs.declared.settings.Settings.{Settings}
use Rattle.load.specs.Settings.{unless_zero}
use Rattle.load.specs.PeakEwma.{from_settings}

-- feeds F, and sources D of decay
module _ {F D : Type 0} where
  -- a feed whose workers are measured by these settings
  abbrev feed_over : F → Settings D → PeakEwmaDiscover F D
  feed_over feed settings = record { discover = feed; settings = settings }

  -- a zero duration is refused
  abbrev pub new_feed : F → Settings D → Result (PeakEwmaDiscover F D) Invalid
  new_feed feed settings = unless_zero settings (feed_over feed settings)

  -- keys K, bare services S and errors X: what is inserted becomes an endpoint, all else stays
  abbrev pub ewma_feeds : {K S X : Type 0} → Feeds F K S X
      → Feeds (PeakEwmaDiscover F D) K (PeakEwma S D) X
  ewma_feeds feeds = record {
    poll_discover = λ f at.
        let below = feeds.poll_discover f.discover at in
        outcome
        (discovered_map (λ s. from_settings s f.settings at) below.answer)
        (record f { discover = below.after });
  }

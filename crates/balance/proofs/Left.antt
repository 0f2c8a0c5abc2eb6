-- What each loop of a poll keeps: what is left of its work comes to the same as the whole.
use Rattle.std.specs.Net.Reader.{map_or}
use Rattle.std.proofs.Common.{◌≡◌, ℕ, ◌+◌, ◌<◌, ◌≤◌, false, true, [], length, IfSome, IfNone, Ok}
use Rattle.cache_model.specs.Cache.{Cache, worker_count}
use Rattle.balance_model.specs.Balance.{Balancer, FeedOutcome, PassesOutcome, SearchOutcome, serial_at, PollOutcome}

-- what is left to read of the feed leaves the same as the whole reading
pub record FeedLeft {K S D F R : Type 0} (rest whole : FeedOutcome K S D F) (b before : Balancer D R) : Type 0 where
  pub feed : rest.feed ≡ whole.feed
  pub selected : rest.selected ≡ whole.selected
  pub cache : rest.cache ≡ whole.cache
  pub fault : rest.fault ≡ whole.fault
  pub words : b.words ≡ before.words
  pub budget : b.budget ≡ before.budget
  pub fresh : b.fresh ≡ before.fresh

-- what is left of the passes over pending leaves the same as all of them; `lost` are lost so far, and at most as many can follow as are pending
pub record SettleLeft {K S E : Type 0} (rest whole : PassesOutcome K S E) (lost pending : ℕ) : Type 0 where
  pub cache : rest.cache ≡ whole.cache
  pub stuck : rest.stuck ≡ whole.stuck
  pub count : lost + rest.lost ≡ whole.lost
  pub fits : lost + pending ≤ 4096

-- a poll that is searching comes to what is left of its search, with those lost so far; the selected place is among the ready, and none only where nobody is
pub record PollLeft {K S E D F R : Type 0} (p : PollOutcome K S E D F R) (rest : SearchOutcome K S E R) (lost : ℕ) (b : Balancer D R) (c : Cache K S) : Type 0 where
  pub answer : p.answer ≡ Ok (record { worker = serial_at rest.cache rest.place; lost = lost + rest.lost })
  pub balancer : p.balancer ≡ record { feed = b.feed; words = rest.words; budget = b.budget; selected = rest.place; fresh = map_or rest.place false (λ _. true) }
  pub cache : p.cache ≡ rest.cache
  pub stale : b.fresh ≡ false
  pub among : IfSome b.selected (λ i. i < length c.ready)
  pub nobody : IfNone b.selected (c.ready ≡ [])
  pub fits : lost + worker_count c ≤ 8192

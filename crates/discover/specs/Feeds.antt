-- What a feed means, and what is made of its answers.
use Rattle.std.specs.Prelude.{◌≡◌, ℕ, zero, suc, Some, None, Option}
use Rattle.lists.specs.Outcome.{Outcome}
use Rattle.discover.specs.declared.discovered.Discovered.{Discovered}
use Rattle.discover.specs.declared.discovered.Discovered.TheVariants.{Pending, End, Fault, Insert, Remove}

-- a feed D of keys K, workers S and errors F: what it answers at an instant, and the value that it
-- leaves
pub record Feeds (D K S F : Type 0) : Type 0 where
  pub poll_discover : D → ℕ → Outcome (Discovered K S F) D

-- what it answers after k other answers, asked at these instants one after the other
abbrev pub nth_discovered : {D K S F : Type 0} →
    Feeds D K S F → D → (ℕ → ℕ) → ℕ → Discovered K S F
nth_discovered feeds d instants zero = (feeds.poll_discover d (instants 0)).answer
nth_discovered feeds d instants (suc k) =
    nth_discovered feeds (feeds.poll_discover d (instants 0)).after (λ i. instants (suc i)) k

-- what an answer of a feed says: its number, its error, the key and the worker
pub record DiscoveryReport (K S F : Type 0) : Type 0 where
  pub number : Option ℕ
  pub error : Option F
  pub key : Option K
  pub worker : Option S

-- a fault has the number 12 and carries its error, an insertion the key and the worker, a removal
-- the key
abbrev pub discovery_report : {K S F : Type 0} → Discovered K S F → DiscoveryReport K S F
discovery_report Pending = record { number = None; error = None; key = None; worker = None }
discovery_report End = record { number = None; error = None; key = None; worker = None }
discovery_report (Fault e) =
    record { number = Some 12; error = Some e; key = None; worker = None }
discovery_report (Insert k s) =
    record { number = None; error = None; key = Some k; worker = Some s }
discovery_report (Remove k) = record { number = None; error = None; key = Some k; worker = None }

-- from workers S to workers T, with keys K and errors F
module _ {K S T F : Type 0} where
  -- what is inserted becomes f of it; all else stays
  abbrev pub discovered_map : (S → T) → Discovered K S F → Discovered K T F
  discovered_map f Pending = Pending
  discovered_map f End = End
  discovered_map f (Fault e) = Fault e
  discovered_map f (Insert k s) = Insert k (f s)
  discovered_map f (Remove k) = Remove k

  -- the same where what is made of a worker is told by a relation
  abbrev pub MapsInserted : (S → T → Type 0) → Discovered K S F → Discovered K T F → Type 0
  MapsInserted makes Pending d = d ≡ Pending
  MapsInserted makes End d = d ≡ End
  MapsInserted makes (Fault e) d = d ≡ Fault e
  MapsInserted makes (Insert k s) d = (t : T) × makes s t × (d ≡ Insert k t)
  MapsInserted makes (Remove k) d = d ≡ Remove k

-- a fact of the worker, if one is inserted
abbrev pub ForInserted : {K S F : Type 0} → Discovered K S F → (S → Type 0) → Type 0
ForInserted {K} {S} d P = (k : K) (s : S) → d ≡ Insert k s → P s

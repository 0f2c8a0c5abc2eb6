-- The parts of a pass over the pending entries, in memory.
-- Types: keys K, workers S with requests Q, responses A, errors E and weights W.
use Rattle.std.specs.Net.Reader.{map_or}
use Rattle.std.specs.Prelude.{◌≡◌, ℕ, ◌+◌, ◌≤◌, true, false, if◌then◌else◌, List, length, take, Some, None, Ok, Err, Option, Result, MatchResult, slice_get, slice_set}
use Rattle.service.specs.Meaning.{Sameness, Endpoints}
use Rattle.cache_model.specs.declared.entry.Entry.{Entry}
use Rattle.cache_model.specs.declared.error.Failed.{Failed}
use Rattle.cache_model.specs.declared.error.PendingError.{PendingError}
use Rattle.cache_model.specs.declared.error.PendingError.TheVariants as error
use Rattle.cache_model.specs.Answers.{by_readiness}
use Rattle.cache_model.specs.Entries.{with_endpoint, promote}
use Rattle.cache_model.specs.Cache.{has_place}
use Rattle.ready_cache.specs.declared.places.Places.{Places}

-- the entry that was read is passed over
abbrev pub after_entry : Places → Places
after_entry p = record p { read = p.read + 1 }

-- it stays, and is moved to the front
abbrev pub after_kept_entry : Places → Places
after_kept_entry p = record p { read = p.read + 1; write = p.write + 1 }

-- what a turn of a pass answers, an entry that is ready or a worker that failed, and what it leaves
pub record Turn (K S E : Type 0) : Type 0 where
  pub answer : Option (Result (Entry K S) (Failed K E))
  pub memory : List (Entry K S)
  pub places : Places

module _ {K S Q A E W : Type 0} (ends : Endpoints S Q A E W) (now : ℕ) where
  -- the turn of the entry e, at these places of the memory xs
  abbrev pub turn_of : List (Entry K S) → Places → Entry K S → Turn K S E
  turn_of xs p e =
      let left = ends.poll_ready e.endpoint now in
      let mine : Entry K S = with_endpoint e left.after in
      let asked = slice_set xs p.read mine in
      if e.cancelled then record { answer = None; memory = xs; places = after_entry p }
      else by_readiness left.answer
      (record { answer = Some (Ok mine); memory = asked; places = p })
      (record { answer = None; memory = slice_set asked p.write mine; places = after_kept_entry p })
      (λ x. record {
        answer = Some (Err (record { key = e.key; error = x }));
        memory = asked;
        places = after_entry p;
      })

  -- the turn of the entry that is to be read
  abbrev pub turn : List (Entry K S) → Places → Turn K S E
  turn xs p =
      map_or (slice_get xs p.read)
      (record { answer = None; memory = xs; places = p })
      (turn_of xs p)

-- in the memory xs, which becomes ys
module _ {K S : Type 0} (keys : Sameness K) (xs ys : List (Entry K S)) where
  -- e joined the first len entries, in whose memory it had a place; there are n of them then
  pub record Promotion (e : Entry K S) (len n : ℕ) : Type 0 where
    pub place : has_place keys (length xs) (take len xs) e.key ≡ true
    pub list : take n ys ≡ promote keys e (take len xs)
    pub most : n ≤ len + 1
    pub within : n ≤ length xs

  -- e had no place
  pub record NoRoom (e : Entry K S) (len : ℕ) : Type 0 where
    pub place : has_place keys (length xs) (take len xs) e.key ≡ false
    pub same : ys ≡ xs

  -- at the places p, which become q
  module _ (p q : Places) where
    -- e joins the ready ones, and the pass goes on to the next
    pub record JoinsReady (e : Entry K S) : Type 0 where
      pub ready : Promotion e p.ready q.ready
      pub read : q.read ≡ p.read + 1
      pub write : q.write ≡ p.write

    -- e has no place among them, and the pass ends there
    pub record EndsAtNoPlace {E : Type 0} (e : Entry K S) (x : PendingError K E) : Type 0 where
      pub room : NoRoom e p.ready
      pub fault : x ≡ error.NoPlace (record { key = e.key })
      pub places : q ≡ p

    -- the pass ends at a worker that failed
    pub record EndsAtFailure {E : Type 0} (f : Failed K E)
        (r : Result (Unit {0}) (PendingError K E)) : Type 0 where
      pub fault : r ≡ Err (error.Failed f)
      pub same : ys ≡ xs
      pub places : q ≡ p

    -- what comes of the answer of a turn
    abbrev pub Admission : {E : Type 0} →
        Result (Entry K S) (Failed K E) → Result (Unit {0}) (PendingError K E) → Type 0
    Admission (Ok e) r = MatchResult r (λ _. JoinsReady e) (EndsAtNoPlace e)
    Admission (Err f) r = EndsAtFailure f r

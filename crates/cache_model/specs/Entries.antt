-- Lists of entries: whose key is whose, and what a mark, a promotion and a return to pending leave.
use Rattle.std.specs.Prelude.{ℕ, Bool, true, false, if◌then◌else◌, not, ◌&&◌, ◌||◌, List, [], ◌∷◌, ◌++◌, Option, ◌==◌, position}
use Rattle.service.specs.Meaning.{Sameness}
use Rattle.cache_model.specs.declared.entry.Entry.{Entry}

-- entries of keys K and workers S
module _ {K S : Type 0} where
  -- the entry, marked cancelled
  abbrev pub with_cancelled : Entry K S → Entry K S
  with_cancelled e = record e { cancelled = true }

  -- the entry, with another value of its endpoint
  abbrev pub with_endpoint : Entry K S → S → Entry K S
  with_endpoint e s = record e { endpoint = s }

  -- a new entry
  abbrev pub new_entry : K → S → ℕ → Entry K S
  new_entry k s serial = record { key = k; endpoint = s; serial = serial; cancelled = false }

  -- the entry of a serial
  abbrev pub has_serial : ℕ → Entry K S → Bool
  has_serial serial e = e.serial == serial

module _ {K S : Type 0} (keys : Sameness K) where
  -- an entry of the key
  abbrev pub has_key : K → Entry K S → Bool
  has_key k e = keys.same k e.key

  -- one that is not cancelled
  abbrev pub live_of : K → Entry K S → Bool
  live_of k e = has_key k e && not e.cancelled

  -- there is one among the entries
  abbrev pub any_live : K → List (Entry K S) → Bool
  any_live k [] = false
  any_live k (e ∷ es) = live_of k e || any_live k es

  -- the uncancelled entry of the key is marked cancelled
  abbrev pub cancel : K → List (Entry K S) → List (Entry K S)
  cancel k [] = []
  cancel k (e ∷ es) = if live_of k e then with_cancelled e ∷ es else e ∷ cancel k es

  -- the place of the key's entry among the ready, where marks do not count
  abbrev pub ready_place : K → List (Entry K S) → Option ℕ
  ready_place k rs = position (has_key k) rs

  -- a worker that is ready takes the place of its key's ready one, which keeps its key, or the end
  -- of the list
  abbrev pub promote : Entry K S → List (Entry K S) → List (Entry K S)
  promote e [] = e ∷ []
  promote e (r ∷ rs) =
      if has_key e.key r then record r { endpoint = e.endpoint; serial = e.serial } ∷ rs
      else r ∷ promote e rs

  -- an entry that is no longer ready goes to the end of pending, unless an uncancelled one there has
  -- its key
  abbrev pub set_aside : Entry K S → List (Entry K S) → List (Entry K S)
  set_aside e ps =
      if any_live e.key ps then ps else ps ++ (new_entry e.key e.endpoint e.serial ∷ [])

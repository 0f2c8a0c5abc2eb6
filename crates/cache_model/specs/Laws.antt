-- What holds of a cache after any sequence of its calls.
-- Types: keys K, workers S with requests Q, responses A, errors E and weights W.
use Rattle.std.specs.List.{AllByRecursion}
use Rattle.std.specs.Prelude.{ℕ, ◌<◌, ◌≤◌, List, [], ◌∷◌, ◌++◌, count_by}
use Rattle.service.specs.Meaning.{Sameness, Endpoints}
use Rattle.cache_model.specs.Entries.{has_key, has_serial, live_of}
use Rattle.cache_model.specs.Cache.{Cache, push, evict, poll_pending, check, check_key, call, call_key, finish, load, worker_count}

-- no key has two ready entries, or two uncancelled pending ones
pub record KeysOnce {K S : Type 0} (keys : Sameness K) (c : Cache K S) : Type 0 where
  pub ready : (k : K) → count_by (has_key keys k) c.ready ≤ 1
  pub pending : (k : K) → count_by (live_of keys k) c.pending ≤ 1

-- no serial is held twice, and those held are below the next one
pub record SerialsOnce {K S : Type 0} (c : Cache K S) : Type 0 where
  pub once : (serial : ℕ) → count_by (has_serial serial) (c.ready ++ c.pending) ≤ 1
  pub below : AllByRecursion (λ e. e.serial < c.next) (c.ready ++ c.pending)

-- all of these, and the cache holds no more than it has room for
pub record Lawful {K S : Type 0} (keys : Sameness K) (c : Cache K S) : Type 0 where
  pub keys_once : KeysOnce keys c
  pub serials_once : SerialsOnce c
  pub fits : worker_count c ≤ c.capacity

-- one call of a cache, with what it is handed
pub data CacheCall (K S Q : Type 0) : Type 0 where
  Push : K → S → CacheCall K S Q
  Evict : K → CacheCall K S Q
  PollPending : ℕ → CacheCall K S Q
  CheckIndex : ℕ → ℕ → CacheCall K S Q
  CheckKey : K → ℕ → CacheCall K S Q
  CallIndex : ℕ → Q → ℕ → CacheCall K S Q
  CallKey : K → Q → ℕ → CacheCall K S Q
  Finish : ℕ → ℕ → ℕ → CacheCall K S Q
  Load : ℕ → ℕ → CacheCall K S Q

module _ {K S Q A E W : Type 0} (keys : Sameness K) (ends : Endpoints S Q A E W) where
  -- what a call leaves
  abbrev pub after_call : Cache K S → CacheCall K S Q → Cache K S
  after_call c (Push k s) = (push keys c k s).after
  after_call c (Evict k) = (evict keys c k).after
  after_call c (PollPending at) = (poll_pending keys ends at c).after
  after_call c (CheckIndex i at) = (check keys ends at c i).after
  after_call c (CheckKey k at) = (check_key keys ends at c k).after
  after_call c (CallIndex i q at) = (call keys ends at c i q).after
  after_call c (CallKey k q at) = (call_key keys ends at c k q).after
  after_call c (Finish serial sent at) = (finish ends at c serial sent).after
  after_call c (Load i at) = (load ends at c i).after

  -- what calls leave, one after the other
  abbrev pub after_calls : Cache K S → List (CacheCall K S Q) → Cache K S
  after_calls c [] = c
  after_calls c (x ∷ xs) = after_calls (after_call c x) xs

  -- whatever is called, in whatever order, the laws hold
  abbrev pub AlwaysLawful : Cache K S → Type 0
  AlwaysLawful c = (calls : List (CacheCall K S Q)) → Lawful keys (after_calls c calls)

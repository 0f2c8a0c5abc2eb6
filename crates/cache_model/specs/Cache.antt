-- The cache as lists and numbers, and its steps: what each call answers, leaves, and whom it asked.
-- Types: keys K, workers S with requests Q, responses A, errors E and weights W.
use Rattle.std.specs.Net.Reader.{map_or}
use Rattle.std.specs.Prelude.{ℕ, ◌+◌, ◌-◌, ◌^◌, min, Bool, true, false, if◌then◌else◌, not, ◌||◌, List, [], ◌∷◌, ◌++◌, length, take, drop, is_some, Some, None, Ok, Err, Option, Result, nat_lt, slice_get}
use Rattle.lists.specs.Outcome.{Outcome, outcome}
use Rattle.lists.specs.Lists.{swap_remove}
use Rattle.lists.specs.Options.{by_result}
use Rattle.service.specs.declared.poll.Poll.{Poll}
use Rattle.service.specs.declared.poll.Poll.TheVariants.{Ready, Pending}
use Rattle.service.specs.declared.readiness.Readiness.{Readiness}
use Rattle.service.specs.Meaning.{Sameness, Endpoints}
use Rattle.cache_model.specs.declared.entry.Entry.{Entry}
use Rattle.cache_model.specs.declared.error.PushError.{PushError}
use Rattle.cache_model.specs.declared.error.PushRefusal.TheVariants.{Full, SerialsSpent}
use Rattle.cache_model.specs.declared.error.Failed.{Failed}
use Rattle.cache_model.specs.declared.error.PendingError.{PendingError}
use Rattle.cache_model.specs.declared.error.PendingError.TheVariants as error
use Rattle.cache_model.specs.declared.call_refusal.CallRefusal.{CallRefusal}
use Rattle.cache_model.specs.declared.call_refusal.CallRefusal.TheVariants.{NotReady}
use Rattle.cache_model.specs.Answers.{by_readiness, by_check}
use Rattle.cache_model.specs.Entries.{new_entry, with_endpoint, any_live, cancel, ready_place, promote, set_aside}
use Rattle.cache_model.specs.Lists.{ask_in, call_in, load_in, finish_in}

-- the ready and the pending entries, the serial of the next worker, the place where the next pass
-- starts, and how many entries there is room for
pub record Cache (K S : Type 0) : Type 0 where
  pub ready : List (Entry K S)
  pub pending : List (Entry K S)
  pub next : ℕ
  pub resume : ℕ
  pub capacity : ℕ

-- how many entries two slices of memory hold together
abbrev pub capacity_of : ℕ → ℕ → ℕ
capacity_of ready pending = min (min ready pending) 4096

module _ {K S : Type 0} where
  -- nobody is in it
  abbrev pub new_cache : ℕ → ℕ → Cache K S
  new_cache capacity first =
      record { ready = []; pending = []; next = first; resume = 0; capacity = capacity }

  -- the cache with other lists
  abbrev pub with_lists : Cache K S → List (Entry K S) → List (Entry K S) → Cache K S
  with_lists c rs ps = record c { ready = rs; pending = ps }

  -- how many workers are in it, the cancelled ones too
  abbrev pub worker_count : Cache K S → ℕ
  worker_count c = length c.ready + length c.pending

  -- the ready entry at a place is taken away; the last one moves into the gap
  abbrev pub remove : Cache K S → ℕ → Cache K S
  remove c i = with_lists c (swap_remove c.ready i) c.pending

-- a question put to a worker, by its serial, and the answer
pub record Question (E : Type 0) : Type 0 where
  pub serial : ℕ
  pub answer : Readiness E

-- what a call that asks workers answers, the cache that it leaves, and its questions in order
pub record AskOutcome (A K S E : Type 0) : Type 0 where
  pub answer : A
  pub after : Cache K S
  pub asked : List (Question E)

-- ---- push and evict

module _ {K S : Type 0} (keys : Sameness K) where
  -- the uncancelled pending entry of the key is cancelled, and the new one goes to the end
  abbrev pub with_worker : Cache K S → K → S → Cache K S
  with_worker c k s = record c {
    pending = cancel keys k c.pending ++ (new_entry k s c.next ∷ []);
    next = c.next + 1;
  }

  -- `push` answers the serial; it is refused where the cache is full, and where serials are spent
  abbrev pub push : Cache K S → K → S → Outcome (Result ℕ (PushError K)) (Cache K S)
  push c k s =
      if not (nat_lt (worker_count c) c.capacity)
      then outcome (Err (record { key = k; refusal = Full })) c
      else if not (nat_lt c.next (2 ^ 64 - 1))
      then outcome (Err (record { key = k; refusal = SerialsSpent })) c
      else outcome (Ok c.next) (with_worker c k s)

  -- `evict` cancels the pending entry of the key and removes the ready one
  abbrev pub evict : Cache K S → K → Outcome Bool (Cache K S)
  evict c k =
      outcome
      (any_live keys k c.pending || is_some (ready_place keys k c.ready))
      (with_lists c
      (map_or (ready_place keys k c.ready) c.ready (swap_remove c.ready))
      (cancel keys k c.pending))

  -- there is a place for a key among the ready: its own, or one at the end
  abbrev pub has_place : ℕ → List (Entry K S) → K → Bool
  has_place capacity rs k = is_some (ready_place keys k rs) || nat_lt (length rs) capacity

  -- the ready entry at a place goes to pending, unless an uncancelled one there has its key
  abbrev pub demote : Cache K S → ℕ → Cache K S
  demote c i = map_or (slice_get c.ready i) c
      (λ e. with_lists c (swap_remove c.ready i) (set_aside keys e c.pending))

-- ---- a pass over pending

-- how a pass ends: the ready entries, those that it met and that stay, those that it did not come
-- to, the fault that ended it, if one did, and its questions
pub record Pass (K S E : Type 0) : Type 0 where
  pub ready : List (Entry K S)
  pub kept : List (Entry K S)
  pub rest : List (Entry K S)
  pub fault : Option (PendingError K E)
  pub asked : List (Question E)

-- after this question
abbrev pub with_question : {K S E : Type 0} → Question E → Pass K S E → Pass K S E
with_question q p = record p { asked = q ∷ p.asked }

-- Ready where nothing is pending
abbrev pub nothing_pending : {A : Type 0} → List A → Poll (Unit {0})
nothing_pending [] = Ready tt
nothing_pending (x ∷ xs) = Pending

module _ {K S Q A E W : Type 0} (keys : Sameness K) (ends : Endpoints S Q A E W) (now : ℕ) where
  -- a pass over the entries es; `kept` are those before them
  abbrev pub pass : ℕ → List (Entry K S) → List (Entry K S) → List (Entry K S) → Pass K S E
  pass capacity rs kept [] = record { ready = rs; kept = kept; rest = []; fault = None; asked = [] }
  pass capacity rs kept (e ∷ es) =
      let told = ends.poll_ready e.endpoint now in
      let question : Question E = record { serial = e.serial; answer = told.answer } in
      let mine : Entry K S = with_endpoint e told.after in
      let end : Pass K S E =
      record { ready = rs; kept = kept; rest = es; fault = None; asked = [] } in
      if e.cancelled then pass capacity rs kept es
      else with_question question (by_readiness told.answer
      (if has_place keys capacity rs e.key
      then pass capacity (promote keys mine rs) kept es
      else record end { rest = mine ∷ es; fault = Some (error.NoPlace (record { key = e.key })) })
      (pass capacity rs (kept ++ (mine ∷ [])) es)
      (λ x. record end { fault = Some (error.Failed (record { key = e.key; error = x })) }))

  -- a pass that stops resumes at what it did not come to; one that reaches the end, at the start
  abbrev pub pass_outcome : Cache K S → Pass K S E →
      AskOutcome (Result (Poll (Unit {0})) (PendingError K E)) K S E
  pass_outcome c p = record {
    answer = map_or p.fault (Ok (nothing_pending p.kept)) Err;
    after = record c {
      ready = p.ready;
      pending = p.kept ++ p.rest;
      resume = map_or p.fault 0 (λ _. length p.kept);
    };
    asked = p.asked;
  }

  -- `poll_pending` makes a pass from the resume place on
  abbrev pub poll_pending :
      Cache K S → AskOutcome (Result (Poll (Unit {0})) (PendingError K E)) K S E
  poll_pending c = pass_outcome c
      (pass c.capacity c.ready (take c.resume c.pending) (drop c.resume c.pending))

  -- ---- one ready entry

  -- `check_ready_index` asks the ready entry at a place: one that is not ready goes to pending, and
  -- one that failed is gone
  abbrev pub check : Cache K S → ℕ → AskOutcome (Result Bool (Failed K E)) K S E
  check c i =
      let told = ask_in ends now c.ready i in
      let left = with_lists c told.after c.pending in
      record {
        answer = told.answer;
        after = by_check told.answer left (demote keys left i) (remove left i);
        asked = map_or (slice_get c.ready i) [] (λ e.
            record { serial = e.serial; answer = (ends.poll_ready e.endpoint now).answer } ∷ []);
      }

  -- `check_ready` asks the ready entry of a key
  abbrev pub check_key : Cache K S → K → AskOutcome (Result Bool (Failed K E)) K S E
  check_key c k =
      map_or (ready_place keys k c.ready)
      (record { answer = Ok false; after = c; asked = [] })
      (check c)

  -- `call_ready_index` hands a request to the ready entry at a place, which goes to pending unless
  -- it refuses
  abbrev pub call : Cache K S → ℕ → Q → Outcome (Result A CallRefusal) (Cache K S)
  call c i q =
      let told = call_in ends now c.ready i q in
      outcome told.answer (by_result told.answer
      (λ _. demote keys (with_lists c told.after c.pending) i)
      (λ _. c))

  -- `call_ready` hands a request to the ready entry of a key
  abbrev pub call_key : Cache K S → K → Q → Outcome (Result A CallRefusal) (Cache K S)
  call_key c k q = map_or (ready_place keys k c.ready) (outcome (Err NotReady) c) (λ i. call c i q)

-- ---- the end of a request, and the weight of a ready entry

module _ {K S Q A E W : Type 0} (ends : Endpoints S Q A E W) (now : ℕ) where
  -- `finish` looks among the ready before the pending, and answers whether it found the serial
  abbrev pub finish : Cache K S → ℕ → ℕ → Outcome Bool (Cache K S)
  finish c serial sent =
      let ready = finish_in ends now c.ready serial sent in
      let pending = finish_in ends now c.pending serial sent in
      if ready.answer then outcome true (with_lists c ready.after c.pending)
      else outcome pending.answer (with_lists c c.ready pending.after)

  -- `load_ready_index` reads the weight of the ready entry at a place
  abbrev pub load : Cache K S → ℕ → Outcome (Option W) (Cache K S)
  load c i =
      let told = load_in ends now c.ready i in
      outcome told.answer (with_lists c told.after c.pending)

-- The balancer and its steps, over a cache and a docket.
-- Types: keys K, workers S with requests Q, responses A, errors E and weights W, a feed D with
-- errors F, a source of words R.
use Rattle.std.specs.Net.Reader.{map_or}
use Rattle.std.specs.Prelude.{ℕ, zero, suc, ◌+◌, min, Bool, true, false, if◌then◌else◌, not, ◌||◌, List, [], ◌∷◌, ◌++◌, length, map, Some, None, Ok, Err, Option, Result, ◌==◌, slice_get}
use Rattle.lists.specs.Outcome.{Outcome, outcome}
use Rattle.lists.specs.Options.{by_result}
use Rattle.service.specs.Meaning.{Sameness, Endpoints}
use Rattle.discover.specs.Feeds.{Feeds}
use Rattle.service.specs.declared.poll.Poll.{Poll}
use Rattle.service.specs.declared.poll.Poll.TheVariants.{Ready, Pending}
use Rattle.discover.specs.declared.discovered.Discovered.{Discovered}
use Rattle.discover.specs.declared.discovered.Discovered.TheVariants as feed
use Rattle.cache_model.specs.declared.call_refusal.CallRefusal.TheVariants.{NotReady}
use Rattle.cache_model.specs.Answers.{by_check, by_pass}
use Rattle.cache_model.specs.Entries.{ready_place}
use Rattle.cache_model.specs.Cache as cache
use Rattle.cache_model.specs.Cache.{Cache, new_cache, Question, push, evict, poll_pending, check, finish}
use Rattle.balance_model.specs.declared.answer.Polled.{Polled}
use Rattle.balance_model.specs.declared.answer.PollError.{PollError}
use Rattle.balance_model.specs.declared.answer.PollError.TheVariants.{Discover, Cache as OfCache}
use Rattle.cache_model.specs.declared.error.CacheError.TheVariants.{Push}
use Rattle.balance_model.specs.declared.answer.CallError.{CallError}
use Rattle.balance_model.specs.declared.answer.CallError.TheVariants as error
use Rattle.balance_model.specs.declared.answer.CompleteError.{CompleteError}
use Rattle.balance_model.specs.declared.answer.CompleteError.TheVariants.{UnknownTicket}
use Rattle.balance_model.specs.declared.answer.Completion.{Completion}
use Rattle.balance_model.specs.declared.answer.Completion.TheVariants.{Held, Gone}
use Rattle.balance_model.specs.Answers.{no_place}
use Rattle.balance_model.specs.Meanings.{Meanings}
use Rattle.docket.specs.Docket.{Docket, new_docket, refusal_of, with_record, remove}
use Rattle.balance_model.specs.Draw.{Draw, draw}

-- ---- the three, and how they are made

-- a feed, a source of words, how many answers of the feed a poll reads at most, the selected place,
-- and whether a call may follow
pub record Balancer (D R : Type 0) : Type 0 where
  pub feed : D
  pub words : R
  pub budget : ℕ
  pub selected : Option ℕ
  pub fresh : Bool

-- a balancer with its cache and its docket
pub record State (K S D R : Type 0) : Type 0 where
  pub balancer : Balancer D R
  pub cache : Cache K S
  pub docket : Docket

-- nobody is selected; a poll reads at most 4096 answers
abbrev pub new_balancer : {D R : Type 0} → D → R → ℕ → Balancer D R
new_balancer feed words budget = record {
  feed = feed;
  words = words;
  budget = min budget 4096;
  selected = None;
  fresh = false;
}

-- what a run is made from: the capacities of cache and docket, the first serial and ticket, feed,
-- words and budget
pub record Making (D R : Type 0) : Type 0 where
  pub cache_capacity : ℕ
  pub docket_capacity : ℕ
  pub first_serial : ℕ
  pub first_ticket : ℕ
  pub feed : D
  pub words : R
  pub budget : ℕ

-- a balancer, a cache and a docket in which nothing was done yet
abbrev pub newly_made : {K S D R : Type 0} → Making D R → State K S D R
newly_made m = record {
  balancer = new_balancer m.feed m.words m.budget;
  cache = new_cache m.cache_capacity m.first_serial;
  docket = new_docket m.docket_capacity m.first_ticket;
}

-- ---- what a poll notes of itself

-- a worker as it was pushed, under its serial
pub record Arrival (S : Type 0) : Type 0 where
  pub serial : ℕ
  pub worker : S

-- a step of a poll: a pending worker is asked, one of the ready is drawn, or a ready one is checked
pub data Step (K S E : Type 0) : Type 0 where
  asks : Question E → Step K S E
  draws : Draw K S → Step K S E
  checks : Question E → Step K S E

-- the log of a poll, oldest first: the pushes, and then the steps
pub record Log (K S E : Type 0) : Type 0 where
  pub pushes : List (Arrival S)
  pub steps : List (Step K S E)

module _ {K S E : Type 0} where
  -- the questions of these steps, to pending and to ready workers
  abbrev pub questions_in : List (Step K S E) → List (Question E)
  questions_in [] = []
  questions_in (asks q ∷ steps) = q ∷ questions_in steps
  questions_in (draws d ∷ steps) = questions_in steps
  questions_in (checks q ∷ steps) = q ∷ questions_in steps

  -- the draws of these steps
  abbrev pub draws_in : List (Step K S E) → List (Draw K S)
  draws_in [] = []
  draws_in (asks q ∷ steps) = draws_in steps
  draws_in (draws d ∷ steps) = d ∷ draws_in steps
  draws_in (checks q ∷ steps) = draws_in steps

-- ---- reading the feed

-- the cases of a feed's answer: Pending and End, a fault, an insertion, a removal
abbrev pub by_discovered : {K S F B : Type 0} → Discovered K S F → B → (F → B) → (K → S → B) →
    (K → B) → B
by_discovered feed.Pending q f i r = q
by_discovered feed.End q f i r = q
by_discovered (feed.Fault x) q f i r = f x
by_discovered (feed.Insert k s) q f i r = i k s
by_discovered (feed.Remove k) q f i r = r k

-- the selected place once the ready entry at `gone` has left, of n, and the last one moved into the
-- gap: none if it was either
abbrev pub still_selected : Option ℕ → ℕ → Option ℕ → Option ℕ
still_selected selected n None = selected
still_selected None n (Some gone) = None
still_selected (Some i) n (Some gone) = if i == gone || suc i == n then None else Some i

-- one answer of the feed: whether to go on, or what ends the poll; and what is left. A push has its log.
pub record FeedAnswer (K S D F : Type 0) : Type 0 where
  pub answer : Result Bool (PollError K F)
  pub feed : D
  pub selected : Option ℕ
  pub cache : Cache K S
  pub pushes : List (Arrival S)

module _ {K S D F : Type 0} (keys : Sameness K) (feeds : Feeds D K S F) (now : ℕ) where
  -- an Insert pushes, a Remove evicts; a Pending, an End, a fault and a refused push end the reading
  abbrev pub read_one : D → Option ℕ → Cache K S → FeedAnswer K S D F
  read_one d selected c =
      let told = feeds.poll_discover d now in
      let end : FeedAnswer K S D F =
      record { answer = Ok false; feed = told.after; selected = selected; cache = c; pushes = [] } in
      by_discovered told.answer end
      (λ f. record end { answer = Err (Discover f) })
      (λ k s.
      let pushed = push keys c k s in
      by_result pushed.answer
      (λ serial. record end {
        answer = Ok true;
        cache = pushed.after;
        pushes = record { serial = serial; worker = s } ∷ [];
      })
      (λ e. record end { answer = Err (OfCache (Push e)); cache = pushed.after }))
      (λ k. record end {
        answer = Ok true;
        selected = still_selected selected (length c.ready) (ready_place keys k c.ready);
        cache = (evict keys c k).after;
      })

-- what reading the feed leaves; `fault` is set where the poll ends there
pub record FeedOutcome (K S D F : Type 0) : Type 0 where
  pub feed : D
  pub selected : Option ℕ
  pub cache : Cache K S
  pub pushes : List (Arrival S)
  pub fault : Option (PollError K F)

-- after these pushes
abbrev pub with_pushes : {K S D F : Type 0} → List (Arrival S) → FeedOutcome K S D F → FeedOutcome K S D F
with_pushes pushes f = record f { pushes = pushes ++ f.pushes }

-- the reading ends there, with a fault or without
abbrev pub feed_end : {K S D F : Type 0} → FeedAnswer K S D F → Option (PollError K F) →
    FeedOutcome K S D F
feed_end r fault = record {
  feed = r.feed;
  selected = r.selected;
  cache = r.cache;
  pushes = r.pushes;
  fault = fault;
}

-- ---- looking for a ready worker

-- what the passes over pending leave; `stuck` is set where there was no place among the ready
pub record PassesOutcome (K S E : Type 0) : Type 0 where
  pub cache : Cache K S
  pub lost : ℕ
  pub asked : List (Question E)
  pub stuck : Option K

-- after a pass that lost a worker and asked these questions
abbrev pub with_one_lost : {K S E : Type 0} → List (Question E) → PassesOutcome K S E →
    PassesOutcome K S E
with_one_lost asked s = record s { lost = 1 + s.lost; asked = asked ++ s.asked }

-- what the search for a ready worker leaves: its place, or none
pub record SearchOutcome (K S E R : Type 0) : Type 0 where
  pub place : Option ℕ
  pub cache : Cache K S
  pub words : R
  pub lost : ℕ
  pub steps : List (Step K S E)

-- the serial of the ready worker at a place, if there is one
abbrev pub serial_at : {K S : Type 0} → Cache K S → Option ℕ → Poll ℕ
serial_at c place = map_or place Pending (λ i. map_or (slice_get c.ready i) Pending (λ e. Ready e.serial))

-- after these steps, which lost so many workers
abbrev pub with_steps : {K S E R : Type 0} → List (Step K S E) → ℕ → SearchOutcome K S E R →
    SearchOutcome K S E R
with_steps steps lost s = record s { lost = lost + s.lost; steps = steps ++ s.steps }

-- ---- what poll, call and complete leave

-- what a poll answers and leaves, and its log
pub record PollOutcome (K S E D F R : Type 0) : Type 0 where
  pub answer : Result Polled (PollError K F)
  pub balancer : Balancer D R
  pub cache : Cache K S
  pub log : Log K S E

-- a request that was sent: its ticket, the serial of the worker whose `call` took it, the response
pub record SentRequest (A : Type 0) : Type 0 where
  pub ticket : ℕ
  pub reached : ℕ
  pub response : A

-- the answer of `call`: the pair of ticket and response
abbrev pub call_answer : {A : Type 0} → Result (SentRequest A) CallError → Result (ℕ × A) CallError
call_answer (Ok s) = Ok (s.ticket, s.response)
call_answer (Err e) = Err e

-- what a completion answers, and the cache and the docket that it leaves
pub record CompleteOutcome (K S : Type 0) : Type 0 where
  pub answer : Result Completion CompleteError
  pub cache : Cache K S
  pub docket : Docket

module _ {K S Q A E W : Type 0} (keys : Sameness K) (ends : Endpoints S Q A E W) (now : ℕ) where
  -- `poll_pending` until it no longer fails; each worker that fails leaves, so `fuel` above the
  -- pending length never runs out
  abbrev pub settle : ℕ → Cache K S → PassesOutcome K S E
  settle zero c = record { cache = c; lost = 0; asked = []; stuck = None }
  settle (suc fuel) c =
      let pass = poll_pending keys ends now c in
      let end : PassesOutcome K S E =
      record { cache = pass.after; lost = 0; asked = pass.asked; stuck = None } in
      by_pass pass.answer end
      (λ k. record end { stuck = Some k })
      (λ _. with_one_lost pass.asked (settle fuel pass.after))

  -- the passes over all that are pending
  abbrev pub settle_all : Cache K S → PassesOutcome K S E
  settle_all c = settle (suc (length c.pending)) c

module _ {K S Q A E W D F R : Type 0} (m : Meanings K S Q A E W D F R) (now : ℕ) where
  -- at most `budget` feed answers, up to a Pending or an End; a fault or a refused push ends it
  abbrev pub read_feed : ℕ → D → Option ℕ → Cache K S → FeedOutcome K S D F
  read_feed zero d selected c =
      record { feed = d; selected = selected; cache = c; pushes = []; fault = None }
  read_feed (suc budget) d selected c =
      let r = read_one m.keys m.feeds now d selected c in
      by_result r.answer
      (λ more.
      if more then with_pushes r.pushes (read_feed budget r.feed r.selected r.cache)
      else feed_end r None)
      (λ e. feed_end r (Some e))

  -- the place is checked; where it is not ready, the search goes on by `more`
  abbrev pub check_then : (Cache K S → R → SearchOutcome K S E R) → ℕ → Cache K S → R →
      SearchOutcome K S E R
  check_then more i c r =
      let k = check m.keys m.endpoints now c i in
      by_check k.answer
      (record { place = Some i; cache = k.after; words = r; lost = 0; steps = map checks k.asked })
      (with_steps (map checks k.asked) 0 (more k.after r))
      (with_steps (map checks k.asked) 1 (more k.after r))

  -- draws until one says Ready or none is ready; each that does not leaves, so `fuel` of the ready
  -- length never runs out
  abbrev pub search_from : ℕ → Cache K S → R → SearchOutcome K S E R
  search_from zero c r = record { place = None; cache = c; words = r; lost = 0; steps = [] }
  search_from (suc fuel) c r =
      let d = draw m.endpoints m.weights now m.words c r in
      with_steps (draws d.made ∷ []) 0 (check_then (search_from fuel) d.made.place d.cache d.words)

  -- the search among all that are ready
  abbrev pub search_all : Cache K S → R → SearchOutcome K S E R
  search_all c r = search_from (length c.ready) c r

  -- the selected one is checked first
  abbrev pub search_selected : Option ℕ → Cache K S → R → SearchOutcome K S E R
  search_selected selected c r = map_or selected (search_all c r) (λ i. check_then search_all i c r)

  -- a poll that came to its end is fresh if it found a place
  abbrev pub poll_end : Balancer D R → FeedOutcome K S D F → PassesOutcome K S E → SearchOutcome K S E R →
      PollOutcome K S E D F R
  poll_end b feed passes search = record {
    answer = Ok (record {
      worker = serial_at search.cache search.place;
      lost = passes.lost + search.lost;
    });
    balancer = record b {
      feed = feed.feed;
      words = search.words;
      selected = search.place;
      fresh = map_or search.place false (λ _. true);
    };
    cache = search.cache;
    log = record { pushes = feed.pushes; steps = map asks passes.asked ++ search.steps };
  }

  -- a poll that a fault ended keeps the selected place
  abbrev pub poll_fault : Balancer D R → FeedOutcome K S D F → PollError K F → Cache K S →
      List (Question E) → PollOutcome K S E D F R
  poll_fault b feed fault c asked = record {
    answer = Err fault;
    balancer = record b { feed = feed.feed; selected = feed.selected; fresh = false };
    cache = c;
    log = record { pushes = feed.pushes; steps = map asks asked };
  }

  -- the feed is read, the pending are passed over, and a ready worker is searched for
  abbrev pub poll : Balancer D R → Cache K S → PollOutcome K S E D F R
  poll b c =
      let feed = read_feed b.budget b.feed b.selected c in
      let passes = settle_all m.keys m.endpoints now feed.cache in
      map_or feed.fault
      (map_or passes.stuck
      (poll_end b feed passes (search_selected feed.selected passes.cache b.words))
      (λ k. poll_fault b feed (no_place k) passes.cache passes.asked))
      (λ fault. poll_fault b feed fault feed.cache [])

  -- the call is refused, and nothing changes
  abbrev pub refused_call :
      State K S D R → CallError → Outcome (Result (SentRequest A) CallError) (State K S D R)
  refused_call st why = outcome (Err why) st

  -- what a request leaves that the ready worker with a serial took, of which this cache is left
  abbrev pub after_sent : State K S D R → Cache K S → ℕ → State K S D R
  after_sent st left serial = record {
    balancer = record (st.balancer) { selected = None; fresh = false };
    cache = left;
    docket = with_record st.docket serial now;
  }

  -- the request is handed to the ready worker at a place, and noted where it is taken
  abbrev pub call_at :
      State K S D R → Q → ℕ → Outcome (Result (SentRequest A) CallError) (State K S D R)
  call_at st q i = map_or (slice_get st.cache.ready i)
      (refused_call st (error.Cache NotReady))
      (λ e.
      let called = cache.call m.keys m.endpoints now st.cache i q in
      by_result called.answer
      (λ response. outcome
      (Ok (record { ticket = st.docket.next; reached = e.serial; response = response }))
      (after_sent st called.after e.serial))
      (λ why. refused_call st (error.Cache why)))

  -- `call`: is the mark fresh, does the docket take a record, and then what cache and endpoint ask
  abbrev pub call : State K S D R → Q → Outcome (Result (SentRequest A) CallError) (State K S D R)
  call st q =
      if not st.balancer.fresh then refused_call st error.NotFresh
      else map_or (refusal_of st.docket)
      (map_or st.balancer.selected (refused_call st (error.Cache NotReady)) (call_at st q))
      (λ why. refused_call st (error.Docket why))

-- what a completion found, by whether the worker was found
abbrev pub held_or_gone : Bool → Completion
held_or_gone held = if held then Held else Gone

module _ {K S Q A E W : Type 0} (ends : Endpoints S Q A E W) (now : ℕ) where
  -- `complete` takes the ticket's record from the docket, and tells the worker with its serial
  abbrev pub complete : Cache K S → Docket → ℕ → CompleteOutcome K S
  complete c d ticket =
      let gone = remove d ticket in
      map_or gone.answer
      (record { answer = Err UnknownTicket; cache = c; docket = d })
      (λ r.
      let told = finish ends now c r.serial r.sent in
      record { answer = Ok (held_or_gone told.answer); cache = told.after; docket = gone.after })

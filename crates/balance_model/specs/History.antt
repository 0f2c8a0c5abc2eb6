-- Whole runs: the picks applied one after the other, and the history that they leave, newest event first.
-- Types: keys K, workers S with requests Q, responses A, errors E and weights W, a feed D with
-- errors F, a source of words R.
use Rattle.std.specs.Net.Reader.{map_or}
use Rattle.std.specs.Prelude.{◌≡◌, ℕ, Bool, true, false, if◌then◌else◌, ◌||◌, List, [], ◌∷◌, ◌++◌, Some, None, Ok, Err, Option, Result, ◌==◌, IsSomeAnd}
use Rattle.lists.specs.Lists.{last_of}
use Rattle.service.specs.declared.readiness.Readiness.TheVariants.{Ready}
use Rattle.cache_model.specs.Cache.{Question}
use Rattle.balance_model.specs.declared.answer.Polled.{Polled}
use Rattle.balance_model.specs.declared.answer.PollError.{PollError}
use Rattle.balance_model.specs.declared.answer.CallError.{CallError}
use Rattle.balance_model.specs.declared.answer.CompleteError.{CompleteError}
use Rattle.balance_model.specs.declared.answer.Completion.{Completion}
use Rattle.balance_model.specs.declared.pick.Pick.{Pick}
use Rattle.balance_model.specs.declared.pick.Pick.TheVariants as pick
use Rattle.balance_model.specs.declared.answer.Answer.{Answer}
use Rattle.balance_model.specs.declared.answer.Answer.TheVariants.{Polled as PolledAnswer, Called, Completed}
use Rattle.balance_model.specs.Answers.{named_serial}
use Rattle.balance_model.specs.Meanings.{Meanings}
use Rattle.balance_model.specs.Draw.{Draw}
use Rattle.balance_model.specs.Balance.{State, Making, newly_made, Arrival, Log, questions_in, draws_in, SentRequest, poll, call, call_answer, complete}

-- ---- events and runs

-- what came of a pick, with its instant: a poll with its log, a call, a completion of a ticket
pub data Event (K S A E F : Type 0) : Type 0 where
  polled : ℕ → Log K S E → Result Polled (PollError K F) → Event K S A E F
  called : ℕ → Result (SentRequest A) CallError → Event K S A E F
  completed : ℕ → ℕ → Result Completion CompleteError → Event K S A E F

-- the events of a run, the newest first
abbrev pub History : (K S A E F : Type 0) → Type 0
History K S A E F = List (Event K S A E F)

-- the answer that the event's caller got
abbrev pub answer_of : {K S A E F : Type 0} → Event K S A E F → Answer K A F
answer_of (polled at log answer) = PolledAnswer answer
answer_of (called at answer) = Called (call_answer answer)
answer_of (completed at ticket answer) = Completed answer

-- all answers, oldest first
abbrev pub answers_of : {K S A E F : Type 0} → History K S A E F → List (Answer K A F)
answers_of [] = []
answers_of (e ∷ h) = answers_of h ++ (answer_of e ∷ [])

-- where a run stands, and how it came there
pub record Run (K S A E D F R : Type 0) : Type 0 where
  pub state : State K S D R
  pub history : History K S A E F

module _ {K S Q A E W D F R : Type 0} (m : Meanings K S Q A E W D F R) where
  -- what comes of a pick
  abbrev pub event : State K S D R → Pick Q → Event K S A E F
  event st (pick.Poll at) = let p = poll m at st.balancer st.cache in polled at p.log p.answer
  event st (pick.Call request at) = called at (call m at st request).answer
  event st (pick.Complete ticket at) =
      completed at ticket (complete m.endpoints at st.cache st.docket ticket).answer

  -- the three afterwards
  abbrev pub after : State K S D R → Pick Q → State K S D R
  after st (pick.Poll at) =
      let p = poll m at st.balancer st.cache in
      record st { balancer = p.balancer; cache = p.cache }
  after st (pick.Call request at) = (call m at st request).after
  after st (pick.Complete ticket at) =
      let c = complete m.endpoints at st.cache st.docket ticket in
      record st { cache = c.cache; docket = c.docket }

  -- one pick more
  abbrev pub apply : Run K S A E D F R → Pick Q → Run K S A E D F R
  apply run p = record { state = after run.state p; history = event run.state p ∷ run.history }

  -- picks more, one after the other
  abbrev pub apply_all : Run K S A E D F R → List (Pick Q) → Run K S A E D F R
  apply_all run [] = run
  apply_all run (p ∷ ps) = apply_all (apply run p) ps

-- a newly made balancer, cache and docket, and no history
abbrev pub new_run : {K S A E D F R : Type 0} → Making D R → Run K S A E D F R
new_run made = record { state = newly_made made; history = [] }

-- ---- what a history says

-- the question to a worker that it answered with Ready
abbrev pub ready_question : {E : Type 0} → ℕ → Question E
ready_question serial = record { serial = serial; answer = Ready }

-- a worker granted in a poll: its `poll_ready` was the last asked there, and said Ready
abbrev pub Granted : {K S E : Type 0} → Log K S E → ℕ → Type 0
Granted log serial = last_of (questions_in log.steps) ≡ Some (ready_question serial)

-- a poll as a history has it
pub record Latest (K S E F : Type 0) : Type 0 where
  pub log : Log K S E
  pub answer : Result Polled (PollError K F)

-- the count that the worker of a serial had at its push, if it is among these
abbrev pub count_in_pushes : {S : Type 0} → (S → ℕ) → ℕ → List (Arrival S) → Option ℕ
count_in_pushes count serial [] = None
count_in_pushes count serial (p ∷ ps) =
    if p.serial == serial then Some (count p.worker) else count_in_pushes count serial ps

module _ {K S A E F : Type 0} where
  -- the newest poll
  abbrev pub latest_poll : History K S A E F → Option (Latest K S E F)
  latest_poll [] = None
  latest_poll (polled at log answer ∷ h) = Some (record { log = log; answer = answer })
  latest_poll (called at answer ∷ h) = latest_poll h
  latest_poll (completed at ticket answer ∷ h) = latest_poll h

  -- the worker that the latest poll named
  abbrev pub named_by_latest : History K S A E F → Option ℕ
  named_by_latest h = map_or (latest_poll h) None (λ l. named_serial l.answer)

  -- the selected worker: the latest poll that came to its end named it, and no request was sent since
  abbrev pub selected_serial : History K S A E F → Option ℕ
  selected_serial [] = None
  selected_serial (polled at log (Ok p) ∷ h) = named_serial {K = K} {F = F} (Ok p)
  selected_serial (polled at log (Err e) ∷ h) = selected_serial h
  selected_serial (called at (Ok sent) ∷ h) = None
  selected_serial (called at (Err r) ∷ h) = selected_serial h
  selected_serial (completed at ticket answer ∷ h) = selected_serial h

  -- the worker granted in the latest poll
  abbrev pub GrantedInLatest : History K S A E F → ℕ → Type 0
  GrantedInLatest h serial = IsSomeAnd (latest_poll h) (λ l. Granted l.log serial)

  -- a request was sent since the latest poll
  abbrev pub sent_since_poll : History K S A E F → Bool
  sent_since_poll [] = false
  sent_since_poll (polled at log answer ∷ h) = false
  sent_since_poll (called at (Ok sent) ∷ h) = true
  sent_since_poll (called at (Err r) ∷ h) = sent_since_poll h
  sent_since_poll (completed at ticket answer ∷ h) = sent_since_poll h

  -- what the worker of a serial brought: its count when it was pushed
  abbrev pub count_at_push : (S → ℕ) → ℕ → History K S A E F → Option ℕ
  count_at_push count serial [] = None
  count_at_push count serial (polled at log answer ∷ h) =
      map_or (count_in_pushes count serial log.pushes) (count_at_push count serial h) Some
  count_at_push count serial (called at answer ∷ h) = count_at_push count serial h
  count_at_push count serial (completed at ticket answer ∷ h) = count_at_push count serial h

  -- the tickets of the sent requests that reached the worker of a serial
  abbrev pub tickets_sent_to : ℕ → History K S A E F → List ℕ
  tickets_sent_to serial [] = []
  tickets_sent_to serial (polled at log answer ∷ h) = tickets_sent_to serial h
  tickets_sent_to serial (called at (Ok sent) ∷ h) =
      if sent.reached == serial then sent.ticket ∷ tickets_sent_to serial h else tickets_sent_to serial h
  tickets_sent_to serial (called at (Err r) ∷ h) = tickets_sent_to serial h
  tickets_sent_to serial (completed at ticket answer ∷ h) = tickets_sent_to serial h

  -- a completion accepted the ticket
  abbrev pub is_completed : History K S A E F → ℕ → Bool
  is_completed [] ticket = false
  is_completed (polled at log answer ∷ h) ticket = is_completed h ticket
  is_completed (called at answer ∷ h) ticket = is_completed h ticket
  is_completed (completed at t (Ok over) ∷ h) ticket = t == ticket || is_completed h ticket
  is_completed (completed at t (Err r) ∷ h) ticket = is_completed h ticket

  -- the draws of all polls, oldest first
  abbrev pub draws_of : History K S A E F → List (Draw K S)
  draws_of [] = []
  draws_of (polled at log answer ∷ h) = draws_of h ++ draws_in log.steps
  draws_of (called at answer ∷ h) = draws_of h
  draws_of (completed at ticket answer ∷ h) = draws_of h

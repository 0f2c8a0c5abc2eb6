-- What is promised of every run.
-- Types: keys K, workers S with requests Q, responses A, errors E and weights W, a feed D with
-- errors F, a source of words R.
use Rattle.std.specs.List.{AllByRecursion}
use Rattle.std.specs.Net.Reader.{map_or}
use Rattle.std.specs.Prelude.{◌≡◌, ℕ, ◌+◌, ◌-◌, ◌%◌, ◌<◌, ◌≤◌, Bool, false, IsTrue, is_some, ◌⊎◌, ◌↔◌, List, [], ◌∷◌, ◌++◌, length, Some, None, Ok, Err, Option, Result, slice_get, count_by}
use Rattle.rng.specs.Pairs.{OnePairEach}
use Rattle.rng.specs.Shares.{winner_of_pair, Share}
use Rattle.rng.specs.Words.{Words}
use Rattle.service.specs.Meaning.{Endpoints, Weights}
use Rattle.cache_model.specs.declared.entry.Entry.{Entry}
use Rattle.cache_model.specs.Cache.{Cache}
use Rattle.cache_model.specs.Laws.{KeysOnce, SerialsOnce}
use Rattle.balance_model.specs.declared.answer.CallError.{CallError}
use Rattle.balance_model.specs.Answers.{call_error_number}
use Rattle.balance_model.specs.Meanings.{Meanings}
use Rattle.balance_model.specs.Draw.{Draw}
use Rattle.balance_model.specs.Balance.{Step, draws_in, Making, SentRequest}
use Rattle.balance_model.specs.Search.{search_in, Search}
use Rattle.balance_model.specs.History.{History, polled, called, completed, latest_poll, named_by_latest, selected_serial, GrantedInLatest, sent_since_poll, count_at_push, tickets_sent_to, is_completed, draws_of, Run}

-- ---- calls

-- an answer is a refusal with this number
abbrev pub HasNumber : {A : Type 0} → Result A CallError → ℕ → Type 0
HasNumber (Ok a) n = ⊥
HasNumber (Err e) n = call_error_number e ≡ n

module _ {K S A E F : Type 0} where
  -- P holds of each call of a history: of what came before it, and its answer
  abbrev pub EachCall : (History K S A E F → Result (SentRequest A) CallError → Type 0) →
      History K S A E F → Type 0
  EachCall P [] = Unit {0}
  EachCall P (polled now log answer ∷ h) = EachCall P h
  EachCall P (called now answer ∷ h) = P h answer × EachCall P h
  EachCall P (completed now ticket answer ∷ h) = EachCall P h

  -- a request that was sent reached the worker that the latest poll before it named, and that worker
  -- granted in that poll
  abbrev pub ReachedNamed : History K S A E F → Result (SentRequest A) CallError → Type 0
  ReachedNamed before (Ok sent) =
      (named_by_latest before ≡ Some sent.reached) × GrantedInLatest before sent.reached
  ReachedNamed before (Err e) = Unit {0}

  -- no poll came yet, the latest poll named nobody, or a request was sent since
  abbrev pub NobodyNamed : History K S A E F → Type 0
  NobodyNamed before =
      (latest_poll before ≡ None) ⊎ ((named_by_latest before ≡ None) ⊎ IsTrue (sent_since_poll before))

  -- a call gets 6 exactly then
  abbrev pub SixIffNobodyNamed : History K S A E F → Result (SentRequest A) CallError → Type 0
  SixIffNobodyNamed before answer = HasNumber answer 6 ↔ NobodyNamed before

  -- no call gets 3 or 4
  abbrev pub NotThreeOrFour : History K S A E F → Result (SentRequest A) CallError → Type 0
  NotThreeOrFour before answer = (HasNumber answer 3 → ⊥) × (HasNumber answer 4 → ⊥)

-- ---- keys, serials and counts

-- n is what the worker brought, plus the sent requests that reached it, less those of them completed
pub record CountRight {K S A E F : Type 0} (count : S → ℕ) (h : History K S A E F) (serial n : ℕ) :
    Type 0 where
  pub had : ℕ
  pub at_push : count_at_push count serial h ≡ Some had
  pub sum :
      let sent = tickets_sent_to serial h in
      n + count_by (is_completed h) sent ≡ had + length sent

-- the count of each held worker, by its own reckoning
abbrev pub CountsRight : {K S A E F : Type 0} → (S → ℕ) → History K S A E F → Cache K S → Type 0
CountsRight count h c =
    AllByRecursion (λ e. CountRight count h e.serial (count e.endpoint)) (c.ready ++ c.pending)

-- ---- draws

module _ {K S Q A E W : Type 0} (ends : Endpoints S Q A E W) (weights : Weights W) (now : ℕ) where
  -- whether the ready worker at a place is not heavier than that at another, at the instant
  abbrev pub not_heavier_at : List (Entry K S) → ℕ → ℕ → Bool
  not_heavier_at rs i j = map_or (slice_get rs i) false (λ e.
      map_or (slice_get rs j) false (λ f.
      weights.not_heavier (ends.weight e.endpoint now) (ends.weight f.endpoint now)))

  -- a draw among two or more: two words are taken, the place is the one that their remainders make
  -- win, and each place has its share of the remainder pairs
  pub record DrawFair (d : Draw K S) : Type 0 where
    pub among : 2 ≤ length d.before
    pub first : ℕ
    pub second : ℕ
    pub words : d.words ≡ first ∷ second ∷ []
    pub drawn :
        let n = length d.before in
        d.place ≡ winner_of_pair (not_heavier_at d.before) n (first % (n - 1)) (second % n)
    pub pairs : OnePairEach (length d.before)
    pub shares : (i : ℕ) → i < length d.before → Share (not_heavier_at d.before) (length d.before) i

  -- the only ready worker is drawn without a word
  abbrev pub DrawRight : Draw K S → Type 0
  DrawRight d = ((length d.before ≡ 1) × (d.words ≡ [])) ⊎ DrawFair d

module _ {K S Q A E W F : Type 0} (ends : Endpoints S Q A E W) (weights : Weights W) where
  -- so is every draw of every poll
  abbrev pub DrawsRight : History K S A E F → Type 0
  DrawsRight [] = Unit {0}
  DrawsRight (polled now log answer ∷ h) =
      AllByRecursion (DrawRight ends weights now) (draws_in log.steps) × DrawsRight h
  DrawsRight (called now answer ∷ h) = DrawsRight h
  DrawsRight (completed now ticket answer ∷ h) = DrawsRight h

module _ {K S Q A E W F : Type 0} (ends : Endpoints S Q A E W) where
  -- a poll that followed these events searched, and left these ready; the first worker that it asked
  -- was drawn, unless one was selected by then
  pub record Searched (now : ℕ) (before : History K S A E F) (steps : List (Step K S E))
      (left : List (Entry K S)) : Type 0 where
    pub ready : List (Entry K S)
    pub place : Option ℕ
    pub selected : (i : ℕ) → place ≡ Some i → IsTrue (is_some (selected_serial before))
    pub search : Search ends now ready place (search_in steps) left

  -- so did each poll of a history: the newest event left these ready, and each one before it some
  abbrev pub PollsSearched : History K S A E F → List (Entry K S) → Type 0
  PollsSearched [] left = Unit {0}
  PollsSearched (polled now log (Ok p) ∷ h) left =
      Searched now h log.steps left × ((ready : List (Entry K S)) × PollsSearched h ready)
  PollsSearched (polled now log (Err e) ∷ h) left =
      (search_in log.steps ≡ []) × ((ready : List (Entry K S)) × PollsSearched h ready)
  PollsSearched (called now answer ∷ h) left = (ready : List (Entry K S)) × PollsSearched h ready
  PollsSearched (completed now ticket answer ∷ h) left =
      (ready : List (Entry K S)) × PollsSearched h ready

-- the words that these draws took
abbrev pub words_in : {K S : Type 0} → List (Draw K S) → List ℕ
words_in [] = []
words_in (d ∷ ds) = d.words ++ words_in ds

-- the source gives these words, from r on, and is then at the end
abbrev pub GivesWords : {R : Type 0} → Words R → R → List ℕ → R → Type 0
GivesWords source r [] end = end ≡ r
GivesWords source r (w ∷ ws) end =
    ((source.word r).answer ≡ w) × GivesWords source (source.word r).after ws end

-- ---- all together

-- what is promised of a run that was made so
pub record Promise {K S Q A E W D F R : Type 0} (m : Meanings K S Q A E W D F R) (made : Making D R)
    (run : Run K S A E D F R) : Type 0 where
  pub sent : EachCall ReachedNamed run.history
  pub six : EachCall SixIffNobodyNamed run.history
  pub never : EachCall NotThreeOrFour run.history
  pub keys : KeysOnce m.keys run.state.cache
  pub serials : SerialsOnce run.state.cache
  pub counts : CountsRight m.endpoints.count run.history run.state.cache
  pub words : GivesWords m.words made.words (words_in (draws_of run.history)) run.state.balancer.words
  pub shares : DrawsRight m.endpoints m.weights run.history
  pub searched : PollsSearched m.endpoints run.history run.state.cache.ready

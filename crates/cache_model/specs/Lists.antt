-- The steps of one list of entries: what each answers, and the list that it leaves.
-- Types: keys K, workers S with requests Q, responses A, errors E and weights W.
use Rattle.std.specs.Net.Reader.{map_or}
use Rattle.std.specs.Prelude.{ℕ, Bool, false, if◌then◌else◌, List, [], ◌∷◌, is_some, Some, None, Ok, Err, Option, Result, slice_set, slice_get, position}
use Rattle.lists.specs.Outcome.{Outcome, outcome}
use Rattle.service.specs.Meaning.{Endpoints, refused_by}
use Rattle.cache_model.specs.declared.entry.Entry.{Entry}
use Rattle.cache_model.specs.declared.error.Failed.{Failed}
use Rattle.cache_model.specs.declared.call_refusal.CallRefusal.{CallRefusal}
use Rattle.cache_model.specs.declared.call_refusal.CallRefusal.TheVariants.{NotReady}
use Rattle.cache_model.specs.Answers.{as_call, as_check}
use Rattle.cache_model.specs.Entries.{with_endpoint, has_serial}

-- at an instant, entries of keys K and workers S, which have requests Q, responses A, errors E and
-- weights W
module _ {K S Q A E W : Type 0} (ends : Endpoints S Q A E W) (now : ℕ) where
  -- the entry at a place is asked whether it is ready; past the end nobody is
  abbrev pub ask_in : List (Entry K S) → ℕ → Outcome (Result Bool (Failed K E)) (List (Entry K S))
  ask_in es i = map_or (slice_get es i)
      (outcome (Ok false) es)
      (λ e.
      let left = ends.poll_ready e.endpoint now in
      outcome (as_check e left.answer) (slice_set es i (with_endpoint e left.after)))

  -- a request is handed to the entry at a place; a refusal changes nothing
  abbrev pub call_in : List (Entry K S) → ℕ → Q → Outcome (Result A CallRefusal) (List (Entry K S))
  call_in es i q = map_or (slice_get es i)
      (outcome (Err NotReady) es)
      (λ e. map_or (refused_by ends e.endpoint)
      (let left = ends.accept e.endpoint q now in
      outcome (Ok left.answer) (slice_set es i (with_endpoint e left.after)))
      (λ r. outcome (Err (as_call r)) es))

  -- the weight of the entry at a place is read
  abbrev pub load_in : List (Entry K S) → ℕ → Outcome (Option W) (List (Entry K S))
  load_in es i = map_or (slice_get es i)
      (outcome None es)
      (λ e. outcome
      (Some (ends.weight e.endpoint now))
      (slice_set es i (with_endpoint e (ends.load e.endpoint now))))

  -- the list after the first entry with the serial was told of the end of a request sent at an
  -- instant
  abbrev pub after_finish : List (Entry K S) → ℕ → ℕ → List (Entry K S)
  after_finish [] serial sent = []
  after_finish (e ∷ es) serial sent =
      if has_serial serial e then with_endpoint e (ends.finish e.endpoint sent now) ∷ es
      else e ∷ after_finish es serial sent

  -- the same, with the answer whether there is such an entry
  abbrev pub finish_in : List (Entry K S) → ℕ → ℕ → Outcome Bool (List (Entry K S))
  finish_in es serial sent =
      outcome (is_some (position (has_serial serial) es)) (after_finish es serial sent)

-- How a poll finds its worker among the ready, as its log has it.
-- Types: keys K, workers S with requests Q, responses A, errors E and weights W.
use Rattle.std.specs.Prelude.{◌≡◌, ℕ, ◌-◌, ◌%◌, List, [], ◌∷◌, length, Some, None, Option, slice_set, slice_get}
use Rattle.lists.specs.Lists.{swap_remove}
use Rattle.rng.specs.Pairs.{first_place}
use Rattle.service.specs.declared.readiness.Readiness.{Readiness}
use Rattle.service.specs.declared.readiness.Readiness.TheVariants.{Ready, Pending, Failed}
use Rattle.service.specs.Meaning.{Endpoints}
use Rattle.cache_model.specs.declared.entry.Entry.{Entry}
use Rattle.cache_model.specs.Entries.{with_endpoint}
use Rattle.cache_model.specs.Lists.{load_in}
use Rattle.balance_model.specs.Balance.{Step, asks, draws, checks}

-- the steps of a poll after its questions to pending workers
abbrev pub search_in : {K S E : Type 0} → List (Step K S E) → List (Step K S E)
search_in [] = []
search_in (asks q ∷ steps) = search_in steps
search_in (draws d ∷ steps) = draws d ∷ steps
search_in (checks q ∷ steps) = checks q ∷ steps

-- the first holds where the answer is Ready, the second where it is not
abbrev pub ReadyOr : {E : Type 0} → Readiness E → Type 0 → Type 0 → Type 0
ReadyOr Ready A B = A
ReadyOr Pending A B = B
ReadyOr (Failed x) A B = B

module _ {K S Q A E W : Type 0} (ends : Endpoints S Q A E W) (now : ℕ) where
  -- the workers after the load of the one at a place was read
  abbrev pub load_read : ℕ → List (Entry K S) → List (Entry K S)
  load_read i es = (load_in ends now es i).after

  -- the workers after a draw: the loads of the two that its words give were read, the first one's
  -- first; by no words, none
  abbrev pub loads_read : List ℕ → List (Entry K S) → List (Entry K S)
  loads_read [] es = es
  loads_read (v ∷ []) es = es
  loads_read (v ∷ w ∷ ws) es =
      let n = length es in
      load_read (w % n) (load_read (first_place n (v % (n - 1)) (w % n)) es)

  -- Search ready place steps left: a search among these ready workers leaves those.
  -- Without a place one is drawn, among all of them; where there is none the search is over.
  -- The worker at the place is the next one asked. If it says Ready, the search is over and all are left;
  -- if it does not, it goes, the last one moves to its place, and another is drawn.
  abbrev pub Search : List (Entry K S) → Option ℕ → List (Step K S E) → List (Entry K S) → Type 0
  Search ready None [] left = (ready ≡ []) × (left ≡ [])
  Search ready None (asks q ∷ steps) left = ⊥
  Search ready None (draws d ∷ steps) left =
      (d.before ≡ ready) × Search (loads_read d.words ready) (Some d.place) steps left
  Search ready None (checks q ∷ steps) left = ⊥
  Search ready (Some i) [] left = ⊥
  Search ready (Some i) (asks q ∷ steps) left = ⊥
  Search ready (Some i) (draws d ∷ steps) left = ⊥
  Search ready (Some i) (checks q ∷ steps) left =
      (e : Entry K S) × (slice_get ready i ≡ Some e)
      × (q ≡ record { serial = e.serial; answer = (ends.poll_ready e.endpoint now).answer })
      × ReadyOr q.answer
      ((steps ≡ []) × (left ≡ slice_set ready i (with_endpoint e (ends.poll_ready e.endpoint now).after)))
      (Search (swap_remove ready i) None steps left)

-- The steps of a log, one list after another.
use Rattle.std.proofs.Common.{◌≡◌, ℕ, List, [], ◌∷◌, ◌++◌, map, Some, None, Option, refl, ap}
use Rattle.service.specs.Meaning.{Endpoints}
use Rattle.cache_model.specs.declared.entry.Entry.{Entry}
use Rattle.cache_model.specs.Cache.{Question}
use Rattle.balance_model.specs.Balance.{Step, asks, draws, checks, questions_in, draws_in}
use Rattle.balance_model.specs.Search.{search_in, Search}

module _ {K S E : Type 0} where
  pub questions_after_asks : (qs : List (Question E)) (steps : List (Step K S E)) → questions_in (map asks qs ++ steps) ≡ qs ++ questions_in steps
  questions_after_asks [] steps = refl
  questions_after_asks (q ∷ qs) steps = ap (λ (xs : List (Question E)). q ∷ xs) (questions_after_asks qs steps)

  pub questions_after_checks : (qs : List (Question E)) (steps : List (Step K S E)) → questions_in (map checks qs ++ steps) ≡ qs ++ questions_in steps
  questions_after_checks [] steps = refl
  questions_after_checks (q ∷ qs) steps = ap (λ (xs : List (Question E)). q ∷ xs) (questions_after_checks qs steps)

  pub draws_after_asks : (qs : List (Question E)) (steps : List (Step K S E)) → draws_in (map asks qs ++ steps) ≡ draws_in steps
  draws_after_asks [] steps = refl
  draws_after_asks (q ∷ qs) steps = draws_after_asks qs steps

  pub draws_after_checks : (qs : List (Question E)) (steps : List (Step K S E)) → draws_in (map checks qs ++ steps) ≡ draws_in steps
  draws_after_checks [] steps = refl
  draws_after_checks (q ∷ qs) steps = draws_after_checks qs steps

  pub search_after_asks : (qs : List (Question E)) (steps : List (Step K S E)) → search_in (map asks qs ++ steps) ≡ search_in steps
  search_after_asks [] steps = refl
  search_after_asks (q ∷ qs) steps = search_after_asks qs steps

-- no pending worker is asked in a search
module _ {K S Q A E W : Type 0} (ends : Endpoints S Q A E W) (now : ℕ) where
  pub search_alone : (ready : List (Entry K S)) (place : Option ℕ) (steps : List (Step K S E)) (left : List (Entry K S)) → Search ends now ready place steps left → search_in steps ≡ steps
  search_alone ready place [] left s = refl
  search_alone ready None (asks q ∷ steps) left s = absurd s
  search_alone ready (Some i) (asks q ∷ steps) left s = absurd s
  search_alone ready place (draws d ∷ steps) left s = refl
  search_alone ready place (checks q ∷ steps) left s = refl

-- questions alone
module _ (K S : Type 0) {E : Type 0} where
  pub draws_of_asks : (qs : List (Question E)) → draws_in {K = K} {S = S} (map asks qs) ≡ []
  draws_of_asks [] = refl
  draws_of_asks (q ∷ qs) = draws_of_asks qs

  pub draws_of_checks : (qs : List (Question E)) → draws_in {K = K} {S = S} (map checks qs) ≡ []
  draws_of_checks [] = refl
  draws_of_checks (q ∷ qs) = draws_of_checks qs

  pub questions_of_checks : (qs : List (Question E)) → questions_in {K = K} {S = S} (map checks qs) ≡ qs
  questions_of_checks [] = refl
  questions_of_checks (q ∷ qs) = ap (λ (xs : List (Question E)). q ∷ xs) (questions_of_checks qs)

  pub search_of_asks : (qs : List (Question E)) → search_in {K = K} {S = S} (map asks qs) ≡ []
  search_of_asks [] = refl
  search_of_asks (q ∷ qs) = search_of_asks qs

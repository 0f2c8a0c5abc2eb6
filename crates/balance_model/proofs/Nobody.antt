-- A search that finds nobody leaves nobody ready.
use Rattle.lists.proofs.Cases.{some_case}
use Rattle.std.proofs.lemmas.Option.{slice_get_past}
use Rattle.cache_model.specs.Cache.{Cache, AskOutcome, check}
use Rattle.cache_model.proofs.Cases.{check_case}
use Rattle.cache_model.proofs.AtPlace.{check_place}
use Rattle.cache_model.proofs.Shrinks.{check_falls}
use Rattle.balance_model.specs.Meanings.{Meanings}
use Rattle.balance_model.specs.Draw.{draw}
use Rattle.balance_model.specs.Balance.{SearchOutcome, check_then, search_from, search_all, search_selected}
use Rattle.balance_model.proofs.Loops.{draw_within}
use Rattle.std.proofs.Common.{◌≡◌, ℕ, zero, suc, ◌<◌, ◌≤◌, Bool, true, ◌⊎◌, List, [], ◌∷◌, length, None, Ok, Option, Result, refl, inl, inr, arith}
use Rattle.std.proofs.lemmas.Bool.{cases_lt}
use Rattle.cache_model.specs.declared.error.Failed.{Failed}

pub none_left : {A : Type 0} (xs : List A) → length xs ≤ 0 → xs ≡ []
none_left [] h = refl
none_left (x ∷ xs) h = absurd (omega arith)

module _ {K S Q A E W D F R : Type 0} (m : Meanings K S Q A E W D F R) (now : ℕ) where
  abbrev pub NobodyLeft : SearchOutcome K S E R → Type 0
  NobodyLeft s = s.place ≡ None → s.cache.ready ≡ []

  -- a check at a ready place that is not answered by Ready leaves fewer ready, and where nobody is ready it leaves nobody
  check_leaves : (fuel i : ℕ) (c : Cache K S) → length c.ready ≤ suc fuel → (0 < length c.ready → i < length c.ready) → ((check m.keys m.endpoints now c i).answer ≡ Ok true → ⊥) →
      length (check m.keys m.endpoints now c i).after.ready ≤ fuel
  check_leaves fuel i c few within n = go (cases_lt 0 (length c.ready))
    where
      go : (0 < length c.ready) ⊎ (length c.ready ≤ 0) → length (check m.keys m.endpoints now c i).after.ready ≤ fuel
      go (inl some) = let f = check_falls m.keys m.endpoints now c i (within some) n in omega arith
      go (inr none) =
          let past = slice_get_past c.ready i (omega arith) in
          check_place m.keys m.endpoints now (λ (k : AskOutcome (Result Bool (Failed K E)) K S E). length k.after.ready ≤ fuel) c i
          (λ _. omega arith)
          (λ e here. cc)

  try_nobody : (more : Cache K S → R → SearchOutcome K S E R) (i : ℕ) (c : Cache K S) (r : R) →
      (((check m.keys m.endpoints now c i).answer ≡ Ok true → ⊥) → NobodyLeft (more (check m.keys m.endpoints now c i).after r)) → NobodyLeft (check_then m now more i c r)
  try_nobody more i c r ih =
      check_case NobodyLeft (check m.keys m.endpoints now c i).answer _ _ _
      (λ _ none. cc)
      (λ e. ih (λ yes_it_is. cc))
      (λ x e. ih (λ yes_it_is. cc))

  seek_nobody : (fuel : ℕ) (c : Cache K S) (r : R) → length c.ready ≤ fuel → NobodyLeft (search_from m now fuel c r)
  seek_nobody zero c r few = λ _. none_left c.ready few
  seek_nobody (suc fuel) c r few =
      let d = draw m.endpoints m.weights now m.words c r in
      let w = draw_within m now c r in
      let same = w.same in
      try_nobody (search_from m now fuel) d.made.place d.cache d.words
      (λ n. seek_nobody fuel (check m.keys m.endpoints now d.cache d.made.place).after d.words
      (check_leaves fuel d.made.place d.cache (omega arith) (λ some. let below = w.below (omega arith) in omega arith) n))

  pub select_nobody : (selected : Option ℕ) (c : Cache K S) (r : R) → NobodyLeft (search_selected m now selected c r)
  select_nobody selected c r =
      some_case NobodyLeft selected _ _
      (λ _. seek_nobody (length c.ready) c r (omega arith))
      (λ i _. try_nobody (search_all m now) i c r (λ _. seek_nobody _ (check m.keys m.endpoints now c i).after r (omega arith)))

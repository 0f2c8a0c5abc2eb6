-- The search for a ready worker makes and counts nobody anew.
use Rattle.lists.proofs.Cases.{cond_case, some_case}
use Rattle.rng.specs.Words.{Words}
use Rattle.service.specs.Meaning.{Sameness, Endpoints, Weights}
use Rattle.cache_model.specs.Cache.{Cache, poll_pending, check, load}
use Rattle.cache_model.proofs.Cases.{check_case, pass_case}
use Rattle.cache_model.proofs.Steps.{Keeps, keeps_refl, keeps_trans, poll_pending_keeps, check_keeps, load_keeps}
use Rattle.balance_model.specs.Meanings.{Meanings}
use Rattle.balance_model.specs.Draw.{DrawOutcome, weigh, draw}
use Rattle.balance_model.specs.Balance.{PassesOutcome, settle, SearchOutcome, check_then, search_from, search_all, search_selected}
use Rattle.std.proofs.Common.{ℕ, zero, suc, ltb, length, Option}

module _ {K S Q A E W : Type 0} (keys : Sameness K) (ends : Endpoints S Q A E W) (weights : Weights W) (now : ℕ) where
  weigh_keeps : (c : Cache K S) (a b : ℕ) → Keeps keys ends c (weigh ends weights now c a b).cache
  weigh_keeps c a b = keeps_trans keys ends c (load ends now c a).after _ (load_keeps keys ends now c a) (load_keeps keys ends now (load ends now c a).after b)

  pub draw_keeps : {R : Type 0} (source : Words R) (c : Cache K S) (r : R) → Keeps keys ends c (draw ends weights now source c r).cache
  draw_keeps {R} source c r =
      cond_case (λ (d : DrawOutcome K S R). Keeps keys ends c d.cache) (ltb (length c.ready) 2) _ _
      (λ _. keeps_refl keys ends c)
      (λ _. weigh_keeps c _ _)

module _ {K S Q A E W D F R : Type 0} (m : Meanings K S Q A E W D F R) (now : ℕ) where
  abbrev Kept : Cache K S → Cache K S → Type 0
  Kept = Keeps m.keys m.endpoints

  pub settle_keeps : (fuel : ℕ) (c : Cache K S) → Kept c (settle m.keys m.endpoints now fuel c).cache
  settle_keeps zero c = keeps_refl m.keys m.endpoints c
  settle_keeps (suc fuel) c =
      let p = poll_pending m.keys m.endpoints now c in
      let one = poll_pending_keeps m.keys m.endpoints now c in
      pass_case (λ (s : PassesOutcome K S E). Kept c s.cache) p.answer _ _ _
      (λ _ _. one)
      (λ k _. one)
      (λ x _. keeps_trans m.keys m.endpoints c p.after _ one (settle_keeps fuel p.after))

  pub try_keeps : (more : Cache K S → R → SearchOutcome K S E R) → ((c : Cache K S) (r : R) → Kept c (more c r).cache) → (i : ℕ) (c : Cache K S) (r : R) → Kept c (check_then m now more i c r).cache
  try_keeps more ih i c r =
      let k = check m.keys m.endpoints now c i in
      let one = check_keeps m.keys m.endpoints now c i in
      let all = keeps_trans m.keys m.endpoints c k.after (more k.after r).cache one (ih k.after r) in
      check_case (λ (s : SearchOutcome K S E R). Kept c s.cache) k.answer _ _ _ (λ _. one) (λ _. all) (λ x _. all)

  pub seek_keeps : (fuel : ℕ) (c : Cache K S) (r : R) → Kept c (search_from m now fuel c r).cache
  seek_keeps zero c r = keeps_refl m.keys m.endpoints c
  seek_keeps (suc fuel) c r =
      let d = draw m.endpoints m.weights now m.words c r in
      keeps_trans m.keys m.endpoints c d.cache _
      (draw_keeps m.keys m.endpoints m.weights now m.words c r)
      (try_keeps (search_from m now fuel) (seek_keeps fuel) d.made.place d.cache d.words)

  pub select_keeps : (selected : Option ℕ) (c : Cache K S) (r : R) → Kept c (search_selected m now selected c r).cache
  select_keeps selected c r =
      some_case (λ (s : SearchOutcome K S E R). Kept c s.cache) selected _ _
      (λ _. seek_keeps (length c.ready) c r)
      (λ i _. try_keeps (search_all m now) (λ c' r'. seek_keeps (length c'.ready) c' r') i c r)

-- The words that a run takes are those of its draws.
use Rattle.lists.specs.Outcome.{Outcome}
use Rattle.lists.proofs.Cases.{cond_case, some_case, result_case}
use Rattle.rng.specs.Words.{Words}
use Rattle.cache_model.specs.Cache.{Cache, check}
use Rattle.cache_model.proofs.Cases.{check_case}
use Rattle.balance_model.specs.declared.answer.CallError.{CallError}
use Rattle.balance_model.specs.declared.pick.Pick.{Pick}
use Rattle.balance_model.specs.Meanings.{Meanings}
use Rattle.docket.specs.Docket.{refusal_of}
use Rattle.balance_model.specs.Draw.{Draw, DrawOutcome, draw}
use Rattle.balance_model.specs.Balance.{Balancer, State, read_feed, settle, SearchOutcome, checks, draws_in, check_then, search_from, search_all, search_selected, PollOutcome, poll, SentRequest, call}
use Rattle.balance_model.specs.History.{Run, apply, apply_all, draws_of}
use Rattle.balance_model.specs.Promise.{words_in, GivesWords}
use Rattle.balance_model.proofs.Logs.{draws_after_asks, draws_after_checks, draws_of_asks, draws_of_checks}
use Rattle.std.proofs.Common.{◌≡◌, ℕ, zero, suc, not, ltb, List, [], ◌∷◌, ◌++◌, length, map, Option, Result, sym, refl, ap, ◌∙◌, subst, slice_get}
use mathlib.Core.List.{append_assoc}
use Rattle.balance_model.specs.declared.pick.Pick.TheVariants as pick
use Rattle.cache_model.specs.Cache as cache

module _ {R : Type 0} (words : Words R) where
  took_append : (vs ws : List ℕ) (r mid end : R) → GivesWords words r vs mid → GivesWords words mid ws end → GivesWords words r (vs ++ ws) end
  took_append [] ws r mid end a b = subst (λ (x : R). GivesWords words x ws end) a b
  took_append (v ∷ vs) ws r mid end a b = (a.0, took_append vs ws _ mid end a.1 b)

words_append : {K S : Type 0} (ds es : List (Draw K S)) → words_in (ds ++ es) ≡ words_in ds ++ words_in es
words_append [] es = refl
words_append (d ∷ ds) es = ap (λ (ws : List ℕ). d.words ++ ws) (words_append ds es) ∙ sym (append_assoc d.words (words_in ds) (words_in es))

module _ {K S Q A E W D F R : Type 0} (m : Meanings K S Q A E W D F R) where
  draw_took : (now : ℕ) (c : Cache K S) (r : R) → let d = draw m.endpoints m.weights now m.words c r in GivesWords m.words r d.made.words d.words
  draw_took now c r =
      cond_case (λ (d : DrawOutcome K S R). GivesWords m.words r d.made.words d.words) (ltb (length c.ready) 2) _ _
      (λ _. refl)
      (λ _. (refl, (refl, refl)))

  -- these draws took the words from r up to the end
  abbrev pub DrawsTook : R → List (Draw K S) → R → Type 0
  DrawsTook r ds end = GivesWords m.words r (words_in ds) end

  abbrev SoughtTook : R → SearchOutcome K S E R → Type 0
  SoughtTook r s = DrawsTook r (draws_in s.steps) s.words

  try_took : (now : ℕ) (more : Cache K S → R → SearchOutcome K S E R) → ((c : Cache K S) (r : R) → SoughtTook r (more c r)) → (i : ℕ) (c : Cache K S) (r : R) → SoughtTook r (check_then m now more i c r)
  try_took now more ih i c r =
      let k = check m.keys m.endpoints now c i in
      let later : DrawsTook r (draws_in (map checks k.asked ++ (more k.after r).steps)) (more k.after r).words =
      subst (λ (ds : List (Draw K S)). DrawsTook r ds (more k.after r).words) (sym (draws_after_checks k.asked (more k.after r).steps)) (ih k.after r) in
      check_case (SoughtTook r) k.answer _ _ _
      (λ _. subst (λ (ds : List (Draw K S)). DrawsTook r ds r) (sym (draws_of_checks K S k.asked)) refl)
      (λ _. later)
      (λ x _. later)

  seek_took : (now fuel : ℕ) (c : Cache K S) (r : R) → SoughtTook r (search_from m now fuel c r)
  seek_took now zero c r = refl
  seek_took now (suc fuel) c r =
      let d = draw m.endpoints m.weights now m.words c r in
      took_append m.words d.made.words _ r d.words _ (draw_took now c r) (try_took now (search_from m now fuel) (seek_took now fuel) d.made.place d.cache d.words)

  select_took : (now : ℕ) (selected : Option ℕ) (c : Cache K S) (r : R) → SoughtTook r (search_selected m now selected c r)
  select_took now selected c r =
      some_case (SoughtTook r) selected _ _
      (λ _. seek_took now (length c.ready) c r)
      (λ i _. try_took now (search_all m now) (λ c' r'. seek_took now (length c'.ready) c' r') i c r)

  pub poll_took : (now : ℕ) (b : Balancer D R) (c : Cache K S) → DrawsTook b.words (draws_in (poll m now b c).log.steps) (poll m now b c).balancer.words
  poll_took now b c =
      let fed = read_feed m now b.budget b.feed b.selected c in
      let settled = settle m.keys m.endpoints now (suc (length fed.cache.pending)) fed.cache in
      let sought = search_selected m now fed.selected settled.cache b.words in
      let Goal : PollOutcome K S E D F R → Type 0 = λ p. DrawsTook b.words (draws_in p.log.steps) p.balancer.words in
      let one = select_took now fed.selected settled.cache b.words in
      some_case Goal fed.fault _ _
      (λ _. some_case Goal settled.stuck _ _
      (λ _. subst (λ (ds : List (Draw K S)). DrawsTook b.words ds sought.words) (sym (draws_after_asks settled.asked sought.steps)) one)
      (λ k _. subst (λ (ds : List (Draw K S)). DrawsTook b.words ds b.words) (sym (draws_of_asks K S settled.asked)) refl))
      (λ x _. refl)

  call_words : (now : ℕ) (st : State K S D R) (q : Q) → (call m now st q).after.balancer.words ≡ st.balancer.words
  call_words now st q =
      let Goal : Outcome (Result (SentRequest A) CallError) (State K S D R) → Type 0 = λ l. l.after.balancer.words ≡ st.balancer.words in
      cond_case Goal (not st.balancer.fresh) _ _
      (λ _. refl)
      (λ _. some_case Goal (refusal_of st.docket) _ _
      (λ _. some_case Goal st.balancer.selected _ _
      (λ _. refl)
      (λ i _. some_case Goal (slice_get st.cache.ready i) _ _
      (λ _. refl)
      (λ e _. result_case Goal (cache.call m.keys m.endpoints now st.cache i q).answer _ _ (λ t _. refl) (λ r _. refl))))
      (λ r _. refl))

  abbrev RunTook : R → Run K S A E D F R → Type 0
  RunTook start run = DrawsTook start (draws_of run.history) run.state.balancer.words

  one_took : (start : R) (run : Run K S A E D F R) (p : Pick Q) → RunTook start run → RunTook start (apply m run p)
  one_took start run (pick.Poll now) t =
      let p = poll m now run.state.balancer run.state.cache in
      subst (λ (ws : List ℕ). GivesWords m.words start ws p.balancer.words) (sym (words_append (draws_of run.history) (draws_in p.log.steps)))
      (took_append m.words (words_in (draws_of run.history)) _ start run.state.balancer.words p.balancer.words t (poll_took now run.state.balancer run.state.cache))
  one_took start run (pick.Call q now) t = subst (DrawsTook start (draws_of run.history)) (sym (call_words now run.state q)) t
  one_took start run (pick.Complete ticket now) t = t

  pub all_took : (start : R) (run : Run K S A E D F R) (ps : List (Pick Q)) → RunTook start run → RunTook start (apply_all m run ps)
  all_took start run [] t = t
  all_took start run (p ∷ ps) t = all_took start (apply m run p) ps (one_took start run p t)

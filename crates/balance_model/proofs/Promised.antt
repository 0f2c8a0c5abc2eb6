-- The promise holds of every run.
use Rattle.std.specs.List.{AllByRecursion}
use Rattle.lists.proofs.Totals.{total}
use Rattle.lists.proofs.Places.{each_append}
use Rattle.cache_model.specs.declared.entry.Entry.{Entry}
use Rattle.cache_model.specs.Cache.{Cache}
use Rattle.cache_model.proofs.Steps.{sum_held, of_worker}
use Rattle.cache_model.proofs.Serials.{is_pair}
use Rattle.cache_model.proofs.Laws.{serials_once, keys_once}
use Rattle.balance_model.specs.declared.answer.CallError.{CallError}
use Rattle.balance_model.specs.declared.pick.Pick.{Pick}
use Rattle.balance_model.specs.Meanings.{Meanings}
use Rattle.balance_model.specs.Balance.{Making, SentRequest}
use Rattle.balance_model.specs.History.{History, polled, called, completed, Run, apply, apply_all, new_run, draws_of}
use Rattle.balance_model.specs.Promise.{EachCall, ReachedNamed, SixIffNobodyNamed, NotThreeOrFour, CountRight, words_in, GivesWords, Promise}
use Rattle.balance_model.proofs.Holds.{Holds, CallRight}
use Rattle.balance_model.proofs.Polls.{poll_holds}
use Rattle.balance_model.proofs.Calls.{call_holds}
use Rattle.balance_model.proofs.Completions.{complete_holds}
use Rattle.balance_model.proofs.Taken.{all_took}
use Rattle.std.proofs.Common.{◌≡◌, ℕ, ◌≤◌, List, [], ◌∷◌, Result, refl, inl, arith}
use Rattle.std.proofs.lemmas.Bool.{eq-eqb}
use Rattle.balance_model.specs.declared.pick.Pick.TheVariants as pick

module _ {K S Q A E W D F R : Type 0} (m : Meanings K S Q A E W D F R) where
  abbrev RunHolds : Run K S A E D F R → Type 0
  RunHolds run = Holds m run.state.balancer run.state.cache run.state.docket run.history

  at_first : (made : Making D R) → RunHolds (new_run made)
  at_first made = record {
    single = record { ready = λ k. omega arith; pending = λ k. omega arith };
    counts = λ s n one. absurd (omega arith);
    serials = λ s. omega arith;
    below = λ s above. refl;
    unsent = λ s above. refl;
    records = tt;
    tickets = λ t. omega arith;
    unissued = λ t above. record { out = refl; nowhere = λ x. refl };
    fresh = λ e. cc;
    spent = λ _. inl refl;
    calls = tt;
    draws = tt;
    known = λ i e. cc;
    searched = tt;
  }

  one_pick : (run : Run K S A E D F R) (p : Pick Q) → RunHolds run → RunHolds (apply m run p)
  one_pick run (pick.Poll now) o = poll_holds m now run.state.balancer run.state.cache run.state.docket run.history o
  one_pick run (pick.Call q now) o = call_holds m now run.state run.history q o
  one_pick run (pick.Complete ticket now) o = complete_holds m now ticket run.state.balancer run.state.cache run.state.docket run.history o

  all_picks : (run : Run K S A E D F R) (ps : List (Pick Q)) → RunHolds run → RunHolds (apply_all m run ps)
  all_picks run [] o = o
  all_picks run (p ∷ ps) o = all_picks (apply m run p) ps (one_pick run p o)

  -- each held worker
  each_count : (h : History K S A E F) (c : Cache K S) → ((s n : ℕ) → 1 ≤ sum_held m.keys m.endpoints (is_pair s n) c → CountRight m.endpoints.count h s n) →
      (xs : List (Entry K S)) → ((s n : ℕ) → total (of_worker m.keys m.endpoints (is_pair s n)) xs ≤ sum_held m.keys m.endpoints (is_pair s n) c) → AllByRecursion (λ e. CountRight m.endpoints.count h e.serial (m.endpoints.count e.endpoint)) xs
  each_count h c counts [] le = tt
  each_count h c counts (e ∷ es) le =
      let s : ℕ = e.serial in
      let n : ℕ = m.endpoints.count e.endpoint in
      let own : is_pair s n s n ≡ 1 = rw (eq-eqb s s refl, eq-eqb n n refl) refl in
      let l = le s n in
      (counts s n (omega arith), each_count h c counts es (λ x k. let l = le x k in omega arith))

  each_call : (P Q' : History K S A E F → Result (SentRequest A) CallError → Type 0) → ((h : History K S A E F) (a : Result (SentRequest A) CallError) → P h a → Q' h a) → (h : History K S A E F) → EachCall P h → EachCall Q' h
  each_call P Q' f [] e = tt
  each_call P Q' f (polled now log answer ∷ h) e = each_call P Q' f h e
  each_call P Q' f (called now answer ∷ h) e = (f h answer e.0, each_call P Q' f h e.1)
  each_call P Q' f (completed now ticket answer ∷ h) e = each_call P Q' f h e

  kept : (made : Making D R) (run : Run K S A E D F R) → RunHolds run → GivesWords m.words made.words (words_in (draws_of run.history)) run.state.balancer.words → Promise m made run
  kept made run o t = record {
    sent = each_call CallRight ReachedNamed (λ h a r. r.reached) run.history o.calls;
    six = each_call CallRight SixIffNobodyNamed (λ h a r. r.six) run.history o.calls;
    never = each_call CallRight NotThreeOrFour (λ h a r. r.never) run.history o.calls;
    keys = keys_once m.keys m.endpoints run.state.cache o.single;
    serials = serials_once m.keys m.endpoints run.state.cache o.serials o.below;
    counts = each_append (λ e. CountRight m.endpoints.count run.history e.serial (m.endpoints.count e.endpoint)) run.state.cache.ready run.state.cache.pending
        (each_count run.history run.state.cache o.counts run.state.cache.ready (λ s n. omega arith))
        (each_count run.history run.state.cache o.counts run.state.cache.pending (λ s n. omega arith));
    words = t;
    shares = o.draws;
    searched = o.searched;
  }

  -- of every run
  pub promised : (made : Making D R) (picks : List (Pick Q)) → Promise m made (apply_all m (new_run made) picks)
  promised made picks = kept made _ (all_picks (new_run made) picks (at_first made)) (all_took m made.words (new_run made) picks refl)

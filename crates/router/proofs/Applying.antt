-- The picks made so far, with their answers in lent memory.
use Rattle.std.proofs.Common.{◌≡◌, ℕ, ◌+◌, min, ◌<◌, List, [], ◌∷◌, ◌++◌, length, get_or, set, replicate, take, drop, IfOk, Result, sym, refl, ap, ◌∙◌, subst, arith}
use Rattle.std.proofs.lemmas.List.{take_more, take_more_set, take_all, drop-set-lt, drop-drop, length-replicate, with_items_is}
use Rattle.std.specs.Global.{Vec}
use Rattle.std.specs.Vec.{with_items}
use Rattle.std.proofs.lemmas.Result.{IfOk-weaker}
use Rattle.balance_model.specs.declared.pick.Pick.{Pick}
use Rattle.balance_model.specs.declared.answer.Answer.{Answer}
use Rattle.balance_model.specs.Meanings.{Meanings}
use Rattle.balance_model.specs.Balance.{State, Making, newly_made}
use Rattle.balance_model.specs.History.{Run, event, after, apply, apply_all, answer_of, answers_of}
use Rattle.balance_model.specs.Promise.{Promise}
use Rattle.balance_model.proofs.Promised.{promised}
use Rattle.router.specs.declared.owned_run.OwnedRun.{OwnedRun}
use Rattle.router.specs.Runs.{from_state, whole_run, AlwaysPromised, OwnedAs}

module _ {K S Q A E W D F R : Type 0} (m : Meanings K S Q A E W D F R) (start : Run K S A E D F R) where
  append : (run : Run K S A E D F R) (ps : List (Pick Q)) (p : Pick Q) → apply_all m run (ps ++ (p ∷ [])) ≡ apply m (apply_all m run ps) p
  append run [] p = refl
  append run (x ∷ ps) p = append (apply m run x) ps p

  -- the first picks are made: their answers, the places after those, and the state
  pub record Made (ps : List (Pick Q)) (before given : List (Answer K A F)) (st : State K S D R) (i : ℕ) : Type 0 where
    pub answers : take i given ≡ answers_of (apply_all m start (take i ps)).history
    pub rest : drop i given ≡ drop i before
    pub state : st ≡ (apply_all m start (take i ps)).state

  rest_of : (given before : List (Answer K A F)) (i : ℕ) (answer : Answer K A F) → drop i given ≡ drop i before → drop (i + 1) (set given i answer) ≡ drop (i + 1) before
  rest_of given before i answer e = drop-set-lt (i + 1) given i answer (omega arith) ∙ sym (drop-drop 1 i given) ∙ ap (drop 1) e ∙ drop-drop 1 i before

  -- and the next one
  pub one_more : (ps : List (Pick Q)) (before given : List (Answer K A F)) (st st' : State K S D R) (i : ℕ) (p : Pick Q) (answer : Answer K A F) →
      i < length ps → i < length given → p ≡ get_or ps i p → Made ps before given st i → answer ≡ answer_of (event m st p) → st' ≡ after m st p →
      Made ps before (set given i answer) st' (i + 1)
  one_more ps before given st st' i p answer h k is so_far e s =
      let run : Run K S A E D F R = apply_all m start (take i ps) in
      let more : apply_all m start (take (i + 1) ps) ≡ apply m run p =
      ap (apply_all m start) (take_more ps i p h) ∙ append start (take i ps) (get_or ps i p) ∙ ap (apply m run) (sym is) in
      let here : answer ≡ answer_of (event m run.state p) = e ∙ ap (λ (x : State K S D R). answer_of (event m x p)) so_far.state in
      record {
        answers = take_more_set given i answer k ∙ ap (λ (xs : List (Answer K A F)). xs ++ (answer ∷ [])) so_far.answers ∙ ap (λ (x : Answer K A F). answers_of run.history ++ (x ∷ [])) here ∙ sym (ap (λ (r : Run K S A E D F R). answers_of r.history) more);
        rest = rest_of given before i answer so_far.rest;
        state = s ∙ ap (λ (x : State K S D R). after m x p) so_far.state ∙ sym (ap (λ (r : Run K S A E D F R). r.state) more);
      }

-- from a new router on, whatever is picked, the promise holds
pub always_promised : {K S Q A E W D F R : Type 0} (m : Meanings K S Q A E W D F R) (made : Making D R) (st : State K S D R) → st ≡ newly_made made → AlwaysPromised m made st
always_promised m made st new = record { whatever = λ picks. subst (λ s. Promise m made (apply_all m (from_state s) picks)) (sym new) (promised m made picks) }

-- where there are places for all answers, what is owned is the run of all picks
pub owned_all : {K S Q A E W D F R X : Type 0} (m : Meanings K S Q A E W D F R) (made : Making D R) (picks : List (Pick Q)) (memory : Vec (Answer K A F)) (filler : Answer K A F) (before given : List (Answer K A F)) (count : ℕ) (st : State K S D R) (r : Result (OwnedRun K S A D F R) X) →
    IfOk r (λ x. OwnedAs x (with_items memory given).items st) → memory.items ≡ replicate (length picks) filler → before ≡ memory.items → length given ≡ length before → count ≡ min (length picks) (length before) →
    take count given ≡ answers_of (whole_run m made (take count picks)).history → st ≡ (whole_run m made (take count picks)).state →
    IfOk r (λ x. OwnedAs x (answers_of (whole_run m made picks).history) (whole_run m made picks).state)
owned_all {K} {S} {A = A} {E = E} {D = D} {F = F} {R = R} m made picks memory filler before given count st r owned filled lent kept all answers state =
    let as_long : length before ≡ length picks = ap length lent ∙ ap length filled ∙ length-replicate (length picks) filler in
    let back : (with_items memory given).items ≡ given = with_items_is memory given (kept ∙ ap length lent ∙ sym memory.ok.0) in
    let same = ap (whole_run m made) (take_all count picks (omega arith)) in
    let answered : (with_items memory given).items ≡ answers_of (whole_run m made picks).history = back ∙ sym (take_all count given (omega arith)) ∙ answers ∙ ap (λ (x : Run K S A E D F R). answers_of x.history) same in
    let left : st ≡ (whole_run m made picks).state = state ∙ ap (λ (x : Run K S A E D F R). x.state) same in
    IfOk-weaker r _ _ (λ x o. subst (OwnedAs x (answers_of (whole_run m made picks).history)) left (subst (λ (xs : List (Answer K A F)). OwnedAs x xs st) answered o)) owned

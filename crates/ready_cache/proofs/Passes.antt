-- The steps of a pass that moves what stays to the front of the same list.
use Rattle.std.specs.Net.Reader.{map_or}
use Rattle.std.proofs.Common.{◌≡◌, ℕ, ◌+◌, ◌-◌, ◌<◌, ◌≤◌, Bool, true, false, cond, List, [], ◌∷◌, ◌++◌, length, get_or, take, drop, set, Some, None, Ok, Err, Option, Result, sym, refl, ap, ap₂, ◌∙◌, subst, arith, slice_get}
use Rattle.std.proofs.lemmas.List.{get_or_default, length-set, drop_more, drop-set-lt, take-set-le, take_more_set, get_or-set_same}
use Rattle.std.proofs.lemmas.Bool.{cond-true, cond-false}
use Rattle.std.specs.Result.{is_ok}
use Rattle.std.proofs.lemmas.Option.{slice_get-get_or}
use Rattle.lists.specs.Outcome.{outcome}
use Rattle.lists.proofs.Places.{at_some}
use Rattle.service.specs.Meaning.{Sameness, Endpoints}
use Rattle.service.specs.declared.readiness.Readiness.{Readiness}
use Rattle.service.specs.declared.readiness.Readiness.TheVariants.{Ready, Pending, Failed}
use Rattle.cache_model.specs.declared.entry.Entry.{Entry}
use Rattle.cache_model.specs.declared.error.Failed.{Failed as Failure}
use Rattle.cache_model.specs.declared.error.PendingError.{PendingError}
use Rattle.cache_model.specs.declared.error.PendingError.TheVariants as error
use Rattle.cache_model.specs.Answers.{as_check, by_readiness}
use Rattle.cache_model.specs.Entries.{with_endpoint, promote}
use Rattle.cache_model.specs.Lists.{ask_in}
use Rattle.cache_model.specs.Cache.{Question, Pass, with_question, pass, has_place}
use Rattle.ready_cache.proofs.Steps.{pick_ready, pick_pending}
use Rattle.ready_cache.specs.declared.places.Places.{Places}
use Rattle.ready_cache.specs.Passing.{after_entry, after_kept_entry, Turn, turn_of, turn, Promotion, NoRoom, Admission}

-- what stands from a place on
drop_here : {A : Type 0} (xs : List A) (i : ℕ) (x : A) → i < length xs → x ≡ get_or xs i x → drop i xs ≡ x ∷ drop (i + 1) xs
drop_here xs i x l e = drop_more xs i x l ∙ ap (λ y. y ∷ drop (i + 1) xs) (sym e)

-- ---- one turn

module _ {K S Q A E W : Type 0} (ends : Endpoints S Q A E W) (now : ℕ) (xs : List (Entry K S)) (p : Places) (d : Entry K S) (long : p.read < length xs) where
  -- the entry that was read
  abbrev e : Entry K S
  e = get_or xs p.read d

  there : e ≡ get_or xs p.read e
  there = get_or_default xs p.read d e long

  here : slice_get xs p.read ≡ Some e
  here = slice_get-get_or xs p.read d long

  turn_is : turn ends now xs p ≡ turn_of ends now xs p e
  turn_is = ap (λ o. map_or o (record { answer = None; memory = xs; places = p }) (turn_of ends now xs p)) here

  pub turned_over : e.cancelled ≡ true → turn ends now xs p ≡ record { answer = None; memory = xs; places = after_entry p }
  turned_over h = turn_is ∙ cond-true e.cancelled _ _ h

  module _ (live : e.cancelled ≡ false) where
    abbrev answer : Readiness E
    answer = (ends.poll_ready e.endpoint now).answer

    abbrev asked : Entry K S
    asked = with_endpoint e (ends.poll_ready e.endpoint now).after

    -- in memory ys after the question
    module _ {ys : List (Entry K S)} (left : ys ≡ (ask_in ends now xs p.read).after) where
      abbrev said : Result Bool (Failure K E)
      said = (ask_in ends now xs p.read).answer

      ask_is : ask_in ends now xs p.read ≡ outcome (as_check e answer) (set xs p.read asked)
      ask_is = rw here refl

      heard : said ≡ as_check e answer
      heard = ap (λ o. o.answer) ask_is

      left_as : ys ≡ set xs p.read asked
      left_as = left ∙ ap (λ o. o.after) ask_is

      read_as : {f : Entry K S} → f ≡ get_or ys p.read f → f ≡ asked
      read_as {f} r = r ∙ ap (λ z. get_or z p.read f) left_as ∙ get_or-set_same xs p.read asked f long

      pub turned_ready : {f : Entry K S} → f ≡ get_or ys p.read f → Ok true ≡ said → turn ends now xs p ≡ record { answer = Some (Ok f); memory = ys; places = p }
      turned_ready {f} r h =
          turn_is ∙ cond-false e.cancelled _ _ live ∙ pick_ready e answer _ _ _ (h ∙ heard)
          ∙ ap₂ (λ x z. record { answer = Some (Ok x); memory = z; places = p }) (sym (read_as r)) (sym left_as)

      -- what was read is moved down
      pub turned_pending : {zs : List (Entry K S)} → ((x : Entry K S) → x ≡ get_or ys p.read x → zs ≡ set ys p.write x) → Ok false ≡ said → turn ends now xs p ≡ record { answer = None; memory = zs; places = after_kept_entry p }
      turned_pending {zs} moved h =
          let read : asked ≡ get_or ys p.read asked = sym (ap (λ z. get_or z p.read asked) left_as ∙ get_or-set_same xs p.read asked asked long) in
          turn_is ∙ cond-false e.cancelled _ _ live ∙ pick_pending e answer _ _ _ (h ∙ heard)
          ∙ ap (λ z. record { answer = None; memory = z; places = after_kept_entry p }) (ap (λ z. set z p.write asked) (sym left_as) ∙ sym (moved asked read))

      pub turned_failed : {x : Failure K E} → Err x ≡ said → turn ends now xs p ≡ record { answer = Some (Err x); memory = ys; places = after_entry p }
      turned_failed {x} h =
          turn_is ∙ cond-false e.cancelled _ _ live ∙ failed_as answer (h ∙ heard)
          ∙ ap (λ z. record { answer = Some (Err x); memory = z; places = after_entry p }) (sym left_as)
        where
          failed_as : (a : Readiness E) → Err x ≡ as_check e a →
              ◌≡◌ {A = Turn K S E}
              (by_readiness a
              (record { answer = Some (Ok asked); memory = set xs p.read asked; places = p })
              (record { answer = None; memory = set (set xs p.read asked) p.write asked; places = after_kept_entry p })
              (λ y. record { answer = Some (Err (record { key = e.key; error = y })); memory = set xs p.read asked; places = after_entry p }))
              (record { answer = Some (Err x); memory = set xs p.read asked; places = after_entry p })
          failed_as Ready h = cc
          failed_as Pending h = cc
          failed_as (Failed y) h = let s : ◌≡◌ {A = Failure K E} (record { key = e.key; error = y }) x = cc in ap (λ z. record { answer = Some (Err z); memory = set xs p.read asked; places = after_entry p }) s

-- a turn, with the entry that was read
pub record TurnOutcome {K S Q A E W : Type 0} (ends : Endpoints S Q A E W) (now : ℕ) (xs : List (Entry K S)) (p : Places) (r : Option (Result (Entry K S) (Failure K E))) (ys : List (Entry K S)) (q : Places) : Type 0 where
  pub who : Entry K S
  pub there : who ≡ get_or xs p.read who
  pub told : r ≡ (turn_of ends now xs p who).answer
  pub memory : ys ≡ (turn_of ends now xs p who).memory
  pub places : q ≡ (turn_of ends now xs p who).places

pub turn_told : {K S Q A E W : Type 0} (ends : Endpoints S Q A E W) (now : ℕ) {xs ys : List (Entry K S)} {p q : Places} {r : Option (Result (Entry K S) (Failure K E))} → p.read < length xs → r ≡ (turn ends now xs p).answer → ys ≡ (turn ends now xs p).memory → q ≡ (turn ends now xs p).places → TurnOutcome ends now xs p r ys q
turn_told {K} {S} {Q} {A} {E} {W} ends now {xs} {ys} {p} {q} {r} long answer memory places =
    let e = at_some xs p.read long in
    let is : turn ends now xs p ≡ turn_of ends now xs p e.0 = ap (λ o. map_or o (record { answer = None; memory = xs; places = p }) (turn_of ends now xs p)) e.1 in
    let same : ◌≡◌ {A = Option (Entry K S)} (Some e.0) (Some (get_or xs p.read e.0)) = sym e.1 ∙ slice_get-get_or xs p.read e.0 long in
    record {
      who = e.0;
      there = some_same same;
      told = answer ∙ ap (λ (t : Turn K S E). t.answer) is;
      memory = memory ∙ ap (λ (t : Turn K S E). t.memory) is;
      places = places ∙ ap (λ (t : Turn K S E). t.places) is;
    }
  where
    some_same : {x y : Entry K S} → ◌≡◌ {A = Option (Entry K S)} (Some x) (Some y) → x ≡ y
    some_same {x} {y} h = cc

-- how a pass ends, apart from its questions
pub record PassEnd (K S E : Type 0) : Type 0 where
  pub ready : List (Entry K S)
  pub kept : List (Entry K S)
  pub rest : List (Entry K S)
  pub fault : Option (PendingError K E)

abbrev pub ended : {K S E : Type 0} → Pass K S E → PassEnd K S E
ended p = record { ready = p.ready; kept = p.kept; rest = p.rest; fault = p.fault }

abbrev pub fault_of : {E : Type 0} → Result (Unit {0}) E → Option E
fault_of (Ok u) = None
fault_of (Err x) = Some x

pub on_ok : {E : Type 0} {b : Bool} (r : Result (Unit {0}) E) → b ≡ is_ok r → b ≡ true → r ≡ Ok tt
on_ok (Ok u) e h = refl
on_ok (Err x) e h = cc

pub fault_none : {E : Type 0} {b : Bool} (r : Result (Unit {0}) E) → b ≡ is_ok r → b ≡ false → fault_of r ≡ None → ⊥
fault_none (Ok u) e h n = cc
fault_none (Err x) e h n = cc

-- where a turn leaves the places
abbrev pub PlacesAfter : {K S E : Type 0} → Places → Places → Option (Result (Entry K S) (Failure K E)) → Type 0
PlacesAfter p q None = (q.ready ≡ p.ready) × (q.read ≡ p.read + 1) × (q.write ≤ p.write + 1)
PlacesAfter p q (Some (Ok e)) = q ≡ p
PlacesAfter p q (Some (Err f)) = q ≡ after_entry p

-- the turn of e, written as f, where b says whether it is cancelled and a is its answer
abbrev turn_by : {K S E : Type 0} → List (Entry K S) → Places → Entry K S → Entry K S → Bool → Readiness E → Turn K S E
turn_by xs p e f b a =
    cond b (record { answer = None; memory = xs; places = after_entry p })
    (by_readiness a
    (record { answer = Some (Ok f); memory = set xs p.read f; places = p })
    (record { answer = None; memory = set (set xs p.read f) p.write f; places = after_kept_entry p })
    (λ x. record { answer = Some (Err (record { key = e.key; error = x })); memory = set xs p.read f; places = after_entry p }))

module _ {K S Q A E W : Type 0} (ends : Endpoints S Q A E W) (now : ℕ) where
  placed_by : (xs : List (Entry K S)) (p : Places) (e f : Entry K S) (b : Bool) (a : Readiness E) → let t : Turn K S E = turn_by xs p e f b a in PlacesAfter p t.places t.answer
  placed_by xs p e f true a = (refl, refl, omega arith)
  placed_by xs p e f false Ready = refl
  placed_by xs p e f false Pending = (refl, refl, omega arith)
  placed_by xs p e f false (Failed x) = refl

  pub placed : (xs ys : List (Entry K S)) (p q : Places) (r : Option (Result (Entry K S) (Failure K E))) → TurnOutcome ends now xs p r ys q → PlacesAfter p q r
  placed xs ys p q r d = let e = d.who in rw (d.told, d.places) (placed_by xs p e (with_endpoint e (ends.poll_ready e.endpoint now).after) e.cancelled (ends.poll_ready e.endpoint now).answer)

module _ {K S Q A E W : Type 0} (keys : Sameness K) (ends : Endpoints S Q A E W) (now : ℕ) where
  -- what is left of a pass over ys that has come to these places, where xs is the memory of the ready ones
  abbrev pub left_of : List (Entry K S) → List (Entry K S) → Places → PassEnd K S E
  left_of xs ys p = ended (pass keys ends now (length xs) (take p.ready xs) (take p.write ys) (drop p.read ys))

  -- a pass that a fault ended there
  abbrev stopped : List (Entry K S) → List (Entry K S) → Places → PendingError K E → PassEnd K S E
  stopped xs ys q x = record { ready = take q.ready xs; kept = take q.write ys; rest = drop q.read ys; fault = Some x }

  -- what comes of a pass that is there with this result
  abbrev pub comes_to : List (Entry K S) → List (Entry K S) → Places → Result (Unit {0}) (PendingError K E) → PassEnd K S E
  comes_to xs ys p (Ok u) = left_of xs ys p
  comes_to xs ys p (Err x) = stopped xs ys p x

  -- what is left of a pass after a turn
  abbrev pub goes_on : List (Entry K S) → List (Entry K S) → Places → Option (Result (Entry K S) (Failure K E)) → PassEnd K S E
  goes_on xs ys q None = left_of xs ys q
  goes_on xs ys q (Some (Ok e)) =
      cond (has_place keys (length xs) (take q.ready xs) e.key)
      (ended (pass keys ends now (length xs) (promote keys e (take q.ready xs)) (take q.write ys) (drop (q.read + 1) ys)))
      (stopped xs ys q (error.NoPlace (record { key = e.key })))
  goes_on xs ys q (Some (Err f)) = stopped xs ys q (error.Failed f)

  module _ (xs ys : List (Entry K S)) (p : Places) (behind : p.write ≤ p.read) (more : p.read < length ys) (e : Entry K S) where
    abbrev rest : List (Entry K S)
    rest = drop (p.read + 1) ys

    front_kept : (f : Entry K S) → take p.write ys ≡ take p.write (set ys p.read f)
    front_kept f = sym (take-set-le p.write ys p.read f behind)

    rest_kept : (f : Entry K S) → rest ≡ drop (p.read + 1) (set ys p.read f)
    rest_kept f = sym (drop-set-lt (p.read + 1) ys p.read f (omega arith))

    asked_here : (f : Entry K S) → f ∷ rest ≡ drop p.read (set ys p.read f)
    asked_here f =
        let l : p.read < length (set ys p.read f) = simp length-set more in
        ap (λ z. f ∷ z) (rest_kept f) ∙ sym (drop_here (set ys p.read f) p.read f l (sym (get_or-set_same ys p.read f f more)))

    by_place : (f : Entry K S) (b : Bool) →
        ended (cond b (pass keys ends now (length xs) (promote keys f (take p.ready xs)) (take p.write ys) rest) (record { ready = take p.ready xs; kept = take p.write ys; rest = f ∷ rest; fault = Some (error.NoPlace (record { key = e.key })); asked = [] }))
        ≡ cond b (ended (pass keys ends now (length xs) (promote keys f (take p.ready xs)) (take p.write (set ys p.read f)) (drop (p.read + 1) (set ys p.read f)))) (stopped xs (set ys p.read f) p (error.NoPlace (record { key = e.key })))
    by_place f true =
        ap (λ z. ended (pass keys ends now (length xs) (promote keys f (take p.ready xs)) z rest)) (front_kept f)
        ∙ ap (λ z. ended (pass keys ends now (length xs) (promote keys f (take p.ready xs)) (take p.write (set ys p.read f)) z)) (rest_kept f)
    by_place f false =
        ap (λ z. record { ready = take p.ready xs; kept = z; rest = f ∷ rest; fault = Some (error.NoPlace (record { key = e.key })) }) (front_kept f)
        ∙ ap (λ z. record { ready = take p.ready xs; kept = take p.write (set ys p.read f); rest = z; fault = Some (error.NoPlace (record { key = e.key })) }) (asked_here f)

    by_turn : (f : Entry K S) (question : Question E) (b : Bool) (a : Readiness E) → f.key ≡ e.key →
        ended (cond b (pass keys ends now (length xs) (take p.ready xs) (take p.write ys) rest)
        (with_question question (by_readiness a
        (cond (has_place keys (length xs) (take p.ready xs) e.key)
        (pass keys ends now (length xs) (promote keys f (take p.ready xs)) (take p.write ys) rest)
        (record { ready = take p.ready xs; kept = take p.write ys; rest = f ∷ rest; fault = Some (error.NoPlace (record { key = e.key })); asked = [] }))
        (pass keys ends now (length xs) (take p.ready xs) (take p.write ys ++ (f ∷ [])) rest)
        (λ x. record { ready = take p.ready xs; kept = take p.write ys; rest = rest; fault = Some (error.Failed (record { key = e.key; error = x })); asked = [] }))))
        ≡ (let t : Turn K S E = turn_by ys p e f b a in goes_on xs t.memory t.places t.answer)
    by_turn f question true a k = refl
    by_turn f question false Ready k =
        by_place f (has_place keys (length xs) (take p.ready xs) e.key)
        ∙ ap (λ z. cond (has_place keys (length xs) (take p.ready xs) z) (ended (pass keys ends now (length xs) (promote keys f (take p.ready xs)) (take p.write (set ys p.read f)) (drop (p.read + 1) (set ys p.read f)))) (stopped xs (set ys p.read f) p (error.NoPlace (record { key = z })))) (sym k)
    by_turn f question false Pending k =
        let zs = set ys p.read f in
        let l : p.write < length zs = simp length-set (omega arith) in
        ap (λ z. ended (pass keys ends now (length xs) (take p.ready xs) z rest)) (ap (λ z. z ++ (f ∷ [])) (front_kept f) ∙ sym (take_more_set zs p.write f l))
        ∙ ap (λ z. ended (pass keys ends now (length xs) (take p.ready xs) (take (p.write + 1) (set zs p.write f)) z)) (rest_kept f ∙ sym (drop-set-lt (p.read + 1) zs p.write f (omega arith)))
    by_turn f question false (Failed x) k =
        ap (λ z. record { ready = take p.ready xs; kept = z; rest = rest; fault = Some (error.Failed (record { key = e.key; error = x })) }) (front_kept f)
        ∙ ap (λ z. record { ready = take p.ready xs; kept = take p.write (set ys p.read f); rest = z; fault = Some (error.Failed (record { key = e.key; error = x })) }) (rest_kept f)

  pub turn_left : (xs ys zs : List (Entry K S)) (p q : Places) (r : Option (Result (Entry K S) (Failure K E))) → p.write ≤ p.read → p.read < length ys → TurnOutcome ends now ys p r zs q → left_of xs ys p ≡ goes_on xs zs q r
  turn_left xs ys zs p q r behind more d =
      let e = d.who in
      let left = ends.poll_ready e.endpoint now in
      let f : Entry K S = with_endpoint e left.after in
      ap (λ z. ended (pass keys ends now (length xs) (take p.ready xs) (take p.write ys) z)) (drop_here ys p.read e more d.there)
      ∙ by_turn xs ys p behind more e f (record { serial = e.serial; answer = left.answer }) e.cancelled left.answer refl
      ∙ rw (d.memory, d.places, d.told) refl

  -- ---- the pass

  -- a pass went on from the places p to q, in memory xs and ys that is now xs' and ys'
  pub record PassMemory (xs ys xs' ys' : List (Entry K S)) (p q : Places) : Type 0 where
    pub behind : q.write ≤ q.read
    pub within : q.read ≤ length ys
    pub fits : q.ready ≤ length xs
    pub roomy : q.ready + q.write + (length ys - q.read) ≤ p.ready + p.write + (length ys - p.read)
    pub ready_long : length xs' ≡ length xs
    pub pending_long : length ys' ≡ length ys

  -- it is there with this result, and what comes of it is what would have come of it at p
  pub record PassSoFar (xs ys xs' ys' : List (Entry K S)) (p q : Places) (r : Result (Unit {0}) (PendingError K E)) : Type 0 where
    pub went : PassMemory xs ys xs' ys' p q
    pub same : comes_to xs' ys' q r ≡ left_of xs ys p

  pub came_as : {xs ys xs' ys' : List (Entry K S)} {p q : Places} {r r' : Result (Unit {0}) (PendingError K E)} → r ≡ r' → PassSoFar xs ys xs' ys' p q r → PassSoFar xs ys xs' ys' p q r'
  came_as {xs} {ys} {xs'} {ys'} {p} {q} h d = subst (λ z. PassSoFar xs ys xs' ys' p q z) h d

  -- how many turns are left, and one more for the result
  abbrev pub turns_left : ℕ → Places → Result (Unit {0}) (PendingError K E) → ℕ
  turns_left end p (Ok u) = (end - p.read) + 1
  turns_left end p (Err x) = 0

  -- the places that a turn left, of an entry that is ready
  same_places : {xs ys : List (Entry K S)} {p q : Places} {e : Entry K S} → TurnOutcome ends now xs p (Some (Ok e)) ys q → q ≡ p
  same_places {xs} {ys} {p} {q} {e} d = placed ends now xs ys p q (Some (Ok e)) d

  -- after a turn with nothing to take up, fewer are left
  pub nearer_over : (end : ℕ) (ys zs : List (Entry K S)) (p q : Places) → p.read < end → TurnOutcome ends now ys p None zs q → (end - q.read) + 1 < (end - p.read) + 1
  nearer_over end ys zs p q more d =
      let order = placed ends now ys zs p q None d in
      omega (arith, order.1)

  -- and after one whose answer was taken up
  pub nearer : (end : ℕ) (xs ys zs ws : List (Entry K S)) (p q n : Places) (t : Result (Entry K S) (Failure K E)) (r : Result (Unit {0}) (PendingError K E)) → p.read < end → TurnOutcome ends now ys p (Some t) zs q → Admission keys xs ws q n t r → turns_left end n r < (end - p.read) + 1
  nearer end xs ys zs ws p q n (Ok x) (Ok u) more d t =
      let b : q.read ≡ p.read = ap (λ z. z.read) (same_places d) in
      omega (arith, t.read)
  nearer end xs ys zs ws p q n (Err f) (Ok u) more d t = cc (t.fault)
  nearer end xs ys zs ws p q n t (Err y) more d h = omega arith

  module _ {xs ys xs' ys' : List (Entry K S)} {p₀ p : Places} (now_at : PassMemory xs ys xs' ys' p₀ p) where
    went_on : {ws zs : List (Entry K S)} {n : Places} → length ws ≡ length xs' → length zs ≡ length ys' → n.write ≤ n.read → n.read ≤ length ys → n.ready ≤ length xs → n.ready + n.write + (length ys - n.read) ≤ p.ready + p.write + (length ys - p.read) → PassMemory xs ys ws zs p₀ n
    went_on wide as_long a b c d = record {
      behind = a;
      within = b;
      fits = c;
      roomy = omega (arith, now_at.roomy, d);
      ready_long = wide ∙ now_at.ready_long;
      pending_long = as_long ∙ now_at.pending_long;
    }

    module _ (same : left_of xs' ys' p ≡ left_of xs ys p₀) (more : p.read < length ys) {zs : List (Entry K S)} {q : Places} (as_long : length zs ≡ length ys') where
      goes : (r : Option (Result (Entry K S) (Failure K E))) → TurnOutcome ends now ys' p r zs q → goes_on xs' zs q r ≡ left_of xs ys p₀
      goes r d = sym (turn_left xs' ys' zs p q r now_at.behind (omega (arith, now_at.pending_long)) d) ∙ same

      -- the next one left or stayed
      pub came_over : TurnOutcome ends now ys' p None zs q → PassSoFar xs ys xs' zs p₀ q (Ok tt)
      came_over d =
          let order = placed ends now ys' zs p q None d in
          record {
            went = went_on refl as_long (omega (arith, now_at.behind, order.1, order.2)) (omega (arith, order.1)) (omega (arith, order.0, now_at.fits)) (omega (arith, order.0, order.1, order.2));
            same = goes None d;
          }

      module _ {ws : List (Entry K S)} {n : Places} (wide : length ws ≡ length xs') where
        -- it failed
        came_failed : {f : Failure K E} → TurnOutcome ends now ys' p (Some (Err f)) zs q → ws ≡ xs' → n ≡ q → PassSoFar xs ys ws zs p₀ n (Err (error.Failed f))
        came_failed {f} d w h =
            let past : q ≡ after_entry p = placed ends now ys' zs p q (Some (Err f)) d in
            let a : n.ready ≡ p.ready = ap (λ z. z.ready) (h ∙ past) in
            let b : n.read ≡ p.read + 1 = ap (λ z. z.read) (h ∙ past) in
            let c : n.write ≡ p.write = ap (λ z. z.write) (h ∙ past) in
            record {
              went = went_on wide as_long (omega (arith, now_at.behind)) (omega arith) (omega (arith, now_at.fits)) (omega arith);
              same = ap₂ (λ x z. stopped x zs z (error.Failed f)) w h ∙ goes (Some (Err f)) d;
            }

        -- it joined the ready ones
        came_ready : {e : Entry K S} → TurnOutcome ends now ys' p (Some (Ok e)) zs q → Promotion keys xs' ws e q.ready n.ready → n.read ≡ q.read + 1 → n.write ≡ q.write → PassSoFar xs ys ws zs p₀ n (Ok tt)
        came_ready {e} d t read write =
            let a : q.ready ≡ p.ready = ap (λ z. z.ready) (same_places d) in
            let b : q.read ≡ p.read = ap (λ z. z.read) (same_places d) in
            let c : q.write ≡ p.write = ap (λ z. z.write) (same_places d) in
            let yes_place : has_place keys (length xs') (take q.ready xs') e.key ≡ true = t.place in
            record {
              went = went_on wide as_long (omega (arith, now_at.behind)) (omega arith) (omega (arith, now_at.ready_long, t.within)) (omega (arith, t.most));
              same =
                  ap₂ (λ x y. ended (pass keys ends now (length ws) (take n.ready ws) (take x zs) (drop y zs))) write read
                  ∙ ap (λ m. ended (pass keys ends now m (take n.ready ws) (take q.write zs) (drop (q.read + 1) zs))) wide
                  ∙ ap (λ z. ended (pass keys ends now (length xs') z (take q.write zs) (drop (q.read + 1) zs))) t.list
                  ∙ sym (cond-true (has_place keys (length xs') (take q.ready xs') e.key) _ _ yes_place)
                  ∙ goes (Some (Ok e)) d;
            }

        -- it had no place among them
        came_refused : {e : Entry K S} → TurnOutcome ends now ys' p (Some (Ok e)) zs q → NoRoom keys xs' ws e q.ready → n ≡ q → PassSoFar xs ys ws zs p₀ n (Err (error.NoPlace (record { key = e.key })))
        came_refused {e} d t h =
            let a : n.ready ≡ p.ready = ap (λ z. z.ready) (h ∙ same_places d) in
            let b : n.read ≡ p.read = ap (λ z. z.read) (h ∙ same_places d) in
            let c : n.write ≡ p.write = ap (λ z. z.write) (h ∙ same_places d) in
            record {
              went = went_on wide as_long (omega (arith, now_at.behind)) (omega arith) (omega (arith, now_at.fits)) (omega arith);
              same =
                  ap₂ (λ x z. stopped x zs z (error.NoPlace (record { key = e.key }))) t.same h
                  ∙ sym (cond-false (has_place keys (length xs') (take q.ready xs') e.key) _ _ t.place)
                  ∙ goes (Some (Ok e)) d;
            }

        -- one turn of the walk: what a turn told was taken up
        pub came : (t : Result (Entry K S) (Failure K E)) (r : Result (Unit {0}) (PendingError K E)) → TurnOutcome ends now ys' p (Some t) zs q → Admission keys xs' ws q n t r → PassSoFar xs ys ws zs p₀ n r
        came (Err f) r d t = came_as (sym t.fault) (came_failed d t.same t.places)
        came (Ok x) (Ok u) d t = came_ready d t.ready t.read t.write
        came (Ok x) (Err y) d t = came_as (ap Err (sym t.fault)) (came_refused d t.room t.places)

-- What a pass that ended leaves of the cache.
use Rattle.std.specs.Net.Reader.{map_or}
use Rattle.std.proofs.Common.{◌≡◌, ℕ, zero, suc, ◌+◌, ◌-◌, ◌<◌, ◌≤◌, min, List, [], ◌∷◌, ◌++◌, length, take, drop, None, Ok, Err, Result, sym, refl, ap, ap₂, ◌∙◌, subst, ⊎_elim, arith}
use Rattle.std.specs.List.{copy_within}
use Rattle.std.proofs.lemmas.List.{length-take-le, length-append, length-drop, drop_all, take-take, take_all, take_at, take-append-le, drop-append-le}
use Rattle.std.proofs.lemmas.List.Edits.{take-paste}
use Rattle.std.proofs.lemmas.Bool.{cases_lt}
use Rattle.service.specs.Meaning.{Sameness, Endpoints}
use Rattle.service.specs.declared.poll.Poll.{Poll}
use Rattle.service.specs.declared.poll.Poll.TheVariants as poll
use Rattle.cache_model.specs.declared.entry.Entry.{Entry}
use Rattle.cache_model.specs.declared.error.PendingError.{PendingError}
use Rattle.cache_model.specs.Cache.{Cache, capacity_of, nothing_pending, pass, poll_pending}
use Rattle.ready_cache.specs.declared.places.Places.{Places}
use Rattle.ready_cache.specs.declared.ready_cache.ReadyCache.TheInside.{Inside}
use Rattle.ready_cache.proofs.Views.{seen, shown, Fits}
use Rattle.ready_cache.proofs.Passes.{PassEnd, ended, fault_of, PassSoFar, comes_to, came_as}

pub emptied_none : {A : Type 0} (xs : List A) (n : ℕ) → n ≡ 0 → nothing_pending (take n xs) ≡ poll.Ready tt
emptied_none xs zero h = refl
emptied_none xs (suc n) h = absurd (omega arith)

pub emptied_some : {A : Type 0} (xs : List A) (n : ℕ) → n ≤ length xs → 0 < n → nothing_pending (take n xs) ≡ poll.Pending
emptied_some xs zero l h = absurd (omega arith)
emptied_some [] (suc n) l h = absurd (omega arith)
emptied_some (x ∷ xs) (suc n) l h = refl

-- the gap between w and r is closed: ys stood at the front of the memory, and D past it
closed : {A : Type 0} (ys D : List A) (n r w : ℕ) → length ys ≡ n → w ≤ r → r ≤ n → take (w + (n - r)) (copy_within (ys ++ D) r n w) ≡ take w ys ++ drop r ys
closed ys D n r w e h k =
    let long : length (drop r (ys ++ D)) ≡ length ys + length D - r = length-drop r (ys ++ D) ∙ ap (λ m. m - r) (length-append ys D) in
    take-paste (ys ++ D) w (drop r (ys ++ D)) (n - r) (omega (arith, length-append ys D)) (omega (arith, long))
    ∙ ap₂ (λ a b. a ++ b)
    (take-append-le w ys D (omega arith))
    (ap (take (n - r)) (drop-append-le r ys D (omega arith)) ∙ take_at (drop r ys) D (n - r) (length-drop r ys ∙ ap (λ m. m - r) e))

module _ {K S Q A E W : Type 0} (keys : Sameness K) (ends : Endpoints S Q A E W) (now : ℕ) where
  abbrev start : ℕ → ℕ → Places
  start r from = record { ready = r; read = from; write = from }

  -- the pass of the model starts where the code does
  resumed : (xs ys : List (Entry K S)) (r resume capacity : ℕ) → ended (pass keys ends now capacity (take r xs) (take resume ys) (drop resume ys)) ≡ ended (pass keys ends now capacity (take r xs) (take (min resume (length ys)) ys) (drop (min resume (length ys)) ys))
  resumed xs ys r resume capacity =
      ⊎_elim
      (λ (h : resume < length ys).
      (let e : min resume (length ys) ≡ resume = omega arith in
      ap (λ z. ended (pass keys ends now capacity (take r xs) (take z ys) (drop z ys))) (sym e)))
      (λ (h : length ys ≤ resume).
      (let e : min resume (length ys) ≡ length ys = omega arith in
      ap₂ (λ a b. ended (pass keys ends now capacity (take r xs) a b)) (take_all resume ys h ∙ sym (take_all (length ys) ys (omega arith))) (drop_all resume ys h ∙ sym (drop_all (length ys) ys (omega arith)))
      ∙ ap (λ z. ended (pass keys ends now capacity (take r xs) (take z ys) (drop z ys))) (sym e)))
      (cases_lt resume (length ys))

  abbrev answer_of : PassEnd K S E → Result (Poll (Unit {0})) (PendingError K E)
  answer_of p = map_or p.fault (Ok (nothing_pending p.kept)) Err

  abbrev after_of : ℕ → ℕ → PassEnd K S E → Cache K S
  after_of next capacity p = record { ready = p.ready; pending = p.kept ++ p.rest; next = next; resume = map_or p.fault 0 (λ _. length p.kept); capacity = capacity }

  -- a pass over the memory f ended at q with the result r: the memory is m then, with xs' and ys' at the front of its lists
  pub record PassStop (f m : Inside K S) (capacity : ℕ) (xs' ys' : List (Entry K S)) (q : Places) (r : Result (Unit {0}) (PendingError K E)) : Type 0 where
    pub ready : m.ready.now ≡ xs' ++ drop capacity f.ready.now
    pub pending : m.pending.now ≡ ys' ++ drop f.pending_count f.pending.now
    pub next : m.next_serial ≡ f.next_serial
    pub done : fault_of r ≡ None → length ys' ≤ q.read

  pub stopped_as : {f m m' : Inside K S} {capacity : ℕ} {xs' ys' : List (Entry K S)} {q : Places} {r : Result (Unit {0}) (PendingError K E)} → m ≡ m' → PassStop f m' capacity xs' ys' q r → PassStop f m capacity xs' ys' q r
  stopped_as {f} {m} {m'} {capacity} {xs'} {ys'} {q} {r} h s = subst (λ z. PassStop f z capacity xs' ys' q r) (sym h) s

  -- in the memory f of the cache v, a pass from `from` on stopped in the memory m with the result `out`
  module _ (f m : Inside K S) {v : Cache K S} {from capacity : ℕ} {xs' ys' : List (Entry K S)} {q : Places} {out res : Result (Unit {0}) (PendingError K E)}
      (shows : shown f ≡ v)
      (fits : Fits f)
      (bound : capacity ≡ v.capacity)
      (begins : from ≡ min f.resume f.pending_count)
      (was : out ≡ res)
      (came : PassSoFar keys ends now (take capacity f.ready.now) (take f.pending_count f.pending.now) xs' ys' (start f.ready_count from) q out)
      (stop : PassStop f m capacity xs' ys' q out) where
    abbrev xs : List (Entry K S)
    xs = f.ready.now

    abbrev ys : List (Entry K S)
    ys = f.pending.now

    abbrev r : ℕ
    r = f.ready_count

    abbrev n : ℕ
    n = f.pending_count

    abbrev resume : ℕ
    resume = f.resume

    over : PassSoFar keys ends now (take capacity xs) (take n ys) xs' ys' (start r from) q res
    over = came_as keys ends now was came

    bound_is : capacity ≡ capacity_of (length xs) (length ys)
    bound_is = bound ∙ ap (λ (c : Cache K S). c.capacity) (sym shows)

    abbrev close : PassEnd K S E
    close = record { ready = take q.ready xs'; kept = take q.write ys'; rest = drop q.read ys'; fault = fault_of res }

    wide : length (take capacity xs) ≡ capacity
    wide = length-take-le capacity xs (omega (arith, bound_is))

    long : length (take n ys) ≡ n
    long = length-take-le n ys (omega arith)

    closes : (out' : Result (Unit {0}) (PendingError K E)) → (fault_of out' ≡ None → length ys' ≤ q.read) → comes_to keys ends now xs' ys' q out' ≡ record { ready = take q.ready xs'; kept = take q.write ys'; rest = drop q.read ys'; fault = fault_of out' }
    closes (Ok u) h = rw (drop_all q.read ys' (h refl)) refl
    closes (Err x) h = refl

    is : ended (pass keys ends now (capacity_of (length xs) (length ys)) (take r xs) (take resume (take n ys)) (drop resume (take n ys))) ≡ close
    is =
        resumed xs (take n ys) r resume (capacity_of (length xs) (length ys))
        ∙ ap (λ m. ended (pass keys ends now (capacity_of (length xs) (length ys)) (take r xs) (take (min resume m) (take n ys)) (drop (min resume m) (take n ys)))) long
        ∙ ap (λ z. ended (pass keys ends now (capacity_of (length xs) (length ys)) (take r xs) (take z (take n ys)) (drop z (take n ys)))) (sym begins)
        ∙ ap₂ (λ m z. ended (pass keys ends now m z (take from (take n ys)) (drop from (take n ys)))) (sym bound_is ∙ sym wide) (sym (take-take r capacity xs (omega (arith, bound_is))))
        ∙ sym over.same
        ∙ closes res (λ h. stop.done (ap fault_of was ∙ h))

    kept_long : q.write ≤ length ys'
    kept_long = omega (arith, over.went.behind, over.went.within, over.went.pending_long)

    poll_answer : answer_of close ≡ (poll_pending keys ends now v).answer
    poll_answer = ap answer_of (sym is) ∙ ap (λ (c : Cache K S). (poll_pending keys ends now c).answer) shows

    -- the memory then: the gap in the pending list is closed
    abbrev ready_memory : List (Entry K S)
    ready_memory = xs' ++ drop capacity xs

    abbrev left : ℕ
    left = q.write + (n - q.read)

    poll_after : (zs : List (Entry K S)) (resume' : ℕ) → length zs ≡ length m.pending.now → zs ≡ copy_within m.pending.now q.read n q.write → resume' ≡ map_or (fault_of res) 0 (λ _. q.write) → seen m.ready.now zs q.ready left m.next_serial resume' ≡ (poll_pending keys ends now v).after
    poll_after zs resume' lz ez hr =
        let w = over.went in
        let lx : length ready_memory ≡ length xs = length-append xs' (drop capacity xs) ∙ ap₂ (λ a b. a + b) (w.ready_long ∙ wide) (length-drop capacity xs) ∙ omega (arith, bound_is) in
        let ly : length zs ≡ length ys = lz ∙ ap length stop.pending ∙ length-append ys' (drop n ys) ∙ ap₂ (λ a b. a + b) (w.pending_long ∙ long) (length-drop n ys) ∙ omega arith in
        let front : take q.ready ready_memory ≡ take q.ready xs' = take-append-le q.ready xs' (drop capacity xs) (omega (arith, w.fits, w.ready_long)) in
        let back : take left zs ≡ take q.write ys' ++ drop q.read ys' = ap (take left) (ez ∙ ap (λ z. copy_within z q.read n q.write) stop.pending) ∙ closed ys' (drop n ys) n q.read q.write (w.pending_long ∙ long) w.behind (omega (arith, w.within, long)) in
        let kept : length (take q.write ys') ≡ q.write = length-take-le q.write ys' kept_long in
        let told : seen ready_memory zs q.ready left f.next_serial resume' ≡ (poll_pending keys ends now (shown f)).after =
        rw (lx, ly, front, back)
        (ap (λ z. record { ready = take q.ready xs'; pending = take q.write ys' ++ drop q.read ys'; next = f.next_serial; resume = z; capacity = capacity_of (length xs) (length ys) }) (hr ∙ ap (λ z. map_or (fault_of res) 0 (λ _. z)) (sym kept))
        ∙ ap (after_of f.next_serial (capacity_of (length xs) (length ys))) (sym is)) in
        ap₂ (λ a b. seen a zs q.ready left b resume') stop.ready stop.next ∙ told ∙ ap (λ (c : Cache K S). (poll_pending keys ends now c).after) shows

    -- all three: how long what stays is, what is answered, and what is left
    pub poll_told :
        (q.write ≤ length ys')
        × (answer_of close ≡ (poll_pending keys ends now v).answer)
        × ((zs : List (Entry K S)) (resume' : ℕ) → length zs ≡ length m.pending.now → zs ≡ copy_within m.pending.now q.read n q.write → resume' ≡ map_or (fault_of res) 0 (λ _. q.write) → seen m.ready.now zs q.ready left m.next_serial resume' ≡ (poll_pending keys ends now v).after)
    poll_told = (kept_long, poll_answer, poll_after)

-- What the memory behind a cache shows after one of its lists was written.
use Rattle.std.proofs.Common.{◌≡◌, ℕ, ◌≤◌, List, ◌++◌, length, take, drop, ◌+◌, refl, ap, ◌∙◌, arith}
use Rattle.std.proofs.lemmas.List.{length-take-le, length-append, length-drop, take_at}
use Rattle.cache_model.specs.declared.entry.Entry.{Entry}
use Rattle.cache_model.specs.Cache.{Cache, capacity_of, with_lists}
use Rattle.ready_cache.specs.declared.ready_cache.ReadyCache.TheInside.{Inside}

module _ {K S : Type 0} where
  -- the first r of xs are ready, and the first p of ys pending
  abbrev pub seen : List (Entry K S) → List (Entry K S) → ℕ → ℕ → ℕ → ℕ → Cache K S
  seen xs ys r p next resume = record {
    ready = take r xs;
    pending = take p ys;
    next = next;
    resume = resume;
    capacity = capacity_of (length xs) (length ys);
  }

  -- the first n of xs were written as zs
  same_length : (xs zs : List (Entry K S)) (n : ℕ) → length zs ≡ length (take n xs) → n ≤ length xs → length (zs ++ drop n xs) ≡ length xs
  same_length xs zs n e h = length-append zs (drop n xs) ∙ ap (λ m. m + length (drop n xs)) (e ∙ length-take-le n xs h) ∙ ap (λ m. n + m) (length-drop n xs) ∙ omega arith

  same_front : (xs zs : List (Entry K S)) (n : ℕ) → length zs ≡ length (take n xs) → n ≤ length xs → take n (zs ++ drop n xs) ≡ zs
  same_front xs zs n e h = take_at zs (drop n xs) n (e ∙ length-take-le n xs h)

module _ {K S : Type 0} (f : Inside K S) where
  -- what the memory f shows
  abbrev pub shown : Cache K S
  shown = seen f.ready.now f.pending.now f.ready_count f.pending_count f.next_serial f.resume

  -- the same, once the ready list was written as zs
  abbrev pub shown_with : List (Entry K S) → Cache K S
  shown_with zs = seen (zs ++ drop f.ready_count f.ready.now) f.pending.now f.ready_count f.pending_count f.next_serial f.resume

  abbrev pub Fits : Type 0
  Fits = f.ready_count + f.pending_count ≤ capacity_of (length f.ready.now) (length f.pending.now)

  module _ (fits : Fits) where
    ready_fits : f.ready_count ≤ length f.ready.now
    ready_fits = omega arith

    pending_fits : f.pending_count ≤ length f.pending.now
    pending_fits = omega arith

    -- the lists were written as zs and ws
    pub rewritten : (zs ws : List (Entry K S)) → length zs ≡ length shown.ready → length ws ≡ length shown.pending → seen (zs ++ drop f.ready_count f.ready.now) (ws ++ drop f.pending_count f.pending.now) f.ready_count f.pending_count f.next_serial f.resume ≡ with_lists shown zs ws
    rewritten zs ws e h =
        rw (same_length f.ready.now zs f.ready_count e ready_fits, same_length f.pending.now ws f.pending_count h pending_fits, same_front f.ready.now zs f.ready_count e ready_fits, same_front f.pending.now ws f.pending_count h pending_fits) refl

    -- the ready list was written as zs
    pub ready_rewritten : (zs : List (Entry K S)) → length zs ≡ length shown.ready → shown_with zs ≡ with_lists shown zs shown.pending
    ready_rewritten zs e = rw (same_length f.ready.now zs f.ready_count e ready_fits, same_front f.ready.now zs f.ready_count e ready_fits) refl

-- What is found in a list of entries, and what a write at that place leaves.
use Rattle.std.proofs.Common.{◌≡◌, ℕ, Bool, true, false, cond, ◌||◌, List, [], ◌∷◌, get_or, set, is_some, position, Some, None, Option, sym, refl, ap, ◌∙◌}
use Rattle.std.proofs.lemmas.List.{append-nil}
use Rattle.lists.proofs.Std.{place_of, one_more, position_is}
use Rattle.lists.proofs.Slices.{change_first, found, not_found}
use Rattle.service.specs.Meaning.{Sameness, Endpoints}
use Rattle.cache_model.specs.declared.entry.Entry.{Entry}
use Rattle.cache_model.specs.Entries.{with_cancelled, with_endpoint, has_serial, has_key, live_of, any_live, cancel, promote}
use Rattle.cache_model.specs.Lists.{after_finish}

-- the item that was found is changed in place
pub changed_at : {A : Type 0} (p : A → Bool) (f : A → A) (end xs : List A) (i : ℕ) (d : A) → Some i ≡ position p xs → set xs i (f (get_or xs i d)) ≡ change_first p f end xs
changed_at p f end xs i d e = sym ((found p f end xs i (sym e)).changed d)

-- none was found, so nothing changes
pub unchanged : {A : Type 0} (p : A → Bool) (f : A → A) (xs : List A) → None ≡ position p xs → xs ≡ change_first p f [] xs
unchanged p f xs e = sym (not_found p f [] xs (sym e) ∙ append-nil xs)

module _ {K S : Type 0} where
  module _ (keys : Sameness K) where
    any_live_by : (k : K) (es : List (Entry K S)) → is_some (place_of (live_of keys k) es) ≡ any_live keys k es
    any_live_by k [] = refl
    any_live_by k (e ∷ es) = go (live_of keys k e) (place_of (live_of keys k) es) (any_live_by k es)
      where
        go : (b : Bool) (o : Option ℕ) → is_some o ≡ any_live keys k es → is_some (cond b (Some 0) (one_more o)) ≡ b || any_live keys k es
        go true o h = refl
        go false None h = h
        go false (Some i) h = h

    pub any_live_is : (k : K) (es : List (Entry K S)) → is_some (position (live_of keys k) es) ≡ any_live keys k es
    any_live_is k es = ap is_some (position_is (live_of keys k) es) ∙ any_live_by k es

    pub cancel_is : (k : K) (es : List (Entry K S)) → cancel keys k es ≡ change_first (live_of keys k) with_cancelled [] es
    cancel_is k [] = refl
    cancel_is k (e ∷ es) = ap (λ zs. cond (live_of keys k e) (with_cancelled e ∷ es) (e ∷ zs)) (cancel_is k es)

    -- the entry r of the key, with the endpoint and the serial of e
    abbrev pub renewed : Entry K S → Entry K S → Entry K S
    renewed e r = record { key = r.key; endpoint = e.endpoint; serial = e.serial; cancelled = r.cancelled }

    pub promote_is : (e : Entry K S) (rs : List (Entry K S)) → promote keys e rs ≡ change_first (has_key keys e.key) (renewed e) (e ∷ []) rs
    promote_is e [] = refl
    promote_is e (r ∷ rs) = ap (λ zs. cond (has_key keys e.key r) (renewed e r ∷ rs) (r ∷ zs)) (promote_is e rs)

  module _ {Q A E W : Type 0} (ends : Endpoints S Q A E W) (now : ℕ) where
    pub finish_is : (es : List (Entry K S)) (serial sent : ℕ) → after_finish ends now es serial sent ≡ change_first (has_serial serial) (λ e. with_endpoint e (ends.finish e.endpoint sent now)) [] es
    finish_is [] serial sent = refl
    finish_is (e ∷ es) serial sent = ap (λ zs. cond (has_serial serial e) (with_endpoint e (ends.finish e.endpoint sent now) ∷ es) (e ∷ zs)) (finish_is es serial sent)

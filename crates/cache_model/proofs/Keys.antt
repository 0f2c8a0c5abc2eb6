-- What the list steps do to the entries of a key.
use Rattle.std.proofs.Common.{◌≡◌, ℕ, suc, ◌+◌, ◌≤◌, Bool, true, false, cond, not, ◌&&◌, ◌||◌, IsTrue, count_by, List, [], ◌∷◌, ◌++◌, sym, refl, ap, ◌∙◌, arith}
use Rattle.std.proofs.lemmas.Bool.{true≢false, false_from_ne_true}
use Rattle.lists.proofs.Std.{how_many, how_many_is}
use Rattle.lists.specs.Sums.{one_if}
use Rattle.lists.proofs.Cases.{cond_case}
use Rattle.lists.proofs.Totals.{total, total_append}
use Rattle.service.specs.Meaning.{Sameness}
use Rattle.cache_model.specs.declared.entry.Entry.{Entry}
use Rattle.cache_model.specs.Entries.{has_key, live_of, any_live, cancel, with_cancelled, promote, set_aside}

how_many_total : {A : Type 0} (p : A → Bool) (xs : List A) → how_many p xs ≡ total (λ x. one_if (p x)) xs
how_many_total p [] = refl
how_many_total p (x ∷ xs) = go (p x) (how_many_total p xs)
  where
    go : (t : Bool) → how_many p xs ≡ total (λ x. one_if (p x)) xs → cond t (suc (how_many p xs)) (how_many p xs) ≡ one_if t + total (λ x. one_if (p x)) xs
    go true h = omega arith
    go false h = omega arith

-- how many pass, as a sum
pub count_by_total : {A : Type 0} (p : A → Bool) (xs : List A) → count_by p xs ≡ total (λ x. one_if (p x)) xs
count_by_total p xs = how_many_is p xs ∙ how_many_total p xs

pub one_if_le : (t : Bool) → one_if t ≤ 1
one_if_le true = omega arith
one_if_le false = omega arith

bool_iff : (p q : Bool) → (IsTrue p → IsTrue q) → (IsTrue q → IsTrue p) → p ≡ q
bool_iff true true f g = refl
bool_iff true false f g = sym (f refl)
bool_iff false true f g = g refl
bool_iff false false f g = refl

module _ {K : Type 0} (keys : Sameness K) where
  pub alike : (a b c : K) → IsTrue (keys.same a b) → keys.same a c ≡ keys.same b c
  alike a b c t = bool_iff (keys.same a c) (keys.same b c) (λ u. keys.transitive b a c (keys.symmetric a b t) u) (λ u. keys.transitive a b c t u)

module _ {K S : Type 0} (keys : Sameness K) where
  abbrev pub of_key : K → Entry K S → ℕ
  of_key k e = one_if (has_key keys k e)

  abbrev pub of_live : K → Entry K S → ℕ
  of_live k e = one_if (live_of keys k e)

  promote_other : (k : K) (e : Entry K S) (rs : List (Entry K S)) → keys.same k e.key ≡ false → total (of_key k) (promote keys e rs) ≡ total (of_key k) rs
  promote_other k e [] n = rw n refl
  promote_other k e (r ∷ rs) n =
      cond_case (λ (xs : List (Entry K S)). total (of_key k) xs ≡ total (of_key k) (r ∷ rs)) (has_key keys e.key r) _ _
      (λ _. refl)
      (λ _. ap (λ (x : ℕ). of_key k r + x) (promote_other k e rs n))

  pub promote_single : (k : K) (e : Entry K S) (rs : List (Entry K S)) → total (of_key k) rs ≤ 1 → total (of_key k) (promote keys e rs) ≤ 1
  promote_single k e [] h = let j = one_if_le (has_key keys k e) in omega arith
  promote_single k e (r ∷ rs) h =
      cond_case (λ (xs : List (Entry K S)). total (of_key k) xs ≤ 1) (has_key keys e.key r) _ _
      (λ _. h)
      (λ other. go other (keys.same k r.key) refl (promote_single k e rs))
    where
      go : keys.same e.key r.key ≡ false → (t : Bool) → keys.same k r.key ≡ t → (total (of_key k) rs ≤ 1 → total (of_key k) (promote keys e rs) ≤ 1) → of_key k r + total (of_key k) (promote keys e rs) ≤ 1
      go other true p ih =
          let none : keys.same k e.key ≡ false = false_from_ne_true (keys.same k e.key) (λ u. true≢false (sym (keys.transitive e.key k r.key (keys.symmetric k e.key u) p) ∙ other)) in
          let q = promote_other k e rs none in
          let one : of_key k r ≡ 1 = ap one_if p in
          omega arith
      go other false p ih =
          let none : of_key k r ≡ 0 = ap one_if p in
          let q = ih (omega arith) in
          omega arith

  cancelled_live : (k : K) (e : Entry K S) → of_live k (with_cancelled e) ≡ 0
  cancelled_live k e = go (has_key keys k e)
    where
      go : (t : Bool) → one_if (t && false) ≡ 0
      go true = refl
      go false = refl

  pub cancel_less : (k j : K) (ps : List (Entry K S)) → total (of_live k) (cancel keys j ps) ≤ total (of_live k) ps
  cancel_less k j [] = omega arith
  cancel_less k j (e ∷ es) =
      cond_case (λ (xs : List (Entry K S)). total (of_live k) xs ≤ total (of_live k) (e ∷ es)) (live_of keys j e) _ _
      (λ _. let z = cancelled_live k e in omega arith)
      (λ _. let h = cancel_less k j es in omega arith)

  alike_live : (k j : K) (e : Entry K S) → IsTrue (keys.same k j) → live_of keys k e ≡ live_of keys j e
  alike_live k j e t = ap (λ (b : Bool). b && not e.cancelled) (alike keys k j e.key t)

  pub cancel_all : (k j : K) (ps : List (Entry K S)) → IsTrue (keys.same k j) → total (of_live k) ps ≤ 1 → total (of_live k) (cancel keys j ps) ≡ 0
  cancel_all k j [] t h = refl
  cancel_all k j (e ∷ es) t h =
      cond_case (λ (xs : List (Entry K S)). total (of_live k) xs ≡ 0) (live_of keys j e) _ _
      (λ p. let z = cancelled_live k e in let one : of_live k e ≡ 1 = ap one_if (alike_live k j e t ∙ p) in omega arith)
      (λ p. let none : of_live k e ≡ 0 = ap one_if (alike_live k j e t ∙ p) in let q = cancel_all k j es t (omega arith) in omega arith)

  none_live : (k j : K) (ps : List (Entry K S)) → IsTrue (keys.same k j) → any_live keys j ps ≡ false → total (of_live k) ps ≡ 0
  none_live k j [] t n = refl
  none_live k j (e ∷ es) t n = go (live_of keys j e) refl n (none_live k j es t)
    where
      go : (b : Bool) → live_of keys j e ≡ b → (b || any_live keys j es) ≡ false → (any_live keys j es ≡ false → total (of_live k) es ≡ 0) → of_live k e + total (of_live k) es ≡ 0
      go true p q ih = absurd (true≢false q)
      go false p q ih = let none : of_live k e ≡ 0 = ap one_if (alike_live k j e t ∙ p) in let z = ih q in omega arith

  pub aside_single : (k : K) (e : Entry K S) (ps : List (Entry K S)) → total (of_live k) ps ≤ 1 → total (of_live k) (set_aside keys e ps) ≤ 1
  aside_single k e ps h =
      cond_case (λ (xs : List (Entry K S)). total (of_live k) xs ≤ 1) (any_live keys e.key ps) _ _
      (λ _. h)
      (λ n. go n (keys.same k e.key) refl)
    where
      back : List (Entry K S)
      back = record { key = e.key; endpoint = e.endpoint; serial = e.serial; cancelled = false } ∷ []

      go : any_live keys e.key ps ≡ false → (b : Bool) → keys.same k e.key ≡ b → total (of_live k) (ps ++ back) ≤ 1
      go n true p = let z = none_live k e.key ps p n in let s = total_append (of_live k) ps back in let o = one_if_le (keys.same k e.key && true) in omega arith
      go n false p = let s = total_append (of_live k) ps back in let o : total (of_live k) back ≡ 0 = rw p refl in omega arith

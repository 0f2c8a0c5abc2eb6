-- Places in the front of a list: what is found, written and taken away there.
use Rattle.std.proofs.Common.{◌≡◌, ℕ, zero, suc, ◌+◌, ◌-◌, ◌<◌, ◌≤◌, Bool, true, false, cond, List, [], ◌∷◌, ◌++◌, length, get_or, take, drop, set, position, Some, None, Option, sym, refl, ap, ◌∙◌, ap₂, arith, MatchOption, slice_get}
use Rattle.std.proofs.lemmas.List.{take_all, take-append-drop}
use Rattle.std.proofs.lemmas.Option.{MatchOption-at_some, MatchOption-at_none}
use Rattle.std.specs.List.{position_from}
use Rattle.lists.proofs.Std.{one_more, place_of, place_from_start, position_is}
use Rattle.lists.specs.Lists.{last, last_of, front, swap_remove}

module _ {A : Type 0} where
  -- ---- writing

  -- the front of a list was written as it was
  pub put_back : (xs zs : List A) (n : ℕ) → zs ≡ take n xs → zs ++ drop n xs ≡ xs
  put_back xs zs n e = ap (λ ys. ys ++ drop n xs) e ∙ take-append-drop n xs

  -- ---- taking away

  last_is : (y : A) (ys : List A) (d : A) → last y ys ≡ get_or (y ∷ ys) (length ys) d
  last_is y [] d = refl
  last_is y (z ∷ zs) d = last_is z zs d

  front_is : (y : A) (ys : List A) → front y ys ≡ take (length ys) (y ∷ ys)
  front_is y [] = refl
  front_is y (z ∷ zs) = ap (λ ws. y ∷ ws) (front_is z zs)

  swap_remove_is : (xs : List A) (n i : ℕ) (d : A) → length xs ≡ suc n → i ≤ n → swap_remove xs i ≡ take n (set xs i (get_or xs n d))
  swap_remove_is [] n i d h l = absurd (omega arith)
  swap_remove_is (x ∷ []) zero zero d h l = refl
  swap_remove_is (x ∷ y ∷ ys) zero zero d h l = absurd (omega arith)
  swap_remove_is (x ∷ []) (suc n) zero d h l = absurd (omega arith)
  swap_remove_is (x ∷ y ∷ ys) (suc n) zero d h l =
      let e : length ys ≡ n = omega arith in
      ap₂ (λ z zs. z ∷ zs) (last_is y ys d ∙ ap (λ m. get_or (y ∷ ys) m d) e) (front_is y ys ∙ ap (λ m. take m (y ∷ ys)) e)
  swap_remove_is (x ∷ xs) zero (suc i) d h l = absurd (omega arith)
  swap_remove_is (x ∷ xs) (suc n) (suc i) d h l = ap (λ ys. x ∷ ys) (swap_remove_is xs n i d (omega arith) (omega arith))

  -- the last one moves to i, and the list is one shorter
  pub swap_remove_written : (xs : List A) (i : ℕ) (x : A) → i < length xs → x ≡ get_or xs (length xs - 1) x → take (length xs - 1) (set xs i x) ≡ swap_remove xs i
  swap_remove_written xs i x h r =
      let n = length xs - 1 in
      ap (λ z. take n (set xs i z)) r ∙ sym (swap_remove_is xs n i x (omega (arith, h)) (omega (arith, h)))

  last_is_kept : (xs : List A) (n i : ℕ) (x : A) → length xs ≡ suc n → i ≤ n → x ≡ get_or xs n x → last_of (set xs i x) ≡ last_of xs
  last_is_kept [] n i x h l r = absurd (omega arith)
  last_is_kept (y ∷ []) zero zero x h l r = ap Some r
  last_is_kept (y ∷ []) zero (suc i) x h l r = absurd (omega arith)
  last_is_kept (y ∷ []) (suc n) i x h l r = absurd (omega arith)
  last_is_kept (y ∷ z ∷ zs) zero i x h l r = absurd (omega arith)
  last_is_kept (y ∷ z ∷ zs) (suc n) zero x h l r = refl
  last_is_kept (y ∷ z ∷ zs) (suc n) (suc zero) x h l r = last_is_kept (z ∷ zs) n zero x (omega arith) (omega arith) r
  last_is_kept (y ∷ z ∷ zs) (suc n) (suc (suc i)) x h l r = last_is_kept (z ∷ zs) n (suc i) x (omega arith) (omega arith) r

  -- the last one also stays where it stands
  pub last_written : (xs : List A) (i : ℕ) (x : A) → i < length xs → x ≡ get_or xs (length xs - 1) x → last_of (set xs i x) ≡ last_of xs
  last_written xs i x h r = last_is_kept xs (length xs - 1) i x (omega (arith, h)) (omega (arith, h)) r

  -- what stood at i does not matter
  pub swap_remove_set : (xs : List A) (i : ℕ) (v : A) → swap_remove (set xs i v) i ≡ swap_remove xs i
  swap_remove_set [] i v = refl
  swap_remove_set (x ∷ xs) zero v = refl
  swap_remove_set (x ∷ xs) (suc i) v = ap (λ ys. x ∷ ys) (swap_remove_set xs i v)

  pub swap_remove_none : (xs : List A) (i : ℕ) → slice_get xs i ≡ None → swap_remove xs i ≡ xs
  swap_remove_none [] i h = refl
  swap_remove_none (x ∷ xs) zero h = cc
  swap_remove_none (x ∷ xs) (suc i) h = ap (λ ys. x ∷ ys) (swap_remove_none xs i h)

  -- ---- finding

  module _ (p : A → Bool) where
    past_one : (y : A) (ys : List A) (k : ℕ) → p y ≡ false → position_from p k (y ∷ ys) ≡ position_from p (k + 1) ys
    past_one y ys k e = ap (λ b. cond b (Some k) (position_from p (k + 1) ys)) e

    -- ys is what is left of xs, and its first eight do not pass
    pub past_eight : (xs ys : List A) (a b c d e f g h : A) → 8 ≤ length ys → length ys ≤ length xs → a ≡ get_or ys 0 a → b ≡ get_or ys 1 b → c ≡ get_or ys 2 c → d ≡ get_or ys 3 d → e ≡ get_or ys 4 e → f ≡ get_or ys 5 f → g ≡ get_or ys 6 g → h ≡ get_or ys 7 h → p a ≡ false → p b ≡ false → p c ≡ false → p d ≡ false → p e ≡ false → p f ≡ false → p g ≡ false → p h ≡ false → position_from p (length xs - length ys) ys ≡ position_from p (length xs - length (take (length ys - 8) (drop 8 ys))) (take (length ys - 8) (drop 8 ys))
    past_eight xs [] a b c d e f g h l w ra rb rc rd re rf rg rh fa fb fc fd fe ff fg fh = absurd (omega (arith, l))
    past_eight xs (_ ∷ []) a b c d e f g h l w ra rb rc rd re rf rg rh fa fb fc fd fe ff fg fh = absurd (omega (arith, l))
    past_eight xs (_ ∷ _ ∷ []) a b c d e f g h l w ra rb rc rd re rf rg rh fa fb fc fd fe ff fg fh = absurd (omega (arith, l))
    past_eight xs (_ ∷ _ ∷ _ ∷ []) a b c d e f g h l w ra rb rc rd re rf rg rh fa fb fc fd fe ff fg fh = absurd (omega (arith, l))
    past_eight xs (_ ∷ _ ∷ _ ∷ _ ∷ []) a b c d e f g h l w ra rb rc rd re rf rg rh fa fb fc fd fe ff fg fh = absurd (omega (arith, l))
    past_eight xs (_ ∷ _ ∷ _ ∷ _ ∷ _ ∷ []) a b c d e f g h l w ra rb rc rd re rf rg rh fa fb fc fd fe ff fg fh = absurd (omega (arith, l))
    past_eight xs (_ ∷ _ ∷ _ ∷ _ ∷ _ ∷ _ ∷ []) a b c d e f g h l w ra rb rc rd re rf rg rh fa fb fc fd fe ff fg fh = absurd (omega (arith, l))
    past_eight xs (_ ∷ _ ∷ _ ∷ _ ∷ _ ∷ _ ∷ _ ∷ []) a b c d e f g h l w ra rb rc rd re rf rg rh fa fb fc fd fe ff fg fh = absurd (omega (arith, l))
    past_eight xs (s1 ∷ s2 ∷ s3 ∷ s4 ∷ s5 ∷ s6 ∷ s7 ∷ s8 ∷ ys) a b c d e f g h l w ra rb rc rd re rf rg rh fa fb fc fd fe ff fg fh =
        let k = length xs - length (s1 ∷ s2 ∷ s3 ∷ s4 ∷ s5 ∷ s6 ∷ s7 ∷ s8 ∷ ys) in
        let whole : take (length (s1 ∷ s2 ∷ s3 ∷ s4 ∷ s5 ∷ s6 ∷ s7 ∷ s8 ∷ ys) - 8) ys ≡ ys = take_all _ ys (omega arith) in
        let next : k + 1 + 1 + 1 + 1 + 1 + 1 + 1 + 1 ≡ length xs - length ys = omega (arith, w) in
        past_one s1 (s2 ∷ s3 ∷ s4 ∷ s5 ∷ s6 ∷ s7 ∷ s8 ∷ ys) k (ap p (sym ra) ∙ fa)
        ∙ past_one s2 (s3 ∷ s4 ∷ s5 ∷ s6 ∷ s7 ∷ s8 ∷ ys) (k + 1) (ap p (sym rb) ∙ fb)
        ∙ past_one s3 (s4 ∷ s5 ∷ s6 ∷ s7 ∷ s8 ∷ ys) (k + 1 + 1) (ap p (sym rc) ∙ fc)
        ∙ past_one s4 (s5 ∷ s6 ∷ s7 ∷ s8 ∷ ys) (k + 1 + 1 + 1) (ap p (sym rd) ∙ fd)
        ∙ past_one s5 (s6 ∷ s7 ∷ s8 ∷ ys) (k + 1 + 1 + 1 + 1) (ap p (sym re) ∙ fe)
        ∙ past_one s6 (s7 ∷ s8 ∷ ys) (k + 1 + 1 + 1 + 1 + 1) (ap p (sym rf) ∙ ff)
        ∙ past_one s7 (s8 ∷ ys) (k + 1 + 1 + 1 + 1 + 1 + 1) (ap p (sym rg) ∙ fg)
        ∙ past_one s8 ys (k + 1 + 1 + 1 + 1 + 1 + 1 + 1) (ap p (sym rh) ∙ fh)
        ∙ ap (λ n. position_from p n ys) next
        ∙ ap (λ zs. position_from p (length xs - length zs) zs) (sym whole)

    pub all_is_left : (xs : List A) → position p xs ≡ position_from p (length xs - length xs) xs
    all_is_left xs = let e : length xs - length xs ≡ 0 = omega arith in position_is p xs ∙ place_from_start p xs ∙ ap (λ k. position_from p k xs) (sym e)

    -- the first that passes is changed by f; where none does, `end` follows
    abbrev pub change_first : (A → A) → List A → List A → List A
    change_first f end [] = end
    change_first f end (x ∷ xs) = cond (p x) (f x ∷ xs) (x ∷ change_first f end xs)

    -- what a place tells of the list
    pub record Found (f : A → A) (end xs : List A) (i : ℕ) : Type 0 where
      pub below : i < length xs
      pub passes : (d : A) → p (get_or xs i d) ≡ true
      pub changed : (d : A) → change_first f end xs ≡ set xs i (f (get_or xs i d))

    abbrev PlaceTells : (A → A) → List A → List A → Option ℕ → Type 0
    PlaceTells f end xs o = MatchOption o (change_first f end xs ≡ xs ++ end) (Found f end xs)

    told_more : (f : A → A) (end : List A) (y : A) (ys : List A) (b : Bool) (o : Option ℕ) → p y ≡ b → PlaceTells f end ys o → PlaceTells f end (y ∷ ys) (cond b (Some 0) (one_more o))
    told_more f end y ys true o e t = record { below = omega arith; passes = λ d. e; changed = λ d. rw e }
    told_more f end y ys false None e t = rw e (ap (λ zs. y ∷ zs) t)
    told_more f end y ys false (Some i) e t = record { below = omega (arith, t.below); passes = t.passes; changed = λ d. rw e (ap (λ zs. y ∷ zs) (t.changed d)) }

    told : (f : A → A) (end xs : List A) → PlaceTells f end xs (place_of p xs)
    told f end [] = refl
    told f end (y ∷ ys) = told_more f end y ys (p y) (place_of p ys) refl (told f end ys)

    pub found : (f : A → A) (end xs : List A) (i : ℕ) → position p xs ≡ Some i → Found f end xs i
    found f end xs i e = MatchOption-at_some (change_first f end xs ≡ xs ++ end) (Found f end xs) i (sym (position_is p xs) ∙ e) (told f end xs)

    pub not_found : (f : A → A) (end xs : List A) → position p xs ≡ None → change_first f end xs ≡ xs ++ end
    not_found f end xs e = MatchOption-at_none (change_first f end xs ≡ xs ++ end) (Found f end xs) (sym (position_is p xs) ∙ e) (told f end xs)

-- How many remainder pairs draw a given place.
use Rattle.std.proofs.Common.{◌≡◌, ℕ, suc, ◌+◌, ◌-◌, ◌*◌, ◌<◌, ◌≤◌, Bool, true, false, cond, not, ◌&&◌, ◌||◌, IsTrue, eqb, ◌⊎◌, sym, refl, ap, ◌∙◌, subst, ap₂, inl, inr, mul_comm, mul-one, arith}
use Rattle.std.proofs.lemmas.Bool.Decides.{eqb_tells}
use Rattle.std.proofs.lemmas.Bool.{eq-eqb, ne_eqb}
use Rattle.lists.specs.Sums.{sum_below, one_if}
use Rattle.lists.proofs.Sums.{sum_ext, sum_add, sum_zero, sum_twice, sum_at, sum_const}
use Rattle.rng.specs.Pairs.{count_pairs, TwoBelow, gives, OnePairEach}
use Rattle.rng.specs.Shares.{winner, winner_of_pair, heavier_count, equal_count, FairShares}

-- what a function gives at two different places, and nothing where they are the same
abbrev apart : (ℕ → ℕ → ℕ) → ℕ → ℕ → ℕ
apart g a b = cond (eqb a b) 0 (g a b)

one_pair : (m : ℕ) (g : ℕ → ℕ → ℕ) (x y : ℕ) → g (cond (eqb x y) m x) y ≡ apart g x y + cond (eqb y x) (g m y) 0
one_pair m g x y = go (eqb_tells x y)
  where
    go : ((eqb x y ≡ true) × (x ≡ y)) ⊎ ((eqb x y ≡ false) × (x ≡ y → ⊥)) → g (cond (eqb x y) m x) y ≡ apart g x y + cond (eqb y x) (g m y) 0
    go (inl t) = let e : eqb y x ≡ true = eq-eqb y x (sym t.1) in rw (t.0, e) (omega arith)
    go (inr t) = let e : eqb y x ≡ false = ne_eqb y x (λ q. t.1 (sym q)) in rw (t.0, e) (omega arith)

one_row : (m : ℕ) (g : ℕ → ℕ → ℕ) (x : ℕ) → x < suc m → sum_below (suc m) (λ y. g (cond (eqb x y) m x) y) ≡ sum_below (suc m) (apart g x) + g m x
one_row m g x h =
    sum_ext (suc m) (λ y. g (cond (eqb x y) m x) y) (λ y. apart g x y + cond (eqb y x) (g m y) 0) (λ y k. one_pair m g x y)
    ∙ sum_add (suc m) (apart g x) (λ y. cond (eqb y x) (g m y) 0)
    ∙ ap (λ n. sum_below (suc m) (apart g x) + n) (sum_at (suc m) x (g m) h)

last_row : (m : ℕ) (g : ℕ → ℕ → ℕ) → sum_below (suc m) (apart g m) ≡ sum_below m (g m)
last_row m g =
    let e : eqb m m ≡ true = eq-eqb m m refl in
    let k : sum_below m (apart g m) ≡ sum_below m (g m) = sum_ext m (apart g m) (g m) (λ y h. let d : eqb m y ≡ false = ne_eqb m y (omega arith) in rw d refl) in
    rw e (omega arith)

-- the remainder pairs meet each two different places once, in each order
pub pairs_are_places : (m : ℕ) (g : ℕ → ℕ → ℕ) → sum_below m (λ x. sum_below (suc m) (λ y. g (cond (eqb x y) m x) y)) ≡ sum_below (suc m) (λ a. sum_below (suc m) (apart g a))
pairs_are_places m g =
    sum_ext m (λ x. sum_below (suc m) (λ y. g (cond (eqb x y) m x) y)) (λ x. sum_below (suc m) (apart g x) + g m x) (λ x h. one_row m g x (omega arith))
    ∙ sum_add m (λ x. sum_below (suc m) (apart g x)) (g m)
    ∙ ap (λ n. sum_below m (λ x. sum_below (suc m) (apart g x)) + n) (sym (last_row m g))

-- ---- the lighter of two

module _ (lighter : ℕ → ℕ → Bool) where
  abbrev wins_first : ℕ → ℕ → ℕ
  wins_first i j = one_if (not (eqb j i) && lighter i j)

  abbrev wins_second : ℕ → ℕ → ℕ
  wins_second i j = one_if (not (eqb j i) && not (lighter j i))

  abbrev pub more : ℕ → ℕ → ℕ
  more i j = one_if (not (eqb j i) && not (lighter j i))

  abbrev pub same : ℕ → ℕ → ℕ
  same i j = one_if (not (eqb j i) && (lighter j i && lighter i j))

  -- the place i wins of a and b
  abbrev wins : ℕ → ℕ → ℕ → ℕ
  wins i a b = one_if (eqb (winner lighter a b) i)

  first_is : (i b : ℕ) → (b ≡ i → ⊥) → (t : Bool) → one_if (eqb (cond t i b) i) ≡ one_if t
  first_is i b n true = rw (eq-eqb i i refl) refl
  first_is i b n false = rw (ne_eqb b i n) refl

  second_is : (i a : ℕ) → (a ≡ i → ⊥) → (t : Bool) → one_if (eqb (cond t a i) i) ≡ one_if (not t)
  second_is i a n true = rw (ne_eqb a i n) refl
  second_is i a n false = rw (eq-eqb i i refl) refl

  neither_is : (i a b : ℕ) → (a ≡ i → ⊥) → (b ≡ i → ⊥) → (t : Bool) → one_if (eqb (cond t a b) i) ≡ 0
  neither_is i a b na nb true = rw (ne_eqb a i na) refl
  neither_is i a b na nb false = rw (ne_eqb b i nb) refl

  abbrev Split : ℕ → ℕ → ℕ → Type 0
  Split i a b = apart (wins i) a b ≡ cond (eqb a i) (wins_first i b) 0 + cond (eqb b i) (wins_second i a) 0

  split_both : (i : ℕ) → Split i i i
  split_both i = rw (eq-eqb i i refl) refl

  split_first : (i b : ℕ) → (b ≡ i → ⊥) → Split i i b
  split_first i b n =
      let e : eqb i i ≡ true = eq-eqb i i refl in
      let d : eqb b i ≡ false = ne_eqb b i n in
      let d' : eqb i b ≡ false = ne_eqb i b (λ q. n (sym q)) in
      let k = first_is i b n (lighter i b) in
      rw (d', e, d) (omega arith)

  split_second : (i a : ℕ) → (a ≡ i → ⊥) → Split i a i
  split_second i a n =
      let e : eqb i i ≡ true = eq-eqb i i refl in
      let d : eqb a i ≡ false = ne_eqb a i n in
      let k = second_is i a n (lighter a i) in
      rw (d, e) (omega arith)

  split_neither : (i a b : ℕ) → (a ≡ i → ⊥) → (b ≡ i → ⊥) → Split i a b
  split_neither i a b na nb =
      let d : eqb a i ≡ false = ne_eqb a i na in
      let d' : eqb b i ≡ false = ne_eqb b i nb in
      let k = neither_is i a b na nb (lighter a b) in
      rw (d, d') (go (eqb a b) k)
    where
      go : (t : Bool) {n : ℕ} → n ≡ 0 → cond t 0 n ≡ 0 + 0
      go true e = refl
      go false e = e

  split : (i a b : ℕ) → Split i a b
  split i a b = go (eqb_tells a i) (eqb_tells b i)
    where
      go : ((eqb a i ≡ true) × (a ≡ i)) ⊎ ((eqb a i ≡ false) × (a ≡ i → ⊥)) → ((eqb b i ≡ true) × (b ≡ i)) ⊎ ((eqb b i ≡ false) × (b ≡ i → ⊥)) → Split i a b
      go (inl p) (inl q) = subst (λ (x : ℕ). Split i x b) (sym p.1) (subst (λ (x : ℕ). Split i i x) (sym q.1) (split_both i))
      go (inl p) (inr q) = subst (λ (x : ℕ). Split i x b) (sym p.1) (split_first i b q.1)
      go (inr p) (inl q) = subst (λ (x : ℕ). Split i a x) (sym q.1) (split_second i a p.1)
      go (inr p) (inr q) = split_neither i a b p.1 q.1

  u_v : (i j : ℕ) → IsTrue (lighter j i || lighter i j) → wins_first i j + wins_second i j ≡ 2 * more i j + same i j
  u_v i j t = go (eqb j i) (lighter j i) (lighter i j) t
    where
      go : (e p q : Bool) → IsTrue (p || q) → one_if (not e && q) + one_if (not e && not p) ≡ 2 * one_if (not e && not p) + one_if (not e && (p && q))
      go true p q t = refl
      go false true true t = refl
      go false true false t = refl
      go false false true t = refl
      go false false false t = cc

  kept_row : (n : ℕ) (t : Bool) (f : ℕ → ℕ) → sum_below n (λ b. cond t (f b) 0) ≡ cond t (sum_below n f) 0
  kept_row n true f = refl
  kept_row n false f = sum_zero n

  row : (n i a : ℕ) → i < n → sum_below n (apart (wins i) a) ≡ cond (eqb a i) (sum_below n (wins_first i)) 0 + wins_second i a
  row n i a h =
      sum_ext n (apart (wins i) a) (λ b. cond (eqb a i) (wins_first i b) 0 + cond (eqb b i) (wins_second i a) 0) (λ b k. split i a b)
      ∙ sum_add n (λ b. cond (eqb a i) (wins_first i b) 0) (λ b. cond (eqb b i) (wins_second i a) 0)
      ∙ ap₂ (λ x y. x + y) (kept_row n (eqb a i) (wins_first i)) (sum_at n i (λ b. wins_second i a) h)

  all_rows : (n i : ℕ) → i < n → sum_below n (λ a. sum_below n (apart (wins i) a)) ≡ sum_below n (wins_first i) + sum_below n (wins_second i)
  all_rows n i h =
      sum_ext n (λ a. sum_below n (apart (wins i) a)) (λ a. cond (eqb a i) (sum_below n (wins_first i)) 0 + wins_second i a) (λ a k. row n i a h)
      ∙ sum_add n (λ a. cond (eqb a i) (sum_below n (wins_first i)) 0) (wins_second i)
      ∙ ap (λ x. x + sum_below n (wins_second i)) (sum_at n i (λ a. sum_below n (wins_first i)) h)

  -- 2H + E of the remainder pairs draw the place i
  pub share : (m i : ℕ) → i < suc m → ((j : ℕ) → j < suc m → IsTrue (lighter j i || lighter i j)) →
      sum_below m (λ x. sum_below (suc m) (λ y. one_if (eqb (winner lighter (cond (eqb x y) m x) y) i))) ≡ 2 * sum_below (suc m) (more i) + sum_below (suc m) (same i)
  share m i h total =
      pairs_are_places m (wins i)
      ∙ all_rows (suc m) i h
      ∙ sym (sum_add (suc m) (wins_first i) (wins_second i))
      ∙ sum_ext (suc m) (λ j. wins_first i j + wins_second i j) (λ j. 2 * more i j + same i j) (λ j k. u_v i j (total j k))
      ∙ sum_add (suc m) (λ j. 2 * more i j) (same i)
      ∙ ap (λ x. x + sum_below (suc m) (same i)) (sum_twice (suc m) (more i))

-- ---- the statements

all_pairs : (n : ℕ) → count_pairs n (λ x y. true) ≡ n * (n - 1)
all_pairs n = sum_const (n - 1) (sum_below n (λ i. 1)) ∙ ap (λ (k : ℕ). (n - 1) * k) (sum_const n 1 ∙ mul-one n) ∙ mul_comm (n - 1) n

nothing : (t : Bool) → ◌≡◌ {A = ℕ} (cond t 0 0) 0
nothing true = refl
nothing false = refl

module _ (n a b : ℕ) (two : TwoBelow n a b) where
  -- 1 at the places a and b, and 0 elsewhere
  abbrev here : ℕ → ℕ → ℕ
  here p q = one_if (eqb p a && eqb q b)

  row_at : (i j : ℕ) → i ≡ a → apart here i j ≡ cond (eqb j b) 1 0
  row_at i j e = go (eqb_tells j b)
    where
      go : ((eqb j b ≡ true) × (j ≡ b)) ⊎ ((eqb j b ≡ false) × (j ≡ b → ⊥)) → apart here i j ≡ cond (eqb j b) 1 0
      go (inl t) = let d : eqb i j ≡ false = ne_eqb i j (λ q. two.differ (sym e ∙ q ∙ t.1)) in rw (d, eq-eqb i a e, t.0) refl
      go (inr t) = rw (eq-eqb i a e, t.0) (nothing (eqb i j))

  row_off : (i j : ℕ) → eqb i a ≡ false → apart here i j ≡ 0
  row_off i j e = rw e (nothing (eqb i j))

  one_row_only : (i : ℕ) → sum_below n (apart here i) ≡ cond (eqb i a) 1 0
  one_row_only i = go (eqb_tells i a)
    where
      go : ((eqb i a ≡ true) × (i ≡ a)) ⊎ ((eqb i a ≡ false) × (i ≡ a → ⊥)) → sum_below n (apart here i) ≡ cond (eqb i a) 1 0
      go (inl t) = rw t.0 (sum_ext n (apart here i) (λ j. cond (eqb j b) 1 0) (λ j h. row_at i j t.1) ∙ sum_at n b (λ j. 1) two.second)
      go (inr t) = rw t.0 (sum_ext n (apart here i) (λ j. 0) (λ j h. row_off i j t.0) ∙ sum_zero n)

  one_cell : sum_below n (λ i. sum_below n (apart here i)) ≡ 1
  one_cell = sum_ext n (λ i. sum_below n (apart here i)) (λ i. cond (eqb i a) 1 0) (λ i h. one_row_only i) ∙ sum_at n a (λ i. 1) two.first

pub one_pair_each : (n : ℕ) → 2 ≤ n → OnePairEach n
one_pair_each n h = record {
  all = all_pairs n;
  each = λ a b two.
      let e : n ≡ suc (n - 1) = omega arith in
      ap (λ (k : ℕ). sum_below (n - 1) (λ x. sum_below k (λ y. one_if (gives n a b x y)))) e
      ∙ pairs_are_places (n - 1) (here n a b two)
      ∙ ap (λ (k : ℕ). sum_below k (λ i. sum_below k (apart (here n a b two) i))) (sym e)
      ∙ one_cell n a b two;
}

pub fair_shares : (n : ℕ) → 2 ≤ n → FairShares n
fair_shares n h lighter total i lt =
    let e : n ≡ suc (n - 1) = omega arith in
    ap (λ (k : ℕ). sum_below (n - 1) (λ x. sum_below k (λ y. one_if (eqb (winner_of_pair lighter n x y) i)))) e
    ∙ share lighter (n - 1) i (omega arith) (λ j hj. total j i (omega arith) lt)
    ∙ ap (λ (k : ℕ). 2 * heavier_count lighter k i + equal_count lighter k i) (sym e)

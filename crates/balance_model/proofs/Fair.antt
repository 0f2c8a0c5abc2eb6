-- Each draw is fair.
use Rattle.lists.proofs.Places.{at_some, at_set_other}
use Rattle.rng.specs.Pairs.{first_place}
use Rattle.rng.specs.Shares.{winner, winner_of_pair, TotalBelow}
use Rattle.rng.proofs.Shares.{one_pair_each, fair_shares}
use Rattle.rng.proofs.Floyd.{two_below}
use Rattle.service.specs.Meaning.{Endpoints, Weights}
use Rattle.cache_model.specs.declared.entry.Entry.{Entry}
use Rattle.cache_model.specs.Entries.{with_endpoint}
use Rattle.cache_model.specs.Cache.{Cache}
use Rattle.balance_model.specs.Draw.{weigh}
use Rattle.balance_model.specs.Promise.{not_heavier_at, DrawFair}
use Rattle.std.proofs.Common.{◌≡◌, ℕ, ◌-◌, ◌%◌, ◌<◌, ◌≤◌, List, [], ◌∷◌, length, set, Some, refl, ◌∙◌, mod-lt, arith, slice_get}

module _ {K S Q A E W : Type 0} (ends : Endpoints S Q A E W) (weights : Weights W) (now : ℕ) where
  -- reading a load leaves the others, and answers the weight
  weigh_place : (c : Cache K S) (a b : ℕ) → a < length c.ready → b < length c.ready → (a ≡ b → ⊥) → (weigh ends weights now c a b).place ≡ winner (not_heavier_at ends weights now c.ready) a b
  weigh_place c a b ha hb n =
      let e = at_some c.ready a ha in
      let f = at_some c.ready b hb in
      let other : slice_get (set c.ready a (with_endpoint e.0 (ends.load e.0.endpoint now))) b ≡ Some f.0 = at_set_other c.ready a b _ n ∙ f.1 in
      rw e.1 (rw other (rw f.1 refl))

  -- totality, between two ready workers
  compared : (rs : List (Entry K S)) → TotalBelow (length rs) (not_heavier_at ends weights now rs)
  compared rs i j hi hj =
      let e = at_some rs i hi in
      let f = at_some rs j hj in
      rw (e.1, f.1) (weights.total (ends.weight e.0.endpoint now) (ends.weight f.0.endpoint now))

  -- the place that a remainder pair draws
  by_pair : (c : Cache K S) (x y : ℕ) → x < length c.ready - 1 → y < length c.ready → (weigh ends weights now c (first_place (length c.ready) x y) y).place ≡ winner_of_pair (not_heavier_at ends weights now c.ready) (length c.ready) x y
  by_pair c x y hx hy =
      let two = two_below (length c.ready) x y hx hy in
      weigh_place c (first_place (length c.ready) x y) y two.first two.second two.differ

  -- a draw by two words, among two or more
  pub fair : (c : Cache K S) (v w : ℕ) → 2 ≤ length c.ready →
      let n = length c.ready in
      DrawFair ends weights now (record { before = c.ready; words = v ∷ w ∷ []; place = (weigh ends weights now c (first_place n (v % (n - 1)) (w % n)) (w % n)).place })
  fair c v w h = record {
    among = h;
    first = v;
    second = w;
    words = refl;
    drawn = by_pair c (v % (length c.ready - 1)) (w % length c.ready) (mod-lt _ (omega arith)) (mod-lt _ (omega arith));
    pairs = one_pair_each (length c.ready) h;
    shares = λ i hi. fair_shares (length c.ready) h (not_heavier_at ends weights now c.ready) (compared c.ready) i hi;
  }

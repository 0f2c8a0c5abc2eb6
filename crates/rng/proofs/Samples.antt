-- What Floyd's algorithm says of a sample.
use Rattle.std.proofs.Common.{◌≡◌, ℕ, ◌-◌, ◌%◌, ◌≤◌, false, ltb, List, [], ◌∷◌, get_or, sym, subst, mod-lt, arith}
use Rattle.std.proofs.lemmas.Bool.{le-ltb}
use Rattle.rng.specs.Pairs.{places, TwoBelow}
use Rattle.rng.specs.Floyd.{floyd, SameSet}
use Rattle.rng.proofs.Floyd.{floyd_two, two_below}
use Rattle.rng.proofs.Shares.{fair_shares}
use Rattle.rng.specs.Words.{Words, nth_word, remainders, sample}

module _ {R : Type 0} (source : Words R) (r : R) (n : ℕ) (xs : List ℕ) (is : xs ≡ (sample source r n).answer) where
  abbrev first : ℕ
  first = nth_word source r 0 % (n - 1)

  abbrev second : ℕ
  second = nth_word source r 1 % n

  xs_is : 2 ≤ n → xs ≡ places n first second
  xs_is h = let big : ltb n 2 ≡ false = le-ltb n 2 h in rw big at is

  pub of_floyd : 2 ≤ n → SameSet xs (floyd n (remainders source r n))
  of_floyd h = subst (λ (zs : List ℕ). SameSet zs (floyd n (first ∷ second ∷ []))) (sym (xs_is h)) (floyd_two n first second h)

  pub different : 2 ≤ n → TwoBelow n (get_or xs 0 0) (get_or xs 1 0)
  different h = subst (λ (zs : List ℕ). TwoBelow n (get_or zs 0 0) (get_or zs 1 0)) (sym (xs_is h)) (two_below n first second (mod-lt _ (omega arith)) (mod-lt _ (omega arith)))

-- what the proof of `sample_floyd2` takes
pub ruleset two_places = (of_floyd, different, fair_shares)

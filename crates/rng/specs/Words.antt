-- What a source of words means, and what the functions over any source take from it.
use Rattle.std.specs.Prelude.{ℕ, zero, suc, ◌+◌, ◌-◌, ◌%◌, if◌then◌else◌, List, [], ◌∷◌, nat_lt}
use Rattle.lists.specs.Outcome.{Outcome, outcome}
use Rattle.rng.specs.Pairs.{places_of_words}

-- a source of words: the word that it gives, and the value that it leaves
pub record Words (R : Type 0) : Type 0 where
  pub word : R → Outcome ℕ R

module _ {R : Type 0} (source : Words R) where
  -- the word that comes after k others
  abbrev pub nth_word : R → ℕ → ℕ
  nth_word r zero = (source.word r).answer
  nth_word r (suc k) = nth_word (source.word r).after k

  -- what is left of the source after two words
  abbrev pub after_two : R → R
  after_two r = (source.word (source.word r).after).after

  -- a number from start up, below end: start plus a word modulo the length of the range
  abbrev pub in_range : R → ℕ → ℕ → Outcome ℕ R
  in_range r start end =
      if nat_lt start end
      then outcome (start + (source.word r).answer % (end - start)) (source.word r).after
      else outcome start r

  -- the remainders that two words leave for a sample of two among n
  abbrev pub remainders : R → ℕ → List ℕ
  remainders r n = nth_word r 0 % (n - 1) ∷ nth_word r 1 % n ∷ []

  -- a sample of two among n takes two words; below two places it takes none
  abbrev pub sample : R → ℕ → Outcome (List ℕ) R
  sample r n =
      if nat_lt n 2
      then outcome (0 ∷ 0 ∷ []) r
      else outcome (places_of_words n (nth_word r 0) (nth_word r 1)) (after_two r)

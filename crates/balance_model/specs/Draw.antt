-- A draw: two places by two words, and of these the lighter.
-- Types: keys K, workers S with requests Q, responses A, errors E and weights W, a source of words R.
use Rattle.std.specs.Net.Reader.{map_or}
use Rattle.std.specs.Prelude.{ℕ, ◌-◌, ◌%◌, if◌then◌else◌, List, [], ◌∷◌, length, nat_lt}
use Rattle.rng.specs.Pairs.{first_place}
use Rattle.rng.specs.Words.{Words, nth_word, after_two}
use Rattle.service.specs.Meaning.{Endpoints, Weights}
use Rattle.cache_model.specs.declared.entry.Entry.{Entry}
use Rattle.cache_model.specs.Cache.{Cache, load}

-- which of two places wins, and the cache with both loads read
pub record WeightOutcome (K S : Type 0) : Type 0 where
  pub place : ℕ
  pub cache : Cache K S

-- a draw as it was made: the ready list before it, the words that it took, and the place drawn
pub record Draw (K S : Type 0) : Type 0 where
  pub before : List (Entry K S)
  pub words : List ℕ
  pub place : ℕ

-- the draw that was made, and what it leaves: the cache with the loads read, and the source of words
pub record DrawOutcome (K S R : Type 0) : Type 0 where
  pub made : Draw K S
  pub cache : Cache K S
  pub words : R

module _ {K S Q A E W : Type 0} (ends : Endpoints S Q A E W) (weights : Weights W) (now : ℕ) where
  -- a's load is read before b's, and a wins if it is not heavier
  abbrev pub weigh : Cache K S → ℕ → ℕ → WeightOutcome K S
  weigh c a b =
      let first = load ends now c a in
      let second = load ends now first.after b in
      record {
        place = map_or first.answer a (λ v.
            map_or second.answer a (λ w. if weights.not_heavier v w then a else b));
        cache = second.after;
      }

  -- one ready worker is taken without a word; of two or more, the lighter of the two sampled ones
  abbrev pub draw : {R : Type 0} → Words R → Cache K S → R → DrawOutcome K S R
  draw source c r =
      let n : ℕ = length c.ready in
      let v : ℕ = nth_word source r 0 in
      let w : ℕ = nth_word source r 1 in
      let won = weigh c (first_place n (v % (n - 1)) (w % n)) (w % n) in
      if nat_lt n 2
      then record { made = record { before = c.ready; words = []; place = 0 }; cache = c; words = r }
      else record {
        made = record { before = c.ready; words = v ∷ w ∷ []; place = won.place };
        cache = won.cache;
        words = after_two source r;
      }

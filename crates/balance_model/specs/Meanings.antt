-- The meanings of all the kinds that a balancer is made over, together.
use Rattle.rng.specs.Words.{Words}
use Rattle.service.specs.Meaning.{Sameness, Weights, Endpoints}
use Rattle.discover.specs.Feeds.{Feeds}

-- keys K, workers S with requests Q, responses A, errors E and weights W, a feed D with errors F,
-- and a source of words R
pub record Meanings (K S Q A E W D F R : Type 0) : Type 0 where
  pub keys : Sameness K
  pub endpoints : Endpoints S Q A E W
  pub weights : Weights W
  pub feeds : Feeds D K S F
  pub words : Words R

-- the same, from its parts
abbrev pub meanings_of : {K S Q A E W D F R : Type 0} → Sameness K → Endpoints S Q A E W → Weights W →
    Feeds D K S F → Words R → Meanings K S Q A E W D F R
meanings_of keys endpoints weights feeds words = record {
  keys = keys;
  endpoints = endpoints;
  weights = weights;
  feeds = feeds;
  words = words;
}

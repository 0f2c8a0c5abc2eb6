-- Costs: the weight of an estimate, and the order of weights.
use Rattle.std.specs.Prelude.{ℕ, ◌+◌, Float}
use Rattle.std.proofs.lemmas.Float.{T_from_true}
use lib.Ieee.Bits.{is_true}
use Rattle.service.specs.Meaning.{Weights}
use Rattle.rounding.specs.Floats.{nearest, up_to, ◌⊗◌}
use Rattle.rounding.proofs.Order.{up_to_total, up_to_chain}
use Rattle.load.specs.declared.cost.Cost.{Cost}

-- the weight of an estimate with so many requests out: each of them and one more takes that long
abbrev pub cost : Float → ℕ → Cost
cost estimate count = record { nanos = estimate ⊗ nearest (count + 1) }

-- the order of numbers, with what is not a number heaviest
abbrev pub costs : Weights Cost
costs = record {
  not_heavier = λ a b. up_to a.nanos b.nanos;
  total = λ a b. is_true _ (up_to_total a.nanos b.nanos);
  transitive = λ a b c h k.
      is_true _ (up_to_chain a.nanos b.nanos c.nanos (T_from_true _ h) (T_from_true _ k));
}

-- The lists of the numbers below another, one after the other.
use Rattle.std.proofs.Common.{◌≡◌, ℕ, ◌+◌, ◌*◌, List, [], ◌++◌, None, Option, refl, ap, ◌∙◌, add-one, arith}
use Rattle.std.specs.declared.num.NonZeroU32.{NonZeroU32}
use Rattle.cycles.specs.Shape.{number_of, each_below, turn, round}
use Rattle.cycles.specs.Cycles.{nearest_u32}

pub none_below : {A : Type 0} (f : ℕ → List A) → each_below 0 f ≡ []
unfolding each_below
none_below f = refl

pub one_more_below : {A : Type 0} (n : ℕ) (f : ℕ → List A) →
    each_below (n + 1) f ≡ each_below n f ++ f n
unfolding each_below
one_more_below n f = rw add-one

none_of_none : {A : Type 0} (n : ℕ) (f : ℕ → List A) → n ≡ 0 → each_below n f ≡ []
none_of_none n f is = ap (λ (k : ℕ). each_below k f) is ∙ none_below f

-- where none leaves, the round is empty
pub no_round : (workers unready : ℕ) (every : Option NonZeroU32) → every ≡ None →
    round workers unready (number_of every) ≡ []
no_round workers unready every is =
    ap (λ (o : Option NonZeroU32). round workers unready (number_of o)) is
    ∙ none_of_none (nearest_u32 (0 * workers)) (turn workers unready 0) (omega arith)

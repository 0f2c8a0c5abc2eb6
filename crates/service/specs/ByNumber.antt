-- Keys and weights that are told by a number.
use Rattle.std.specs.Prelude.{ℕ, ◌==◌, nat_le, refl}
use Rattle.std.proofs.lemmas.Bool.{eq-eqb}
use Rattle.lists.proofs.Orders.{eqb_symmetric, eqb_transitive, leb_total, leb_transitive}
use Rattle.service.specs.Meaning.{Sameness, Weights}

-- keys with a number are the same if their numbers are equal
abbrev pub same_number : {K : Type 0} → (K → ℕ) → Sameness K
same_number number = record {
  same = λ a b. (number a == number b);
  reflexive = λ a. eq-eqb (number a) (number a) refl;
  symmetric = λ a b. eqb_symmetric (number a) (number b);
  transitive = λ a b c. eqb_transitive (number a) (number b) (number c);
}

-- weights with a number: the one of the smaller number, or of an equal one, is not heavier
abbrev pub by_number : {W : Type 0} → (W → ℕ) → Weights W
by_number number = record {
  not_heavier = λ a b. nat_le (number a) (number b);
  total = λ a b. leb_total (number a) (number b);
  transitive = λ a b c. leb_transitive (number a) (number b) (number c);
}

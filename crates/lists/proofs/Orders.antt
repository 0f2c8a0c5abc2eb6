-- Numbers under the tests "equal" and "at most".
use Rattle.std.proofs.Common.{ℕ, ◌<◌, ◌≤◌, Bool, true, false, ◌||◌, IsTrue, T, eqb, leb, ◌⊎◌, sym, ◌∙◌, inl, inr, arith, leb-true, le-leb, eqb-true, eq-eqb}
use Rattle.std.proofs.lemmas.Bool.{cases_lt, or_left, or_right}

pub eqb_symmetric : (a b : ℕ) → IsTrue (eqb a b) → IsTrue (eqb b a)
eqb_symmetric a b h = eq-eqb b a (sym (eqb-true a b h))

pub eqb_transitive : (a b c : ℕ) → IsTrue (eqb a b) → IsTrue (eqb b c) → IsTrue (eqb a c)
eqb_transitive a b c h k = eq-eqb a c (eqb-true a b h ∙ eqb-true b c k)

pub or_first : (x y : Bool) → T x → T (x || y)
or_first true y h = tt
or_first false y h = elim h [ ]

pub or_second : (x y : Bool) → T y → T (x || y)
or_second true y h = tt
or_second false y h = h

pub leb_total : (a b : ℕ) → IsTrue (leb a b || leb b a)
leb_total a b = go (cases_lt a b)
  where
    go : (a < b) ⊎ (b ≤ a) → IsTrue (leb a b || leb b a)
    go (inl h) = or_left (leb a b) (leb b a) (le-leb a b (omega arith))
    go (inr h) = or_right (leb a b) (leb b a) (le-leb b a h)

pub leb_transitive : (a b c : ℕ) → IsTrue (leb a b) → IsTrue (leb b c) → IsTrue (leb a c)
leb_transitive a b c h k = le-leb a c (omega (arith, leb-true a b h, leb-true b c k))

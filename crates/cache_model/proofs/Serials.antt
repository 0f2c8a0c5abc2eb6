-- Numbers that tell a serial, and a serial with a count.
use Rattle.std.proofs.Common.{ℕ, ◌≤◌, Bool, true, false, ◌&&◌, eqb, arith}
use Rattle.lists.specs.Sums.{one_if}

-- this serial; this serial with this count
abbrev pub is_serial : ℕ → ℕ → ℕ → ℕ
is_serial s s' n' = one_if (eqb s' s)

abbrev pub is_pair : ℕ → ℕ → ℕ → ℕ → ℕ
is_pair s n s' n' = one_if (eqb s' s && eqb n' n)

pub pair_serial : (s n s' n' : ℕ) → is_pair s n s' n' ≤ is_serial s s' n'
pair_serial s n s' n' = go (eqb s' s) (eqb n' n)
  where
    go : (p q : Bool) → one_if (p && q) ≤ one_if p
    go true true = omega arith
    go true false = omega arith
    go false q = omega arith

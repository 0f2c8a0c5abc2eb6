-- Two functions that say which share of an estimate is kept at a number x: all of it where x is not
-- below zero.
use Rattle.std.specs.Prelude.{ℕ, suc, ◌*◌, ◌/◌, true, false, if◌then◌else◌, pos, neg_ℤ, nat_lt, Float}
use Rattle.std.specs.Float.{nan, inf, fin}
use Rattle.std.specs.Float.Ieee.{up, down, lt, le}
use Rattle.rounding.specs.Floats.{zero, one, ◌⊕◌, ◌⊗◌, ◌⊘◌}

-- 2 ^ -k, and 0 from k = 1075 on, where no number of 64 bits is as small
abbrev pub half_power : ℕ → Float
half_power k = if nat_lt k 1075 then fin false 1 (neg_ℤ (pos k)) else zero

-- below zero 2 ^ -k, k the whole part of -x
abbrev pub halving : Float → Float
halving nan = one
halving (inf false) = one
halving (inf true) = zero
halving (fin false m e) = one
halving (fin true m e) = half_power (m * up e / down e)

-- 1024
abbrev pub kilo : Float
kilo = fin false 1 (pos 10)

-- x, squared n times
unfoldable pub nth_square : ℕ → Float → Float
nth_square ℕ.zero x = x
nth_square (suc n) x = nth_square n (x ⊗ x)

-- below zero 1 + x / 1024, squared ten times; 0 up to -1024
abbrev pub squaring : Float → Float
squaring x =
    if lt x zero
    then if le x (fin true 1 (pos 10)) then zero else nth_square 10 (one ⊕ x ⊘ kilo)
    else one

-- Floating-point values of the worked cases, computed.
use Rattle.std.proofs.Common.{◌≡◌, ◌^◌, false, pos, refl, sym, ◌∙◌}
use lib.Ieee.{fin, of_int, neg, add, sub, mul, div, lt, of_bits, to_bits}
use Rattle.rounding.specs.Floats.{nearest}
use Rattle.load.specs.Estimates.{nanos}
use Rattle.worked_cases.specs.Estimates.{weight_at_two_seconds, estimate_at_two_seconds}

rounded_left : nanos 9007199254740993 ≡ fin false 1 (pos 53)
unfolding add of_int
rounded_left = refl

rounded_right : nearest 9007199254740992 ≡ fin false 1 (pos 53)
unfolding of_int
rounded_right = refl

pub rounded_is : nanos 9007199254740993 ≡ nearest 9007199254740992
rounded_is = rounded_left ∙ sym rounded_right

weight_left : weight_at_two_seconds ≡ fin false 1953125 (pos 9)
unfolding of_int neg add sub mul div lt of_bits to_bits
weight_left = refl

weight_right : nearest (10 ^ 9) ≡ fin false 1953125 (pos 9)
unfolding of_int
weight_right = refl

pub weight_is : weight_at_two_seconds ≡ nearest (10 ^ 9)
weight_is = weight_left ∙ sym weight_right

estimate_left : estimate_at_two_seconds ≡ fin false 4296875 (pos 7)
unfolding of_int neg add sub mul div lt of_bits to_bits
estimate_left = refl

estimate_right : nearest 550000000 ≡ fin false 4296875 (pos 7)
unfolding of_int
estimate_right = refl

pub estimate_is : estimate_at_two_seconds ≡ nearest 550000000
estimate_is = estimate_left ∙ sym estimate_right

use Rattle.std.proofs.Common.{◌≡◌, ◌-◌, ◌*◌, ◌%◌, ◌^◌, ◌<◌, ap, ◌∙◌, arith}
use lib.Pow.{pow-lt}
use lib.Ieee.{binary64, of_bits}
use Rattle.rounding.proofs.Values.{number_bits}
use Rattle.rounding.proofs.Shares.{half_normal, half_small}
use Rattle.load.proofs.decay.half_power.Goals as goal

pub float_from_bits-result : goal.float_from_bits-result
float_from_bits-result c = number_bits binary64 ((1023 - c.args.k) * 2 ^ 52 % 2 ^ 64) (omega arith)

pub float_from_bits-result-then-k-lt1075 : goal.float_from_bits-result-then-k-lt1075
float_from_bits-result-then-k-lt1075 c =
    let k = c.args.k in
    let l : 2 ^ (1074 - k) < 2 ^ 52 = pow-lt {i = 1074 - k} {j = 52} (omega arith) in
    number_bits binary64 (1 * 2 ^ (1074 - k) % 2 ^ 64) (omega arith)

pub returns-then-k-lt1023 : goal.returns-then-k-lt1023
returns-then-k-lt1023 c =
    let k = c.args.k in
    let e : (1023 - k) * 2 ^ 52 % 2 ^ 64 ≡ (1023 - k) * 2 ^ 52 = omega arith in
    ap (of_bits binary64) e ∙ half_normal k c.if-k-lt1023.true

pub returns-then-k-lt1075 : goal.returns-then-k-lt1075
returns-then-k-lt1075 c =
    let k = c.args.k in
    let l : 2 ^ (1074 - k) < 2 ^ 52 = pow-lt {i = 1074 - k} {j = 52} (omega arith) in
    let e : 1 * 2 ^ (1074 - k) % 2 ^ 64 ≡ 2 ^ (1074 - k) = omega arith in
    ap (of_bits binary64) e ∙ half_small k c.if-k-lt1023.false c.if-k-lt1075.true

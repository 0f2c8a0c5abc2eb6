-- What the proofs of the two kinds take.
use Rattle.rounding.proofs.Shares.{halving_below, halving_whole, squaring_whole, squaring_none, squaring_between, square_one, square_zero, square_step, square_done, zero_bits, one_bits, kilo_bits, less_kilo_bits}

pub ruleset halving_steps = (halving_below, halving_whole, zero_bits)

pub ruleset squaring_steps = (squaring_whole, squaring_none, squaring_between, square_one, square_zero, zero_bits, one_bits, kilo_bits, less_kilo_bits)

pub ruleset square_steps = (square_step, square_done)

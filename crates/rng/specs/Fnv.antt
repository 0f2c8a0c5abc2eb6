-- The hash FNV-1a of 64 bits, from its public description (Fowler, Noll, Vo).
use Rattle.std.specs.Prelude.{ℕ, ◌*◌, ◌%◌, ◌^◌, List, fold, bit_xor}

-- one byte: exclusive or with the hash, and then times the prime, modulo 2^64
abbrev pub fnv_step : ℕ → ℕ → ℕ
fnv_step hash byte = bit_xor hash byte * 1099511628211 % 2 ^ 64

-- the hash of bytes starts at the offset basis
abbrev pub fnv_1a : List ℕ → ℕ
fnv_1a bytes = fold fnv_step 14695981039346656037 bytes

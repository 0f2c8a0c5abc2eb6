-- The two sources of words: a list that starts over, and the hash of a counter.
use Rattle.std.specs.Prelude.{ℕ, ◌+◌, ◌/◌, ◌%◌, ◌^◌, if◌then◌else◌, List, [], ◌∷◌, length, nat_lt, slice_index}
use Rattle.std.specs.Borrow.{Bor}
use Rattle.lists.specs.Outcome.{outcome}
use Rattle.rng.specs.declared.hasher_rng.HasherRng.{HasherRng}
use Rattle.rng.specs.declared.list_rng.ListRng.{ListRng}
use Rattle.rng.specs.Words.{Words}
use Rattle.rng.specs.Fnv.{fnv_1a}

-- ---- a list

-- the place of the next word, after the one at a place; after the last comes the first
abbrev pub next_place : List ℕ → ℕ → ℕ
next_place words i = if nat_lt (i + 1) (length words) then i + 1 else 0

-- the word at the place, 0 where there is none
abbrev pub list_words : Words ListRng
list_words = record {
  word = λ r.
      outcome
      (slice_index r.words.now r.next)
      (record r { next = next_place r.words.now r.next });
}

-- a newly made source: the first word is next
abbrev pub list_start : Bor (List ℕ) → ListRng
list_start words = record { words = words; next = 0 }

-- ---- a counter

-- the eight bytes of a number, low byte first
abbrev pub bytes_of : ℕ → List ℕ
bytes_of n =
    n % 256 ∷ n / 2 ^ 8 % 256 ∷ n / 2 ^ 16 % 256 ∷ n / 2 ^ 24 % 256
    ∷ n / 2 ^ 32 % 256 ∷ n / 2 ^ 40 % 256 ∷ n / 2 ^ 48 % 256 ∷ n / 2 ^ 56 % 256 ∷ []

-- the hash of the counter's bytes; the counter goes up by one, and from 2^64 - 1 to 0
abbrev pub hasher_words : Words HasherRng
hasher_words = record {
  word = λ r.
      outcome
      (fnv_1a (bytes_of r.counter))
      (record { counter = (r.counter + 1) % 2 ^ 64 });
}

-- a newly made source: its counter is at 0
abbrev pub hasher_start : HasherRng
hasher_start = record { counter = 0 }

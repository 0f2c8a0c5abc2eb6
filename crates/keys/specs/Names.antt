-- Names: which texts are names, how they are packed, and when two are the same.
use Rattle.std.specs.Prelude.{◌≡◌, ℕ, Bool, if◌then◌else◌, ◌&&◌, List, map, length, Ok, Err, Decides, Result, nat_le, nat_lt}
use Rattle.std.proofs.Math.Utf8.{encodes}
use Rattle.std.specs.List.{list_all}
use Rattle.std.specs.Char.{is_ascii_alphanumeric, to_ascii_lowercase}
use Rattle.std.specs.Int.Digits.{number_from_digits, digits_of}
use Rattle.service.specs.declared.refusal.Invalid.{Invalid}
use Rattle.service.specs.declared.refusal.Invalid.TheVariants as invalid
use Rattle.service.specs.Meaning.{Sameness}
use Rattle.service.specs.ByNumber.{same_number}
use Rattle.keys.specs.declared.name.Name.{Name}

-- whether each byte is an ASCII letter or digit
abbrev pub letters_or_digits : List ℕ → Bool
letters_or_digits text = list_all is_ascii_alphanumeric text

-- one to eight ASCII letters or digits
abbrev pub is_name : List ℕ → Bool
is_name text = (nat_lt 0 (length text) && nat_le (length text) 8) && letters_or_digits text

-- the text with its letters small
abbrev pub without_case : List ℕ → List ℕ
without_case text = map to_ascii_lowercase text

-- the bytes as the digits of a number in base 256, the first the highest
abbrev pub number_of_bytes : List ℕ → ℕ
number_of_bytes bytes = number_from_digits 256 bytes

-- the name of a text, which is to be one
abbrev pub name_of : List ℕ → Name
name_of text = record {
  letters = number_of_bytes text;
  folded = number_of_bytes (without_case text);
}

-- the name that is made of a text, or the refusal
abbrev pub new_name : List ℕ → Result Name Invalid
new_name text = if is_name text then Ok (name_of text) else Err invalid.Name

-- the text that is printed of packed bytes, one character for each
abbrev pub text_of_number : ℕ → List ℕ
text_of_number letters = encodes (digits_of 256 letters)

-- the text that is printed of a name
abbrev pub text_of : Name → List ℕ
text_of name = text_of_number name.letters

-- names are the same key where they are equal in lower case
abbrev pub names : Sameness Name
names = same_number (λ name. name.folded)

-- n, a name of this text, is the same as a name that is made of any other text exactly if the texts
-- are equal without case
abbrev pub SameWithoutCase : List ℕ → Name → Type 0
SameWithoutCase text n =
    (other : List ℕ) (m : Name) → new_name other ≡ Ok m →
    Decides (names.same n m) (without_case text ≡ without_case other)

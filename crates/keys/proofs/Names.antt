-- Texts packed in numbers, and back.
use Rattle.std.proofs.Common.{◌≡◌, ℕ, zero, suc, ◌+◌, ◌-◌, ◌*◌, ◌/◌, ◌%◌, ◌^◌, ◌<◌, ◌≤◌, Bool, true, false, cond, ◌&&◌, eqb, ltb, leb, List, [], ◌∷◌, ◌++◌, length, get_or, take, drop, Ok, Err, Decides, Result, sym, refl, ap, ◌∙◌, subst, ap₂, append_assoc, append-nil, arith, lit<, length-take}
use Rattle.std.proofs.Math.Nat.{pow-le-pow_right, pow-suc, pow-succ', mul-suc, zero-add, suc-add, div-div-eq-div-mul}
use Rattle.std.specs.Int.{w64, byte_at, bytes_high_first, to_be_bytes, leading_zeros}
use lib.Utf8.{encode, encodes}
use Rattle.std.specs.Char.{is_ascii_alphanumeric, to_ascii_lowercase}
use Rattle.std.specs.List.{AllByRecursion as All}
use Rattle.std.specs.Int.Digits.{number_from_digits_after, digits_of}
use Rattle.std.specs.Fmt.{WritesOnOk}
use Rattle.std.specs.declared.fmt.Error.{Error}
use Rattle.std.specs.declared.fmt.Formatter.{Formatter}
use Rattle.std.proofs.Output.{writes_on_IsOk-append}
use Rattle.std.proofs.lemmas.Str.Ascii.{encodes-IsAscii}
use Rattle.std.proofs.ByRecursion.{IsAscii-from_all}
use Rattle.std.proofs.lemmas.Nat.{div-mul-add, mod-mul-add, pow-add, leading_length}
use Rattle.std.proofs.lemmas.Int.Digits.{digits_of_step, number_lt, number_push}
use Rattle.std.proofs.lemmas.List.{map_push, take_more, take_all, length-map}
use Rattle.std.proofs.lemmas.Str.{encodes-append}
use Rattle.std.proofs.lemmas.Bool.{and_parts, and_from, eqb-true, eq-eqb}
use Rattle.std.proofs.lemmas.Bool.Decides.{nat_tests}
use Rattle.service.specs.declared.refusal.Invalid.TheVariants as invalid
use Rattle.keys.specs.declared.name.Name.{Name}
use Rattle.keys.specs.Names.{letters_or_digits, is_name, without_case, number_of_bytes, name_of, new_name, text_of, names, SameWithoutCase}

-- ---- the bytes of a name

abbrev Byte : ℕ → Type 0
Byte b = (0 < b) × (b < 128)

alnum_byte : (b : ℕ) → is_ascii_alphanumeric b ≡ true → Byte b
alnum_byte b h = grind (arith, nat_tests)

lower_byte : (b : ℕ) → is_ascii_alphanumeric b ≡ true → Byte (to_ascii_lowercase b)
lower_byte b h = grind (arith, nat_tests)

bytes : (xs : List ℕ) → letters_or_digits xs ≡ true → All Byte xs
bytes [] h = tt
bytes (x ∷ xs) h = let p = and_parts (is_ascii_alphanumeric x) (letters_or_digits xs) h in (alnum_byte x p.0, bytes xs p.1)

lower_bytes : (xs : List ℕ) → letters_or_digits xs ≡ true → All Byte (without_case xs)
lower_bytes [] h = tt
lower_bytes (x ∷ xs) h = let p = and_parts (is_ascii_alphanumeric x) (letters_or_digits xs) h in (lower_byte x p.0, lower_bytes xs p.1)

each_below : (n : ℕ) → 128 ≤ n → (xs : List ℕ) → All Byte xs → All (λ d. d < n) xs
each_below n h [] p = tt
each_below n h (x ∷ xs) p = (omega (arith, p.0.1), each_below n h xs p.1)

-- seven of them, packed, leave place for one more
seven_below : (xs : List ℕ) → All Byte xs → length xs ≤ 7 → number_of_bytes xs < 2 ^ 56
seven_below xs p h = omega (arith, number_lt 256 xs (each_below 256 (omega arith) xs p), pow-le-pow_right {n = 256} (lit< tt) h)

-- ---- back to the bytes

unpacked_after : (n : ℕ) (xs : List ℕ) → All Byte xs → digits_of 256 (number_from_digits_after 256 n xs) ≡ digits_of 256 n ++ xs
unpacked_after n [] p = sym (append-nil (digits_of 256 n))
unpacked_after n (x ∷ xs) p =
    let m : ℕ = n * 256 + x in
    let small : x < 256 = omega (arith, p.0.1) in
    let step : digits_of 256 m ≡ digits_of 256 n ++ (x ∷ []) = digits_of_step 256 m (omega arith) (omega (arith, p.0.0)) ∙ ap₂ (λ (a b : ℕ). digits_of 256 a ++ (b ∷ [])) (div-mul-add n 256 x small) (mod-mul-add n 256 x small) in
    unpacked_after m xs p.1 ∙ ap (λ (l : List ℕ). l ++ xs) step ∙ append_assoc (digits_of 256 n) (x ∷ []) xs

unpacked : (xs : List ℕ) → All Byte xs → digits_of 256 (number_of_bytes xs) ≡ xs
unpacked xs p = unpacked_after 0 xs p

packed_same : (xs ys : List ℕ) → All Byte xs → All Byte ys → number_of_bytes xs ≡ number_of_bytes ys → xs ≡ ys
packed_same xs ys p q e = sym (unpacked xs p) ∙ ap (digits_of 256) e ∙ unpacked ys q

-- ---- what a name of a text is

pub text_back : (xs : List ℕ) → letters_or_digits xs ≡ true → text_of (name_of xs) ≡ xs
text_back xs h = ap encodes (unpacked xs (bytes xs h)) ∙ encodes-IsAscii xs (IsAscii-from_all xs (each_below 128 (omega arith) xs (bytes xs h)))

-- a name has at most eight bytes, all of them letters or digits
name_parts : (text : List ℕ) → is_name text ≡ true → (length text ≤ 8) × (letters_or_digits text ≡ true)
name_parts text h =
    let p = and_parts (ltb 0 (length text) && leb (length text) 8) (letters_or_digits text) h in
    (grind (arith, nat_tests, p.0), p.1)

name_made : (text : List ℕ) (m : Name) → new_name text ≡ Ok m → (letters_or_digits text ≡ true) × (m ≡ name_of text)
name_made text m e = go (is_name text) refl e
  where
    go : (t : Bool) → is_name text ≡ t → cond t (Ok (name_of text)) (Err invalid.Name) ≡ Ok m → (letters_or_digits text ≡ true) × (m ≡ name_of text)
    go true i k = ((name_parts text i).1, cc)
    go false i k = cc

pub same_without_case : (text : List ℕ) → letters_or_digits text ≡ true → SameWithoutCase text (name_of text)
same_without_case text h other m e =
    let made = name_made other m e in
    let a : ℕ = number_of_bytes (without_case text) in
    let b : ℕ = number_of_bytes (without_case other) in
    let tests : Decides (eqb a b) (without_case text ≡ without_case other) = (
      λ t. packed_same (without_case text) (without_case other) (lower_bytes text h) (lower_bytes other made.0) (eqb-true a b t),
      λ t. eq-eqb a b (ap number_of_bytes t),
    ) in
    subst (λ (n : Name). Decides (names.same (name_of text) n) (without_case text ≡ without_case other)) (sym made.1) tests

-- ---- byte by byte

pub record PackedSoFar (xs : List ℕ) (letters folded : ℕ) : Type 0 where
  pub letters_is : letters ≡ number_of_bytes xs
  pub folded_is : folded ≡ number_of_bytes (without_case xs)

all_taken : (i : ℕ) (xs : List ℕ) → letters_or_digits xs ≡ true → letters_or_digits (take i xs) ≡ true
all_taken zero xs h = refl
all_taken (suc i) [] h = refl
all_taken (suc i) (x ∷ xs) h =
    let p = and_parts (is_ascii_alphanumeric x) (letters_or_digits xs) h in
    and_from (is_ascii_alphanumeric x) (letters_or_digits (take i xs)) p.0 (all_taken i xs p.1)

pub small_so_far : (text : List ℕ) (i letters folded : ℕ) → i < length text → is_name text ≡ true → PackedSoFar (take i text) letters folded → (letters < 2 ^ 56) × (folded < 2 ^ 56)
small_so_far text i letters folded h k p =
    let xs = take i text in
    let is = name_parts text k in
    let all = all_taken i text is.1 in
    let few : length xs ≤ 7 = simp length-take (omega (arith, is.0)) in
    let a = seven_below xs (bytes xs all) few in
    let b = seven_below (without_case xs) (lower_bytes xs all) (rw (length-map xs to_ascii_lowercase) few) in
    (omega (arith, p.letters_is), omega (arith, p.folded_is))

pub packed_step : (text : List ℕ) (i : ℕ) → i < length text → number_of_bytes (take (i + 1) text) ≡ number_of_bytes (take i text) * 256 + get_or text i 0
packed_step text i h = ap number_of_bytes (take_more text i 0 h) ∙ number_push 256 (take i text) (get_or text i 0)

pub folded_step : (text : List ℕ) (i : ℕ) → i < length text → number_of_bytes (without_case (take (i + 1) text)) ≡ number_of_bytes (without_case (take i text)) * 256 + to_ascii_lowercase (get_or text i 0)
folded_step text i h =
    let xs = take i text in
    let x : ℕ = get_or text i 0 in
    ap (λ (l : List ℕ). number_of_bytes (without_case l)) (take_more text i 0 h) ∙ ap number_of_bytes (map_push to_ascii_lowercase xs x) ∙ number_push 256 (without_case xs) (to_ascii_lowercase x)

-- what is promised of a name n that is made of a text
pub record Made (text : List ℕ) (n : Name) : Type 0 where
  pub answer : Ok n ≡ new_name text
  pub text_is : text_of n ≡ text
  pub same : SameWithoutCase text n

of_text : (text : List ℕ) (letters folded : ℕ) → is_name text ≡ true → PackedSoFar text letters folded → Made text (record { letters = letters; folded = folded })
of_text text letters folded h p =
    let all = (name_parts text h).1 in
    let e : name_of text ≡ record { letters = letters; folded = folded } = ap₂ (λ (m n : ℕ). record { letters = m; folded = n }) (sym p.letters_is) (sym p.folded_is) in
    subst (Made text) e (record {
      answer = sym (ap (λ (t : Bool). cond t (Ok (name_of text)) (Err invalid.Name)) h);
      text_is = text_back text all;
      same = same_without_case text all;
    })

pub made_of : (text : List ℕ) (i letters folded : ℕ) → is_name text ≡ true → length text ≤ i → PackedSoFar (take i text) letters folded → Made text (record { letters = letters; folded = folded })
made_of text i letters folded h l p = of_text text letters folded h (subst (λ (xs : List ℕ). PackedSoFar xs letters folded) (take_all i text l) p)

-- what the proof of `Name::new` takes
pub ruleset byte_by_byte = (small_so_far, packed_step, folded_step, made_of)

-- ---- printed byte by byte

-- the lowest of some bytes is their last
bytes_push : (k n : ℕ) → bytes_high_first (suc k) n ≡ bytes_high_first k (n / 256) ++ (n % 256 ∷ [])
bytes_push zero n = refl
bytes_push (suc k) n = ap₂ (λ (b : ℕ) (bs : List ℕ). b ∷ bs) (next k) (bytes_push k n)
  where
    next : (j : ℕ) → byte_at (suc j) n ≡ byte_at j (n / 256)
    next zero = refl
    next (suc j) = ap (λ (m : ℕ). m % 256) (ap (λ (m : ℕ). n / m) (pow-succ' 256 (suc j)) ∙ sym (div-div-eq-div-mul n 256 (256 ^ suc j)))

-- as many bytes as the number has digits are its digits
digits_of_bytes : (k n : ℕ) → n < 256 ^ k → 256 ^ k ≤ 256 * n + 255 → bytes_high_first k n ≡ digits_of 256 n
digits_of_bytes zero n most least = ap (digits_of 256) {x = 0} {y = n} (omega (arith, most))
digits_of_bytes (suc k) n most least =
    let more = pow-suc 256 k in
    let some : 0 < 256 ^ k = pow-le-pow_right {n = 256} (lit< tt) {i = 0} {j = k} (omega arith) in
    bytes_push k n ∙ ap (λ (bs : List ℕ). bs ++ (n % 256 ∷ [])) (digits_of_bytes k (n / 256) (omega arith) (omega arith)) ∙ sym (digits_of_step 256 n (omega arith) (omega arith))

bytes_drop : (i k n : ℕ) → drop i (bytes_high_first (i + k) n) ≡ bytes_high_first k n
bytes_drop zero k n = ap (λ (l : ℕ). bytes_high_first l n) (zero-add k)
bytes_drop (suc i) k n = rw (suc-add i k) (bytes_drop i k n)

in_bits : (k : ℕ) → 256 ^ k ≡ 2 ^ (8 * k)
in_bits zero = refl
in_bits (suc k) = simp (pow-suc, mul-suc, pow-add, in_bits k)

digits_used : (n : ℕ) → n < 2 ^ 64 → drop (leading_zeros w64 n / 8) (to_be_bytes w64 n) ≡ digits_of 256 n
digits_used n small =
    let t = leading_length 64 n small in
    let i : ℕ = leading_zeros w64 n / 8 in
    let k : ℕ = 8 - i in
    let all : 8 ≡ i + k = omega (arith, t.1) in
    let below = pow-le-pow_right {n = 2} (lit< tt) {i = t.0} {j = 8 * k} (omega (arith, t.1)) in
    let above = pow-le-pow_right {n = 2} (lit< tt) {i = 8 * k} {j = t.0 + 7} (omega (arith, t.1)) in
    ap (λ (l : ℕ). drop i (bytes_high_first l n)) all ∙ bytes_drop i k n
    ∙ digits_of_bytes k n (omega (arith, in_bits k, below, t.2)) (omega (arith, in_bits k, above, pow-add 2 t.0 7, t.3))

-- what is left of a number's bytes after its leading zeros
pub digits_left : (n i : ℕ) → i ≡ leading_zeros w64 n / 8 → n < 2 ^ 64 → drop i (to_be_bytes w64 n) ≡ digits_of 256 n
digits_left n i is small = ap (λ (j : ℕ). drop j (to_be_bytes w64 n)) is ∙ digits_used n small

pub letter_more : {W : Type 0} (took : W → List ℕ → W → Type 0) (f g h : Formatter W) (r : Result (Unit {0}) Error) (bs : List ℕ) (b c : ℕ) → r ≡ Ok tt → c ≡ b → WritesOnOk took f (Ok tt) (encodes bs) g → WritesOnOk took g r (encode c) h → WritesOnOk took f (Ok tt) (encodes (bs ++ (b ∷ []))) h
letter_more took f g h r bs b c ok e p q =
    let last = subst (λ (s : Result (Unit {0}) Error). WritesOnOk took g s (encode b) h) ok (subst (λ (d : ℕ). WritesOnOk took g r (encode d) h) e q) in
    let text : encodes bs ++ encode b ≡ encodes (bs ++ (b ∷ [])) = sym (encodes-append bs (b ∷ []) ∙ ap (λ (l : List ℕ). encodes bs ++ l) (append-nil (encode b))) in
    subst (λ (l : List ℕ). WritesOnOk took f (Ok tt) l h) text (writes_on_IsOk-append took f g h (Ok tt) (Ok tt) (encodes bs) (encode b) (λ x. x) p last)

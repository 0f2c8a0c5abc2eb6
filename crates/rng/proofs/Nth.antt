-- The words of the two sources, by their number.
use Rattle.std.proofs.Common.{◌≡◌, ℕ, zero, suc, ◌+◌, ◌%◌, ◌^◌, ◌<◌, ◌≤◌, ◌⊎◌, List, length, get_or, sym, ap, ◌∙◌, inl, inr, mod-lt, mod-eq_of_lt, zero-add, arith, lit<, Bor}
use native.Mathlib.Nat.{mod-add-mod, add-mod_left}
use Rattle.std.proofs.lemmas.Bool.{lt-ltb, le-ltb, cases_lt}
use Rattle.std.proofs.lemmas.Bool.Decides.{nat_tests}
use Rattle.std.proofs.lemmas.List.{get_or_past}
use Rattle.rng.specs.declared.list_rng.ListRng.{ListRng}
use Rattle.rng.specs.Words.{nth_word}
use Rattle.rng.specs.Fnv.{fnv_1a}
use Rattle.rng.specs.Sources.{list_words, hasher_words, next_place, bytes_of}

hasher_from : (k n : ℕ) → n < 2 ^ 64 → nth_word hasher_words (record { counter = n }) k ≡ fnv_1a (bytes_of ((n + k) % 2 ^ 64))
hasher_from zero n h = let e : (n + 0) % 2 ^ 64 ≡ n = ap (λ (m : ℕ). m % 2 ^ 64) (omega arith) ∙ mod-eq_of_lt h in ap (λ m. fnv_1a (bytes_of m)) (sym e)
hasher_from (suc k) n h =
    let e : ((n + 1) % 2 ^ 64 + k) % 2 ^ 64 ≡ (n + suc k) % 2 ^ 64 = mod-add-mod (n + 1) (2 ^ 64) k ∙ ap (λ (m : ℕ). m % 2 ^ 64) (omega arith) in
    hasher_from k ((n + 1) % 2 ^ 64) (mod-lt (n + 1) (lit< tt)) ∙ ap (λ m. fnv_1a (bytes_of m)) e

pub hasher_nth : (k : ℕ) → nth_word hasher_words (record { counter = 0 }) k ≡ fnv_1a (bytes_of (k % 2 ^ 64))
hasher_nth k = hasher_from k 0 (lit< tt) ∙ ap (λ (m : ℕ). fnv_1a (bytes_of (m % 2 ^ 64))) (zero-add k)

module _ (ws : Bor (List ℕ)) where
  abbrev n : ℕ
  n = length ws.now

  abbrev source_at : ℕ → ListRng
  source_at i = record { words = ws; next = i }

  -- one place on, cyclically
  next_place_after : (i k : ℕ) → i < n → (next_place ws.now i + k) % n ≡ (i + suc k) % n
  next_place_after i k h = go (cases_lt (i + 1) n)
    where
      go : (i + 1 < n) ⊎ (n ≤ i + 1) → (next_place ws.now i + k) % n ≡ (i + suc k) % n
      go (inl l) = rw (lt-ltb (i + 1) n l) (ap (λ (m : ℕ). m % n) (omega arith))
      go (inr l) =
          let e : i + suc k ≡ n + k = omega arith in
          rw (le-ltb (i + 1) n l) (ap (λ (m : ℕ). m % n) (zero-add k) ∙ sym (add-mod_left n k) ∙ ap (λ (m : ℕ). m % n) (sym e))

  next_below : (i : ℕ) → i < n → next_place ws.now i < n
  next_below i h = grind (arith, nat_tests)

  list_from : (k i : ℕ) → i < n → nth_word list_words (source_at i) k ≡ get_or ws.now ((i + k) % n) 0
  list_from zero i h = let e : (i + 0) % n ≡ i = ap (λ (m : ℕ). m % n) (omega arith) ∙ mod-eq_of_lt h in ap (λ m. get_or ws.now m 0) (sym e)
  list_from (suc k) i h = list_from k (next_place ws.now i) (next_below i h) ∙ ap (λ m. get_or ws.now m 0) (next_place_after i k h)

  -- no words
  list_none : (k i : ℕ) → n ≡ 0 → nth_word list_words (source_at i) k ≡ 0
  list_none zero i e = get_or_past ws.now i 0 (omega arith)
  list_none (suc k) i e = list_none k (next_place ws.now i) e

  pub list_nth : (k : ℕ) → nth_word list_words (source_at 0) k ≡ get_or ws.now (k % n) 0
  list_nth k = go (cases_lt 0 n)
    where
      go : (0 < n) ⊎ (n ≤ 0) → nth_word list_words (source_at 0) k ≡ get_or ws.now (k % n) 0
      go (inl h) = list_from k 0 h ∙ ap (λ (m : ℕ). get_or ws.now (m % n) 0) (zero-add k)
      go (inr h) = list_none k 0 (omega arith) ∙ sym (get_or_past ws.now (k % n) 0 (omega arith))

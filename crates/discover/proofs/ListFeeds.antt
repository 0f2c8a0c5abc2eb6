-- The answers of a feed from a list, by their number.
use Rattle.std.specs.Net.Reader.{map_or}
use Rattle.std.proofs.Common.{◌≡◌, ℕ, zero, suc, ◌+◌, ◌<◌, ◌≤◌, cond, ltb, ◌⊎◌, List, length, sym, ap, ◌∙◌, inl, inr, zero-add, arith, Bor}
use Rattle.std.proofs.lemmas.Bool.{cases_lt}
use Rattle.std.proofs.lemmas.Bool.Decides.{nat_tests}
use Rattle.std.proofs.lemmas.Option.{slice_get_past}
use Rattle.discover.specs.declared.discovered.Discovered.{Discovered}
use Rattle.discover.specs.declared.discovered.Discovered.TheVariants.{End}
use Rattle.discover.specs.declared.list_feed.ListFeed.{ListFeed}
use Rattle.discover.specs.Feeds.{nth_discovered}
use Rattle.discover.specs.ListFeeds.{in_list, list_feeds}

-- the place after one, up to the length n
on_from : (n i : ℕ) → i < n → i + 1 ≡ cond (ltb i n) (i + 1) i
on_from n i h = grind (arith, nat_tests)

stays_at : (n i : ℕ) → n ≤ i → i ≡ cond (ltb i n) (i + 1) i
stays_at n i h = grind (arith, nat_tests)

module _ {K S F : Type 0} where
  in_list_past : (xs : List (Discovered K S F)) (i : ℕ) → length xs ≤ i → End ≡ in_list xs i
  in_list_past xs i h = sym (ap (λ o. map_or o End (λ y. y)) (slice_get_past xs i h))

  module _ (xs : Bor (List (Discovered K S F))) where
    abbrev from : ℕ → ListFeed K S F
    from i = record { answers = xs; next = i }

    past : (k i : ℕ) (instants : ℕ → ℕ) → length xs.now ≤ i → nth_discovered list_feeds (from i) instants k ≡ End
    past zero i instants h = sym (in_list_past xs.now i h)
    past (suc k) i instants h = ap (λ (j : ℕ). nth_discovered list_feeds (from j) (λ n. instants (suc n)) k) (sym (stays_at (length xs.now) i h)) ∙ past k i (λ n. instants (suc n)) h

    nth_from : (k i : ℕ) (instants : ℕ → ℕ) → nth_discovered list_feeds (from i) instants k ≡ in_list xs.now (i + k)
    nth_from zero i instants = let e : i ≡ i + 0 = omega arith in ap (in_list xs.now) e
    nth_from (suc k) i instants = go (cases_lt i (length xs.now)) (nth_from k (i + 1) (λ n. instants (suc n)))
      where
        go : (i < length xs.now) ⊎ (length xs.now ≤ i) → nth_discovered list_feeds (from (i + 1)) (λ n. instants (suc n)) k ≡ in_list xs.now (i + 1 + k) → nth_discovered list_feeds (from i) instants (suc k) ≡ in_list xs.now (i + suc k)
        go (inl h) rest =
            let e : i + 1 + k ≡ i + suc k = omega arith in
            ap (λ (j : ℕ). nth_discovered list_feeds (from j) (λ n. instants (suc n)) k) (sym (on_from (length xs.now) i h)) ∙ rest ∙ ap (in_list xs.now) e
        go (inr h) rest = past (suc k) i instants h ∙ in_list_past xs.now (i + suc k) (omega arith)

    pub list_nth : (instants : ℕ → ℕ) (k : ℕ) → nth_discovered list_feeds (from 0) instants k ≡ in_list xs.now k
    list_nth instants k = nth_from k 0 instants ∙ ap (in_list xs.now) (zero-add k)

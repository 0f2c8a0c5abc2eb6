-- The two polls, computed.
use Rattle.std.proofs.Common.{◌≡◌, ℕ, List, [], ◌∷◌, Some, None, Ok, refl, ap₂, ◌∙◌, Bor}
use Rattle.service.specs.declared.poll.Poll.TheVariants.{Ready}
use Rattle.workers.specs.Paces.{new_paced}
use Rattle.load.specs.Pending.{new_pending_requests}
use Rattle.cache_model.specs.Cache.{new_cache}
use Rattle.worked_cases.specs.declared.two_polls.TwoPolls.{TwoPolls}
use Rattle.worked_cases.specs.TwoPolls.{Answers, TheBalancer, balancer, poll_at_0, serial_at, two_polls, second_draws}
use Rattle.worked_cases.specs.Removal.{answers}

abbrev these_answers : Answers
these_answers = answers (new_pending_requests new_paced)

abbrev these_words : List ℕ
these_words = 0 ∷ 1 ∷ 0 ∷ 0 ∷ []

-- what the polls come to
abbrev outcome : TwoPolls
outcome = record {
  first = Ok (record { worker = Ready 1; lost = 0 });
  first_place = Some 0;
  second = Ok (record { worker = Ready 2; lost = 0 });
  second_place = Some 1;
  ready = Some 3 ∷ Some 2 ∷ None ∷ [];
}

-- over any memory that has these answers and words
module _ (feed : Bor Answers) (words : Bor (List ℕ)) where
  abbrev over : Answers → List ℕ → TheBalancer
  over xs ws = balancer (record feed { now = xs }) (record words { now = ws })

  polls_computed : two_polls (over these_answers these_words) (new_cache 3 1) ≡ outcome
  unfolding two_polls balancer poll_at_0 serial_at
  polls_computed = refl

  draws_computed : second_draws (over these_answers these_words) (new_cache 3 1) ≡ (3 ∷ 2 ∷ []) ∷ []
  unfolding second_draws balancer poll_at_0
  draws_computed = refl

  pub polls_there : feed.now ≡ these_answers → words.now ≡ these_words →
      two_polls (balancer feed words) (new_cache 3 1) ≡ outcome
  polls_there of_answers of_words =
      ap₂ (λ xs ws. two_polls (over xs ws) (new_cache 3 1)) of_answers of_words ∙ polls_computed

  pub draws_there : feed.now ≡ these_answers → words.now ≡ these_words →
      second_draws (balancer feed words) (new_cache 3 1) ≡ (3 ∷ 2 ∷ []) ∷ []
  draws_there of_answers of_words =
      ap₂ (λ xs ws. second_draws (over xs ws) (new_cache 3 1)) of_answers of_words ∙ draws_computed

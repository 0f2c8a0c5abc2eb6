-- The selected worker is removed: what the polls before and after answer and leave.
use Rattle.std.specs.Prelude.{◌≡◌, ℕ, List, [], ◌∷◌, Some, None, Ok}
use Rattle.std.specs.Borrow.{Bor}
use Rattle.service.specs.declared.poll.Poll.TheVariants.{Ready}
use Rattle.workers.specs.Paces.{new_paced}
use Rattle.load.specs.Pending.{new_pending_requests}
use Rattle.discover.specs.declared.discovered.Discovered.TheVariants.{Pending, Insert, Remove}
use Rattle.cache_model.specs.Cache.{new_cache}
use Rattle.worked_cases.specs.declared.removal.Removal.{Removal}
use Rattle.worked_cases.specs.TwoPolls.{Worker, Answers, balancer, two_polls, second_draws}

-- three workers come, and after a poll the first of them goes
abbrev pub answers : Worker → Answers
answers worker = Insert 1 worker ∷ Insert 2 worker ∷ Insert 3 worker ∷ Pending ∷ Remove 1 ∷ []

-- the selected worker is removed
pub record IsRemovalOfSelected (r : Removal) : Type 0 where
  -- the workers 1, 2 and 3 come, and 1 goes
  pub answers : r.answers ≡ answers (new_pending_requests new_paced)
  pub words : r.words ≡ 0 ∷ 1 ∷ 0 ∷ 0 ∷ []
  -- the memory in which the feed and the source of words found these
  pub feed : Bor Answers
  pub source : Bor (List ℕ)
  pub feed_answers : feed.now ≡ r.answers
  pub source_words : source.now ≡ r.words
  -- the polls of a balancer over them, and of a new cache of three places
  pub polls : r.polls ≡ two_polls (balancer feed source) (new_cache 3 1)
  -- the first worker is named, at the place 0
  pub first : r.polls.first ≡ Ok (record { worker = Ready 1; lost = 0 })
  pub first_place : r.polls.first_place ≡ Some 0
  -- it goes, and the last one moves to its place; the words 0 and 0 draw the place 1, and that one
  -- is named
  pub second : r.polls.second ≡ Ok (record { worker = Ready 2; lost = 0 })
  pub second_place : r.polls.second_place ≡ Some 1
  pub ready : r.polls.ready ≡ Some 3 ∷ Some 2 ∷ None ∷ []
  -- by one draw, among the two that are left: the place that was selected no longer is
  pub draws : second_draws (balancer feed source) (new_cache 3 1) ≡ (3 ∷ 2 ∷ []) ∷ []

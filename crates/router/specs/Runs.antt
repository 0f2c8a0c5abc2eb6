-- A whole run, from what it is handed, and what it gives back.
-- Types: keys K, workers S with requests Q, responses A, errors E and weights W, a feed D with
-- errors F, a source of words R.
use Rattle.std.specs.Prelude.{◌≡◌, List, [], length, vec_items}
use Rattle.cache_model.specs.Cache.{capacity_of}
use Rattle.balance_model.specs.declared.pick.Pick.{Pick}
use Rattle.balance_model.specs.declared.answer.Answer.{Answer}
use Rattle.docket.specs.Docket.{docket_capacity}
use Rattle.balance_model.specs.Meanings.{Meanings}
use Rattle.balance_model.specs.Balance.{Making, State}
use Rattle.balance_model.specs.History.{Run, new_run, apply_all}
use Rattle.balance_model.specs.Promise.{Promise}
use Rattle.router.specs.declared.memory.Slices.{Slices}
use Rattle.router.specs.declared.opening.Opening.{Opening}
use Rattle.router.specs.declared.owned_run.OwnedRun.{OwnedRun}
use Rattle.router.specs.declared.router.Router.{Router}

-- what a run is made from: as much as the slices hold, and how it opens
abbrev pub making_of : {K S D R : Type 0} → Slices K S → Opening D R → Making D R
making_of slices opening = record {
  cache_capacity = capacity_of (length slices.ready.now) (length slices.pending.now);
  docket_capacity = docket_capacity (length slices.records.now);
  first_serial = opening.first_serial;
  first_ticket = opening.first_ticket;
  feed = opening.feed;
  words = opening.words;
  budget = opening.budget;
}

-- the run of the model: the picks applied in order to a newly made balancer, cache and docket
abbrev pub whole_run : {K S Q A E W D F R : Type 0} → Meanings K S Q A E W D F R → Making D R →
    List (Pick Q) → Run K S A E D F R
whole_run m made picks = apply_all m (new_run made) picks

-- where a router's three parts stand
abbrev pub state_of : {K S D R : Type 0} → Router K S D R → State K S D R
state_of r = record { balancer = r.balance; cache = r.cache; docket = r.docket }

-- a run that begins at a state
abbrev pub from_state : {K S A E D F R : Type 0} → State K S D R → Run K S A E D F R
from_state st = record { state = st; history = [] }

-- whatever is picked from a state on, the promise holds of the run
pub record AlwaysPromised {K S Q A E W D F R : Type 0} (m : Meanings K S Q A E W D F R)
    (made : Making D R) (st : State K S D R) : Type 0 where
  pub whatever : (picks : List (Pick Q)) → Promise m made (apply_all m (from_state st) picks)

-- what an owned run holds is these answers, and where the three stand
pub record OwnedAs {K S A D F R : Type 0} (x : OwnedRun K S A D F R) (given : List (Answer K A F))
    (st : State K S D R) : Type 0 where
  pub answers : vec_items x.answers ≡ given
  pub balancer : x.balance ≡ st.balancer
  pub ready : vec_items x.ready ≡ st.cache.ready
  pub pending : vec_items x.pending ≡ st.cache.pending
  pub resume : x.resume ≡ st.cache.resume
  pub next_serial : x.next_serial ≡ st.cache.next
  pub records : vec_items x.records ≡ st.docket.records
  pub next_ticket : x.next_ticket ≡ st.docket.next

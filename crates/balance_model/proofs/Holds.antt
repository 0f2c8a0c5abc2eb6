-- What holds after every pick.
use Rattle.std.specs.List.{AllByRecursion}
use Rattle.lists.specs.Sums.{one_if}
use Rattle.lists.proofs.Totals.{total}
use Rattle.service.specs.Meaning.{Endpoints}
use Rattle.cache_model.specs.declared.entry.Entry.{Entry}
use Rattle.cache_model.specs.Cache.{Cache}
use Rattle.cache_model.proofs.Steps.{sum_held, Single}
use Rattle.cache_model.proofs.Serials.{is_serial, is_pair}
use Rattle.docket.specs.declared.docket_record.DocketRecord.{DocketRecord}
use Rattle.balance_model.specs.declared.answer.CallError.{CallError}
use Rattle.balance_model.specs.Meanings.{Meanings}
use Rattle.docket.specs.Docket.{Docket}
use Rattle.balance_model.specs.Balance.{Balancer, SentRequest}
use Rattle.balance_model.specs.History.{History, named_by_latest, selected_serial, GrantedInLatest, sent_since_poll, tickets_sent_to, is_completed}
use Rattle.balance_model.specs.Promise.{EachCall, ReachedNamed, NobodyNamed, SixIffNobodyNamed, NotThreeOrFour, CountRight, DrawsRight, PollsSearched}
use Rattle.std.proofs.Common.{◌≡◌, ℕ, ◌<◌, ◌≤◌, true, false, IsTrue, is_some, eqb, List, [], Some, Result, slice_get}

module _ {K S A E F : Type 0} where
  -- all that is promised of one call
  pub record CallRight (before : History K S A E F) (answer : Result (SentRequest A) CallError) : Type 0 where
    pub reached : ReachedNamed before answer
    pub six : SixIffNobodyNamed before answer
    pub never : NotThreeOrFour before answer

-- this ticket
abbrev pub is_ticket : ℕ → ℕ → ℕ
is_ticket t t' = one_if (eqb t' t)

abbrev pub of_record : ℕ → DocketRecord → ℕ
of_record t x = is_ticket t x.ticket

module _ {K S A E F : Type 0} where
  -- a record of the docket is of one request that was sent and is not completed
  pub record Open (h : History K S A E F) (next : ℕ) (x : DocketRecord) : Type 0 where
    pub issued : x.ticket < next
    pub out : is_completed h x.ticket ≡ false
    pub sent : total (is_ticket x.ticket) (tickets_sent_to x.serial h) ≡ 1
    pub nowhere_else : (y : ℕ) → (y ≡ x.serial → ⊥) → total (is_ticket x.ticket) (tickets_sent_to y h) ≡ 0

  -- a ticket that is not issued
  pub record Unissued (h : History K S A E F) (t : ℕ) : Type 0 where
    pub out : is_completed h t ≡ false
    pub nowhere : (x : ℕ) → total (is_ticket t) (tickets_sent_to x h) ≡ 0

-- the selected worker is the one that the latest poll named, and may be called
pub record Selected {K S Q A E W D F R : Type 0} (ends : Endpoints S Q A E W) (b : Balancer D R) (rs : List (Entry K S)) (h : History K S A E F) : Type 0 where
  pub place : ℕ
  pub entry : Entry K S
  pub granted : ℕ
  pub chosen : b.selected ≡ Some place
  pub stands : slice_get rs place ≡ Some entry
  pub grant : ends.grant entry.endpoint ≡ Some granted
  pub named : named_by_latest h ≡ Some entry.serial
  pub said : GrantedInLatest h entry.serial
  pub unsent : sent_since_poll h ≡ false

pub record Holds {K S Q A E W D F R : Type 0} (m : Meanings K S Q A E W D F R) (b : Balancer D R) (c : Cache K S) (d : Docket) (h : History K S A E F) : Type 0 where
  pub single : Single m.keys m.endpoints c
  pub counts : (s n : ℕ) → 1 ≤ sum_held m.keys m.endpoints (is_pair s n) c → CountRight m.endpoints.count h s n
  pub serials : (s : ℕ) → sum_held m.keys m.endpoints (is_serial s) c ≤ 1
  pub below : (s : ℕ) → c.next ≤ s → sum_held m.keys m.endpoints (is_serial s) c ≡ 0
  pub unsent : (s : ℕ) → c.next ≤ s → tickets_sent_to s h ≡ []
  pub records : AllByRecursion (Open h d.next) d.records
  pub tickets : (t : ℕ) → total (of_record t) d.records ≤ 1
  pub unissued : (t : ℕ) → d.next ≤ t → Unissued h t
  pub fresh : b.fresh ≡ true → Selected m.endpoints b c.ready h
  pub spent : b.fresh ≡ false → NobodyNamed h
  pub calls : EachCall CallRight h
  pub draws : DrawsRight m.endpoints m.weights h
  pub known : (i : ℕ) → b.selected ≡ Some i → IsTrue (is_some (selected_serial h))
  pub searched : PollsSearched m.endpoints h c.ready

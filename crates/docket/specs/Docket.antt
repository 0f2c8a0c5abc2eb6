-- The docket: the requests that were sent and are not completed.
use Rattle.std.specs.Net.Reader.{map_or}
use Rattle.std.specs.Prelude.{ℕ, ◌+◌, ◌-◌, ◌^◌, min, if◌then◌else◌, not, List, [], ◌∷◌, ◌++◌, length, Some, None, Ok, Err, Option, Result, nat_eq, nat_lt, slice_get, position}
use Rattle.lists.specs.Outcome.{Outcome, outcome}
use Rattle.lists.specs.Lists.{swap_remove}
use Rattle.docket.specs.declared.docket_record.DocketRecord.{DocketRecord}
use Rattle.docket.specs.declared.docket_refusal.DocketRefusal.{DocketRefusal}
use Rattle.docket.specs.declared.docket_refusal.DocketRefusal.TheVariants.{Full, TicketsSpent}

-- the number of each refusal
abbrev pub docket_number : DocketRefusal → ℕ
docket_number Full = 7
docket_number TicketsSpent = 8

-- the records that are out, the next ticket, and how many records there is room for
pub record Docket : Type 0 where
  pub records : List DocketRecord
  pub next : ℕ
  pub capacity : ℕ

-- how many records a slice of memory holds
abbrev pub docket_capacity : ℕ → ℕ
docket_capacity memory = min memory 65536

-- no request is out
abbrev pub new_docket : ℕ → ℕ → Docket
new_docket capacity first = record { records = []; next = first; capacity = capacity }

-- why no request can be noted, if so: first that it is full, then that tickets are spent
abbrev pub refusal_of : Docket → Option DocketRefusal
refusal_of d =
    if not (nat_lt (length d.records) d.capacity) then Some Full
    else if nat_lt d.next (2 ^ 64 - 1) then None else Some TicketsSpent

-- a request goes to a worker at an instant, under the next ticket
abbrev pub with_record : Docket → ℕ → ℕ → Docket
with_record d serial sent =
    let new : DocketRecord = record { ticket = d.next; serial = serial; sent = sent } in
    record d { records = d.records ++ (new ∷ []); next = d.next + 1 }

-- the same, unless the docket refuses; the answer is the ticket
abbrev pub note : Docket → ℕ → ℕ → Outcome (Result ℕ DocketRefusal) Docket
note d serial sent =
    map_or (refusal_of d) (outcome (Ok d.next) (with_record d serial sent)) (λ r. outcome (Err r) d)

-- the place of a ticket's record
abbrev pub ticket_place : Docket → ℕ → Option ℕ
ticket_place d ticket = position (λ r. nat_eq r.ticket ticket) d.records

-- the docket without the record at a place, which the last one takes
abbrev pub without : Docket → ℕ → Docket
without d i = record d { records = swap_remove d.records i }

-- the record of a ticket is removed, if there is one
abbrev pub remove : Docket → ℕ → Outcome (Option DocketRecord) Docket
remove d ticket =
    map_or (ticket_place d ticket) (outcome None d)
    (λ i. outcome (slice_get d.records i) (without d i))

-- A docket that has no record of a ticket stays as it is.
use Rattle.std.proofs.Common.{◌≡◌, ℕ, eqb, None, Option, refl}
use Rattle.lists.specs.Outcome.{Outcome}
use Rattle.lists.proofs.Cases.{some_case}
use Rattle.lists.proofs.Places.{place_there}
use Rattle.docket.specs.declared.docket_record.DocketRecord.{DocketRecord}
use Rattle.docket.specs.Docket.{Docket, ticket_place, remove}

pub removed_none : (d : Docket) (ticket : ℕ) → (remove d ticket).answer ≡ None → (remove d ticket).after ≡ d
removed_none d ticket =
    some_case (λ (o : Outcome (Option DocketRecord) Docket). o.answer ≡ None → o.after ≡ d) (ticket_place d ticket) _ _
    (λ _ _. refl)
    (λ i found none. cc ((place_there (λ r. eqb r.ticket ticket) d.records i found).1))

-- A paced service: ready from its free instant on, which each call moves.
use Rattle.std.specs.Prelude.{ℕ, ◌+◌, ◌-◌, ◌^◌, min, if◌then◌else◌, None, nat_le, refl}
use Rattle.std.specs.declared.convert.Infallible.{Infallible}
use Rattle.lists.specs.Outcome.{outcome}
use Rattle.service.specs.declared.readiness.Readiness.{Readiness}
use Rattle.service.specs.declared.readiness.Readiness.TheVariants.{Ready, Pending}
use Rattle.service.specs.Meaning.{Services, grant_after}
use Rattle.workers.specs.declared.paced.Paced.{Paced}

-- newly made it is free from the instant 0 on, with no grant
abbrev pub new_paced : Paced
new_paced = record { free = 0; grant = None }

-- ready from the free instant on
abbrev pub paced_answer : Paced → ℕ → Readiness Infallible
paced_answer p at = if nat_le p.free at then Ready else Pending

-- the free instant after a request, or the largest u64 where the sum is larger
abbrev pub free_after : ℕ → ℕ → ℕ
free_after at nanoseconds = min (at + nanoseconds) (2 ^ 64 - 1)

-- what a paced service means
abbrev pub paced_serves : Services Paced ℕ ℕ Infallible
paced_serves = record {
  grant = λ p. p.grant;
  poll_ready = λ p at.
      outcome (paced_answer p at) (record p { grant = grant_after (paced_answer p at) at });
  accept = λ p nanoseconds at.
      let free = free_after at nanoseconds in
      outcome free (record { free = free; grant = None });
  grant-poll_ready = λ p at. refl;
  grant-accept = λ p nanoseconds at granted. refl;
}

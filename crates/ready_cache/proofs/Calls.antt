-- What the answer of an endpoint's call tells of the endpoint.
use Rattle.std.specs.Net.Reader.{map_or}
use Rattle.std.proofs.Common.{◌≡◌, Some, None, Ok, Err, Option, Result, refl}
use Rattle.lists.specs.Outcome.{Outcome, outcome}
use Rattle.service.specs.declared.refusal.EndpointRefusal.{EndpointRefusal}

module _ {A S : Type 0} where
  abbrev called : Option EndpointRefusal → A → S → S → Outcome (Result A EndpointRefusal) S
  called o a s t = map_or o (outcome (Ok a) t) (λ r. outcome (Err r) s)

  -- a refused call left the endpoint as it was
  pub record Refusal (o : Option EndpointRefusal) (a : A) (s t : S) (x : EndpointRefusal) : Type 0 where
    pub why : o ≡ Some x
    pub left : (called o a s t).after ≡ s

  pub refused : (o : Option EndpointRefusal) (a : A) (s t : S) (x : EndpointRefusal) → Err x ≡ (called o a s t).answer → Refusal o a s t x
  refused None a s t x e = cc
  refused (Some y) a s t x e = record { why = cc; left = refl }

  pub record Acceptance (o : Option EndpointRefusal) (a : A) (s t : S) (b : A) : Type 0 where
    pub why : o ≡ None
    pub said : b ≡ a
    pub left : (called o a s t).after ≡ t

  pub accepted : (o : Option EndpointRefusal) (a : A) (s t : S) (b : A) → Ok b ≡ (called o a s t).answer → Acceptance o a s t b
  accepted None a s t b e = record { why = refl; said = cc; left = refl }
  accepted (Some y) a s t b e = cc

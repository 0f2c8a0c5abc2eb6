-- What an answer without a refusal says.
use Rattle.std.specs.Net.Reader.{map_or}
use Rattle.std.proofs.Common.{◌≡◌, Some, None, Ok, Err, Option, Result, refl}

-- what is answered with Ok has nothing against it
pub admitted : {X : Type 0} (o : Option X) → ◌≡◌ {A = Result (Unit {0}) X} (Ok tt) (map_or o (Ok tt) Err) → o ≡ None
admitted None e = refl
admitted (Some x) e = cc

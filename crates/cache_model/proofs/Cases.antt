-- To prove a fact of what an answer of the cache leads to, prove it at each case, with the equation that led there.
use Rattle.std.proofs.Common.{◌≡◌, Bool, true, false, Ok, Err, Result, refl}
use Rattle.service.specs.declared.poll.Poll.{Poll}
use Rattle.service.specs.declared.readiness.Readiness.{Readiness}
use Rattle.service.specs.declared.readiness.Readiness.TheVariants.{Ready, Pending, Failed}
use Rattle.cache_model.specs.declared.error.NoPlace.{NoPlace}
use Rattle.cache_model.specs.declared.error.Failed.{Failed as Failure}
use Rattle.cache_model.specs.declared.error.PendingError.{PendingError}
use Rattle.cache_model.specs.declared.error.PendingError.TheVariants as pending
use Rattle.cache_model.specs.Answers.{by_readiness, by_check, by_pass}

pub readiness_case : {E B : Type 0} (P : B → Type 0) (v : Readiness E) (r p : B) (f : E → B) → (v ≡ Ready → P r) → (v ≡ Pending → P p) → ((e : E) → v ≡ Failed e → P (f e)) → P (by_readiness v r p f)
readiness_case P Ready r p f x y z = x refl
readiness_case P Pending r p f x y z = y refl
readiness_case P (Failed e) r p f x y z = z e refl

pub check_case : {K E B : Type 0} (P : B → Type 0) (v : Result Bool (Failure K E)) (y n f : B) → (v ≡ Ok true → P y) → (v ≡ Ok false → P n) → ((x : Failure K E) → v ≡ Err x → P f) → P (by_check v y n f)
check_case P (Ok true) y n f a b c = a refl
check_case P (Ok false) y n f a b c = b refl
check_case P (Err x) y n f a b c = c x refl

pub pass_case : {K E B : Type 0} (P : B → Type 0) (v : Result (Poll (Unit {0})) (PendingError K E)) (end : B) (n : K → B) (f : Failure K E → B) → ((p : Poll (Unit {0})) → v ≡ Ok p → P end) → ((y : NoPlace K) → v ≡ Err (pending.NoPlace y) → P (n y.key)) → ((x : Failure K E) → v ≡ Err (pending.Failed x) → P (f x)) → P (by_pass v end n f)
pass_case P (Ok p) end n f a b c = a p refl
pass_case P (Err (pending.NoPlace y)) end n f a b c = b y refl
pass_case P (Err (pending.Failed x)) end n f a b c = c x refl

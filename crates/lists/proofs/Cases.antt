-- To prove a fact of what a choice gives, prove it at each case, with the equation that led there.
use Rattle.std.specs.Net.Reader.{map_or}
use Rattle.std.proofs.Common.{◌≡◌, Bool, true, false, cond, Some, None, Ok, Err, Option, Result, refl, ap, subst}
use Rattle.std.specs.Result.{IsErrAnd}
use Rattle.lists.specs.Options.{by_result}

pub cond_case : {B : Type 0} (P : B → Type 0) (t : Bool) (x y : B) → (t ≡ true → P x) → (t ≡ false → P y) → P (cond t x y)
cond_case P true x y f g = f refl
cond_case P false x y f g = g refl

pub some_case : {A B : Type 0} (P : B → Type 0) (o : Option A) (b : B) (f : A → B) → (o ≡ None → P b) → ((a : A) → o ≡ Some a → P (f a)) → P (map_or o b f)
some_case P None b f n s = n refl
some_case P (Some a) b f n s = s a refl

pub some_is : {A B : Type 0} (P : B → Type 0) (o : Option A) (b : B) (f : A → B) (a : A) → o ≡ Some a → P (f a) → P (map_or o b f)
some_is P None b f a e p = cc
some_is {A} P (Some x) b f a e p = let q : a ≡ x = cc in subst (λ (y : A). P (f y)) q p

pub result_case : {A E B : Type 0} (P : B → Type 0) (v : Result A E) (f : A → B) (g : E → B) → ((a : A) → v ≡ Ok a → P (f a)) → ((e : E) → v ≡ Err e → P (g e)) → P (by_result v f g)
result_case P (Ok a) f g x y = x a refl
result_case P (Err e) f g x y = y e refl

-- what a `?` returns at an error
pub err_is : {A E : Type 0} {e : E} (r : Result A E) → IsErrAnd r (λ x. x ≡ e) → r ≡ Err e
err_is (Ok a) h = absurd h
err_is (Err x) h = ap Err h

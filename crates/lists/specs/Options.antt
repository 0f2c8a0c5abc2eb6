-- Results by cases.
use Rattle.std.specs.Prelude.{Ok, Err, Result}

-- what is in an Ok or in an Err, handed on
abbrev pub by_result : {A E B : Type 0} → Result A E → (A → B) → (E → B) → B
by_result (Ok a) f g = f a
by_result (Err e) f g = g e

-- What a test that is passed in answers.
use Rattle.std.specs.Prelude.{◌≡◌, Bool}
use Rattle.std.specs.Borrow.{Bor}
use Rattle.std.specs.Fn.{Shared, FnReturnsAt}

-- each call of the test, at a reference to an item, answers what p gives
abbrev pub ComputesTest : {F T : Type 0} → Shared F (Bor T × Unit {0}) Bool → (T → Bool) → F → Type 0
ComputesTest {T = T} g p test = (x : T) (b : Bool) → FnReturnsAt g test x b → b ≡ p x

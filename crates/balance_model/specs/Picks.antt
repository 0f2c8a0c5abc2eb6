-- What becomes of the request in a pick.
use Rattle.std.specs.Prelude.{◌≡◌, ℕ}
use Rattle.balance_model.specs.declared.pick.Pick.{Pick}
use Rattle.balance_model.specs.declared.pick.Pick.TheVariants.{Poll, Call, Complete}

-- the same pick, with what is made of its request, if it has one
abbrev pub CallsMade : {Q T : Type 0} → (Q → T → Type 0) → Pick Q → Pick T → Type 0
CallsMade makes (Poll at) p = p ≡ Poll at
CallsMade {T = T} makes (Call q at) p = (t : T) × makes q t × (p ≡ Call t at)
CallsMade makes (Complete ticket at) p = p ≡ Complete ticket at

-- a fact of the request, if there is one
abbrev pub ForCalled : {Q : Type 0} → Pick Q → (Q → Type 0) → Type 0
ForCalled {Q} p P = (q : Q) (at : ℕ) → p ≡ Call q at → P q

-- Which settings an endpoint can be made with.
use Rattle.std.specs.Prelude.{Bool, if◌then◌else◌, ◌||◌, Ok, Err, Result, ◌==◌}
use Rattle.service.specs.declared.refusal.Invalid.{Invalid}
use Rattle.service.specs.declared.refusal.Invalid.TheVariants.{Duration}
use Rattle.load.specs.declared.settings.Settings.{Settings}

-- a source D of decay, and what is made with its settings
module _ {D : Type 0} where
  -- whether one of the two durations is 0
  abbrev pub some_zero : Settings D → Bool
  some_zero s = s.default_rtt == 0 || s.decay_period == 0

  -- a zero duration is refused
  abbrev pub unless_zero : {A : Type 0} → Settings D → A → Result A Invalid
  unless_zero s value = if some_zero s then Err Duration else Ok value

  -- settings with a duration of 0 are refused
  abbrev pub check : Settings D → Result (Unit {0}) Invalid
  check s = unless_zero s tt

-- The moment at which a command comes.
use Rattle.std.specs.Prelude.{ℕ, ◌≡◌, Option, Some, None, Result, Ok, Err}
use Rattle.fab_program_outside.specs.declared.faults.Fault.{Fault}
use Rattle.fab_program_outside.specs.declared.faults.Fault.TheVariants.{Clock}

-- the moment that a clock tells; a clock that tells none is a fault
abbrev pub told_moment : Option ℕ → Result ℕ Fault
told_moment (Some moment) = Ok moment
told_moment None = Err Clock

-- the moment that is given; and where none is, what the clock tells
abbrev pub IsMoment : Option ℕ → (Option ℕ → Type 0) → Result ℕ Fault → Type 0
IsMoment (Some moment) Tells came = came ≡ Ok moment
IsMoment None Tells came = (told : Option ℕ) × Tells told × (came ≡ told_moment told)

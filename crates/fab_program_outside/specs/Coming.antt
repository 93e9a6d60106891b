-- One thing after the other, where the first fault ends it.
use Rattle.std.specs.Prelude.{◌≡◌, Result, Ok, Err}
use Rattle.fab_program_outside.specs.declared.faults.Fault.{Fault}

-- with what the first came to the next goes on; its fault is the end
abbrev pub After : {X Y : Type 0} → Result X Fault → (X → Result Y Fault → Type 0) → Result Y Fault → Type 0
After (Ok x) Next came = Next x came
After (Err fault) Next came = came ≡ Err fault

-- the first comes to something, and then comes the next
abbrev pub Then : {X Y : Type 0} → (Result X Fault → Type 0) → (X → Result Y Fault → Type 0) → Result Y Fault → Type 0
Then {X} First Next came = (first : Result X Fault) × First first × After first Next came

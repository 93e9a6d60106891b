-- The lines of the log.
use Rattle.std.specs.Prelude.{ℕ, ◌≡◌, ◌-◌, ◌/◌, ◌^◌, ◌⊎◌, List, [], ◌∷◌, Option, min, codes}
use Rattle.std.specs.Fmt.{decimal}
use Rattle.std.specs.Io.KnownBytes.{Appends}
use Rattle.std.specs.List.{concat}
use Rattle.fab_wire_streams.specs.Counting.{inner_of, failures_of}
use Rattle.fab_wire_streams.specs.Failures.{one_more}
use Rattle.fab_wire_streams.specs.Sent.{AppendsBeginning}
use Rattle.fab_wire_streams.specs.declared.counted.Counted.{Counted}

-- when, what came of it, and how long it took
abbrev pub line_text : ℕ → List ℕ → ℕ → List ℕ
line_text moment outcome milliseconds = concat (decimal moment ∷ codes " " ∷ outcome ∷ codes " " ∷ decimal milliseconds ∷ codes " ms\n" ∷ [])

-- the log took a line whole; or a write failed, and it took a beginning of it
abbrev pub Notes : {W : Type 0} → (W → Option (List ℕ)) → Counted W → Counted W → List ℕ → Type 0
Notes contents old new line =
    (Appends (contents (inner_of old)) (contents (inner_of new)) line × (failures_of new ≡ failures_of old))
    ⊎ (AppendsBeginning (contents (inner_of old)) (contents (inner_of new)) line × (failures_of new ≡ one_more (failures_of old)))

-- how many milliseconds have gone by since a reading, as far as a clock tells; 0 where it tells no time
abbrev pub Lasted : (ℕ → Type 0) → Type 0 → ℕ → ℕ → Type 0
Lasted tells fails start milliseconds =
    (fails × (milliseconds ≡ 0))
    ⊎ ((reading : ℕ) × tells reading × (milliseconds ≡ min ((reading - start) / 1_000_000) (2 ^ 64 - 1)))

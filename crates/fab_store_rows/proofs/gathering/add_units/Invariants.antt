use Rattle.std.proofs.Common.{◌≡◌, ℕ, List, ◌++◌}
use Rattle.std.specs.Option.{option_copied}
use Rattle.fab_reach_base.specs.Adding.{Adds}
use Rattle.fab_reach_base.proofs.Adding.{Before}
use Rattle.fab_store_rows.specs.Gathering.{Has, Lacking, unit_row}
use Rattle.fab_store_rows.proofs.gathering.add_units.Given as goal

abbrev pub invariant-loop-unit : goal.invariant-loop-unit
invariant-loop-unit g l =
    (before : List (ℕ × List ℕ)) × (l.fn.units ≡ before ++ l.unit-iterator) × Adds (Before (λ e. Lacking (option_copied l.without) (λ r. r ≡ unit_row l.name e)) before) (Has l.fn.rows) (Has l.rows)

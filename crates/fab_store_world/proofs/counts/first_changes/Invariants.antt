use Rattle.std.proofs.Common.{◌≡◌, ℕ, take, All}
use Rattle.fab_world.specs.fab_store_rows.declared.table_rows.CountRow.TheVariants.{Revision}
use Rattle.fab_store_world.proofs.counts.first_changes.Given as goal

abbrev pub invariant-loop-row : goal.invariant-loop-row
invariant-loop-row l = All (λ r. (n : ℕ) → ¬ (r ≡ Revision n)) (take l.row-index l.rows)

use Rattle.std.proofs.Common.{ℕ, take}
use Rattle.fab_store_tables.specs.Versions.{TellSchema}
use Rattle.fab_store_tables.proofs.versions.schema_told.Given as goal

abbrev pub invariant-loop-line : goal.invariant-loop-line
invariant-loop-line l = (n : ℕ) → ¬ TellSchema (take l.line-index l.lines) n

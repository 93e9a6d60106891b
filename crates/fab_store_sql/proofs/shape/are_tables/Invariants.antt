use Rattle.std.proofs.Common.{◌≡◌, ◌++◌, map, take}
use Rattle.fab_store_sql.specs.Schema.{made_of}
use Rattle.fab_store_sql.proofs.shape.are_tables.Given as goal

abbrev pub invariant-loop-table : goal.invariant-loop-table
invariant-loop-table l = l.found ≡ map made_of (take l.table-index l.tables) ++ l.rest

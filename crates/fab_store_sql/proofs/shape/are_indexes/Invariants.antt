use Rattle.std.proofs.Common.{◌≡◌, ◌++◌, map, take}
use Rattle.fab_store_sql.specs.Schema.{key_index}
use Rattle.fab_store_sql.proofs.shape.are_indexes.Given as goal

abbrev pub invariant-loop-table : goal.invariant-loop-table
invariant-loop-table l = l.found ≡ map key_index (take l.table-index l.tables) ++ l.rest

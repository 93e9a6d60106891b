use Rattle.std.proofs.Common.{◌≡◌, ◌++◌, map, take}
use Rattle.fab_store_sql.specs.Schema.{text_column}
use Rattle.fab_store_sql.proofs.shape.are_columns.Given as goal

abbrev pub invariant-loop-name : goal.invariant-loop-name
invariant-loop-name l = l.found ≡ map (λ t. text_column t.now) (take l.name-index l.texts) ++ l.rest

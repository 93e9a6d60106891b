use Rattle.std.proofs.Common.{◌≡◌, ◌++◌, map}
use Rattle.fab_looks.specs.Lists.{query_of}
use Rattle.fab_looks.proofs.rows.name_queries.Given as goal

abbrev pub invariant-loop-name : goal.invariant-loop-name
invariant-loop-name g l = map (query_of l.kind) l.names.keys ≡ l.queries.items ++ map (query_of l.kind) l.name-iterator

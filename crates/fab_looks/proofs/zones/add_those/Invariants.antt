use Rattle.std.proofs.Common.{◌≡◌, ℕ, List, ◌++◌}
use Rattle.fab_looks.specs.Inner.Gathered.{zone_reads}
use Rattle.fab_looks.proofs.zones.add_those.Given as goal

abbrev pub invariant-loop-name : goal.invariant-loop-name
invariant-loop-name g l =
    (before : List (List ℕ)) × (l.names.keys ≡ before ++ l.name-iterator) × (l.queries.items ≡ l.fn.queries.items ++ zone_reads l.zones l.fabric before)

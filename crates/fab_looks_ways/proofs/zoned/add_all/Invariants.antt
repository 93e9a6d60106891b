use Rattle.std.proofs.Common.{◌≡◌, ℕ, List, ◌++◌}
use Rattle.fab_reach_base.specs.Adding.{Adds}
use Rattle.fab_desk_base.specs.Tenants.{Has}
use Rattle.fab_reach_base.proofs.Adding.{Before}
use Rattle.fab_looks_ways.proofs.Gains.{Same}
use Rattle.fab_looks_ways.proofs.zoned.add_all.Given as goal

abbrev pub invariant-loop-name : goal.invariant-loop-name
invariant-loop-name g l = (before : List (List ℕ)) × (l.more.keys ≡ before ++ l.name-iterator) × Adds (Before Same before) (Has l.fn.names) (Has l.names)

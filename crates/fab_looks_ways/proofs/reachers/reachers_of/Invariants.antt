use Rattle.std.proofs.Common.{◌≡◌, ℕ, List, ◌++◌}
use Rattle.std.specs.BTreeMap as tree
use Rattle.std.specs.List.{AllZip}
use Rattle.fab_desk_base.specs.Tenants.{Has}
use Rattle.fab_reach_base.specs.fab_names.Orders.{name_cmp}
use Rattle.fab_looks.specs.declared.reaching.Counts.{Counts}
use Rattle.fab_looks_ways.specs.Offers.{TellsReacher}
use Rattle.fab_looks_ways.proofs.reachers.reachers_of.Given as goal

abbrev pub invariant-loop-host : goal.invariant-loop-host
invariant-loop-host g l = tree.IsOrdered name_cmp l.hosts × ((before : List (List ℕ × Counts)) × (l.hosts.entries ≡ before ++ l.host-iterator) × AllZip (TellsReacher l.world l.volume (Has l.groups)) before l.reachers.items)

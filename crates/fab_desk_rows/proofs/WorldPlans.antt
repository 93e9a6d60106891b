-- The plans of a world, looked up.
use Rattle.std.proofs.Common.{◌≡◌, ℕ, List}
use Rattle.std.specs.BTreeMap.{BTreeMap, get}
use Rattle.std.specs.FinMap as map
use Rattle.fab_reach_base.proofs.fab_lemmas.SeenMaps.{same_look_ups}
use Rattle.fab_reach_base.specs.fab_names.Orders.{name_cmp}
use Rattle.fab_reach_base.proofs.fab_names.OrderLaws.{name_total}
use Rattle.fab_world.specs.PlanRecords.{PlanRecord}
use Rattle.fab_world.specs.Worlds.{WorldRows}

-- the tree of the plans of a world
pub look : (t : BTreeMap (List ℕ) PlanRecord) (w : WorldRows) → map.from_entries t.entries ≡ w.plans → get name_cmp t ≡ map.get w.plans
look t w is = same_look_ups name_total t w.plans is

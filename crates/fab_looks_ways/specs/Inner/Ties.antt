-- Ties of ports that are looked up.
use Rattle.std.specs.Prelude.{ℕ, ◌≡◌, Some}
use Rattle.std.specs.Ordering.{nat_cmp}
use Rattle.std.specs.BTreeMap.{BTreeMap, get}
use Rattle.fab_reach_base.specs.fab_inventory.declared.port.Port.{Port}
use Rattle.fab_reach_base.specs.fab_names.declared.fabric.Fabric.{Fabric}
use Rattle.fab_reach_base.specs.Reach.{IsPort}
use Rattle.fab_reach_base.specs.Records.{Records, zoning_at}
use Rattle.fab_reach_base.specs.fab_zoning.Joins.{Joined}
use Rattle.fab_reach_base.specs.fab_zoning.Zonings.{FabricZoning}
use Rattle.fab_reach_base.specs.fab_zoning_rows.Holding.{IsLoggedInAt}
use Rattle.fab_looks_ways.specs.Pairs.{AreZonesOf, IsTie, IsUpAt}
use Rattle.fab_looks_ways.specs.declared.ends.Ends.{Ends}
use Rattle.fab_looks_ways.specs.declared.ties.Tie.{Tie}
use Rattle.fab_looks_ways.specs.declared.zoned.Zoned.{Zoned}

-- the zones of the port of this name, where it is logged in
abbrev pub AreZonesAt : Records → ℕ → Zoned → Type 0
AreZonesAt w a z = (f : Fabric) (x : Port) → IsPort w a x → IsLoggedInAt f x → AreZonesOf (zoning_at w.config f) x z

-- what is kept of ports is right
abbrev pub IsMemo : Records → BTreeMap ℕ Zoned → Type 0
IsMemo w memo = (a : ℕ) (z : Zoned) → get nat_cmp memo a ≡ Some z → AreZonesAt w a z

-- what is told of ports that nothing joins
abbrev pub TellsApart : FabricZoning → Port → Port → Tie → Type 0
TellsApart v x y t = ¬ Joined v x y → IsTie v x y t

-- both ends are logged in at their fabric
abbrev pub AreUp : Records → Ends → Type 0
AreUp w e = IsUpAt w e.fabric e.initiator × IsUpAt w e.fabric e.target

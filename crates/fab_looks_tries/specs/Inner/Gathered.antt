-- What loops gather of hosts, paths and ports.
use Rattle.std.specs.Prelude.{ℕ, ◌≡◌, List, Contains, IsTrue}
use Rattle.std.specs.BTreeSet.{BTreeSet, contains}
use Rattle.std.specs.Ordering.{nat_cmp}
use Rattle.fab_inventory.specs.Inventories.{InventoryRows}
use Rattle.fab_inventory.specs.Ports.{port_at}
use Rattle.fab_inventory.specs.declared.port.Port.{Port}
use Rattle.fab_looks_tries.specs.Ports.{IsMoveOf}
use Rattle.fab_looks_tries.specs.declared.ports.PortMove.{PortMove}
use Rattle.fab_names.specs.declared.fabric.Fabric.{Fabric}
use Rattle.fab_reach_base.specs.Reach.{IsInitiatorOf}
use Rattle.fab_reach_base.specs.Records.{Records}
use Rattle.fab_reach_base.specs.declared.path.Path.{Path}

-- the set has the port
abbrev pub HasPort : BTreeSet ℕ → ℕ → Type 0
HasPort ports n = IsTrue (contains nat_cmp ports n)

-- the host holds the initiator of some of the paths
abbrev pub IsHostOfSome : Records → List Path → List ℕ → Type 0
IsHostOfSome w paths host = (x : Path) × Contains paths x × IsInitiatorOf w x.initiator host

-- one of the paths is over the fabric
abbrev pub IsOver : List Path → Fabric → Type 0
IsOver paths f = (x : Path) × Contains paths x × (x.fabric ≡ f)

-- the name is the port's, and this becomes of it
abbrev pub IsMoveAt : PortMove → InventoryRows → Port → ℕ → Type 0
IsMoveAt k w after n = IsMoveOf k (port_at w.ports after.name) after × (n ≡ after.name)

-- some of the ports is so
abbrev pub IsMoveOfSome : PortMove → InventoryRows → List Port → ℕ → Type 0
IsMoveOfSome k w ports n = (after : Port) × Contains ports after × IsMoveAt k w after n

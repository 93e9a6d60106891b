-- What an import does to ports.
use Rattle.std.specs.Prelude.{ℕ, ◌≡◌, ◌≢◌, List, length, Contains, Option, None, Some, IsSome}
use Rattle.std.specs.Ordering.{nat_cmp}
use Rattle.fab_inventory.specs.Inventories.{InventoryRows}
use Rattle.fab_inventory.specs.Ports.{port_at}
use Rattle.fab_inventory.specs.declared.port.Port.{Port}
use Rattle.fab_inventory.specs.declared.port.PortRow.{PortRow}
use Rattle.fab_lemmas.specs.Lists.{IsListOf}
use Rattle.fab_looks_tries.specs.declared.ports.PortMove.{PortMove}
use Rattle.fab_looks_tries.specs.declared.ports.PortMove.TheVariants as kind
use Rattle.fab_looks_tries.specs.declared.ports.PortsMoved.{PortsMoved}
use Rattle.fab_store_rows.specs.declared.inventory_row.InventoryRow.TheVariants as row
use Rattle.fab_store_world.specs.Inventories.{IsKnownOnlyIn, port_order}

-- a record is of the port of this name
abbrev pub IsListed : List PortRow → ℕ → Type 0
IsListed rows n = (r : PortRow) × Contains rows r × (r.name ≡ n)

-- so many ports are listed: records of one port count once
abbrev pub IsNumberListed : List PortRow → ℕ → Type 0
IsNumberListed rows n = (ports : List ℕ) × IsListOf nat_cmp (IsListed rows) ports × (n ≡ length ports)

-- a port that was so, if it was known, and is so: it was not known; it was, and is logged in where it
-- was not; it was logged in, and is logged in nowhere
abbrev pub IsMoveOf : PortMove → Option Port → Port → Type 0
IsMoveOf kind.New None after = Unit {0}
IsMoveOf kind.New (Some before) after = ⊥
IsMoveOf kind.Moved None after = ⊥
IsMoveOf kind.Moved (Some before) after = IsSome after.at × (before.at ≢ after.at)
IsMoveOf kind.LoggedOut None after = ⊥
IsMoveOf kind.LoggedOut (Some before) after = IsSome before.at × (after.at ≡ None)

-- this becomes of the port of this name, which is known afterwards
abbrev pub HasMove : PortMove → InventoryRows → InventoryRows → ℕ → Type 0
HasMove k w v n = (after : Port) × (port_at v.ports n ≡ Some after) × IsMoveOf k (port_at w.ports n) after

-- a change from w to v does this to ports, each list by name
pub record ArePortsMoved {A : Type 0} (w v : InventoryRows) (m : PortsMoved A) : Type 0 where
  pub new : IsListOf nat_cmp (HasMove kind.New w v) m.new.items
  pub moved : IsListOf nat_cmp (HasMove kind.Moved w v) m.moved.items
  pub logged_out : IsListOf nat_cmp (HasMove kind.LoggedOut w v) m.logged_out.items

-- the ports of v that are not so in w, by name
abbrev pub AreNewPorts : InventoryRows → InventoryRows → List Port → Type 0
AreNewPorts w v ports = IsListOf port_order (λ p. IsKnownOnlyIn v w (row.Port p)) ports

-- What an import does to the ports.
use Rattle.std.specs.Prelude.{ℕ, ◌≡◌, ◌≢◌, ◌<◌, List, Contains, length, take, slice_get, Option, None, Some, Bool, true, false, if◌then◌else◌}
use Rattle.std.specs.Option.{option_map, option_and_then}
use Rattle.std.specs.Ordering.{nat_cmp}
use Rattle.std.specs.FinMap as map
use Rattle.fab_names.specs.Places.{Position}
use Rattle.fab_names.specs.declared.fabric.Fabric.{Fabric}
use Rattle.fab_names.specs.declared.fabric.Fabric.TheVariants.{A, B}
use Rattle.fab_inventory.specs.Limits.{most_ports}
use Rattle.fab_inventory.specs.declared.port.PortRow.{PortRow}
use Rattle.fab_inventory.specs.declared.port.Known.{Known}
use Rattle.fab_inventory.specs.declared.fault.InventoryFault.{InventoryFault}
use Rattle.fab_inventory.specs.declared.fault.InventoryFault.TheVariants.{PortClash, Limit, Memory}
use Rattle.fab_inventory.specs.declared.fault.InventoryLimit.TheVariants.{Ports}

-- records of one port name are equal
abbrev pub Agrees : List PortRow → Type 0
Agrees rows = (r s : PortRow) → Contains rows r → Contains rows s → r.name ≡ s.name → r ≡ s

-- the first record that differs from an earlier one of its port name is one of the port w
pub record IsClash (rows : List PortRow) (w : ℕ) : Type 0 where
  pub at : ℕ
  pub here : at < length rows
  pub row : PortRow
  pub is : slice_get rows at ≡ Some row
  pub name : row.name ≡ w
  pub before : Agrees (take at rows)
  pub earlier : PortRow
  pub among : Contains (take at rows) earlier
  pub same : earlier.name ≡ row.name
  pub differs : earlier ≢ row

-- what a refusal of the records alone says
abbrev pub CheckFails : List PortRow → InventoryFault → Type 0
CheckFails rows (PortClash w) = IsClash rows w
CheckFails rows Memory = Unit {0}
CheckFails rows _ = ⊥

-- whether two fabrics are one
abbrev pub same_fabric : Fabric → Fabric → Bool
same_fabric A A = true
same_fabric A B = false
same_fabric B A = false
same_fabric B B = true

-- where a port stays logged in when those at the fabric are logged out
abbrev pub stays_at : Fabric → Option (Fabric × Position) → Option (Fabric × Position)
stays_at f None = None
stays_at f (Some p) = if same_fabric p.0 f then None else Some p

-- the address that a port keeps then, which was logged in there
abbrev pub keeps_at : Fabric → Option (Fabric × Position) → Option ℕ → Option ℕ
keeps_at f None address = address
keeps_at f (Some p) address = if same_fabric p.0 f then None else address

-- a port that is logged in at the fabric is logged in nowhere, and has no address
abbrev pub logged_out : Fabric → Known → Known
logged_out f k = record { node = k.node; at = stays_at f k.at; address = keeps_at f k.at k.address; holder = k.holder }

-- the port of a record, with the address that it tells, if any, and the holder that it had
abbrev pub logged_in : Fabric → PortRow → Option Known → Known
logged_in f r old = record { node = r.node; at = Some (f, r.place); address = r.address; holder = option_and_then (λ (k : Known). k.holder) old }

-- no record is of the port
abbrev pub IsUnlisted : List PortRow → ℕ → Type 0
IsUnlisted rows q = (r : PortRow) → Contains rows r → r.name ≢ q

-- listed ports are as their records say, with the holder that they had at first, and other ports as in the middle
pub record ListsIn (f : Fabric) (rows : List PortRow) (first middle last : ℕ → Option Known) : Type 0 where
  pub listed : (r : PortRow) → Contains rows r → last r.name ≡ Some (logged_in f r (first r.name))
  pub others : (q : ℕ) → IsUnlisted rows q → last q ≡ middle q

-- listed ports are as their records say, and other ports of the fabric are logged in nowhere
pub record IsImported (f : Fabric) (rows : List PortRow) (old new : map.FinMap nat_cmp Known) : Type 0 where
  pub agrees : Agrees rows
  pub listed : (r : PortRow) → Contains rows r → map.get new r.name ≡ Some (logged_in f r (map.get old r.name))
  pub others : (q : ℕ) → IsUnlisted rows q → map.get new q ≡ option_map (logged_out f) (map.get old q)

-- what a refusal of an import says: the first clash of two records, or that too many ports would be known
abbrev pub ImportFails : Fabric → List PortRow → map.FinMap nat_cmp Known → InventoryFault → Type 0
ImportFails f rows old (PortClash w) = IsClash rows w
ImportFails f rows old (Limit Ports) = (m : map.FinMap nat_cmp Known) × IsImported f rows old m × (most_ports < map.len m)
ImportFails f rows old Memory = Unit {0}
ImportFails f rows old _ = ⊥

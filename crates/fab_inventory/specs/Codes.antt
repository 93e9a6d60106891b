-- How ports, holders and volumes are stored in finite maps.
use Rattle.std.specs.Prelude.{ℕ, ◌≡◌, List, Option, Bool, true, false, refl}
use Rattle.std.specs.Coded.{Coded, code_by, coded×, coded_ℕ, coded_bool, coded_option}
use Rattle.std.specs.FinMap as map
use Rattle.fab_names.specs.Places.{Position}
use Rattle.fab_names.specs.Codes.{name_code, fabric_code, position_code}
use Rattle.fab_names.specs.declared.fabric.Fabric.{Fabric}
use Rattle.fab_inventory.specs.declared.port.Known.{Known}
use Rattle.fab_inventory.specs.declared.holder.HolderKind.{HolderKind}
use Rattle.fab_inventory.specs.declared.holder.HolderKind.TheVariants as kind
use Rattle.fab_inventory.specs.declared.holder.Holder.{Holder}
use Rattle.fab_inventory.specs.declared.holder.Volume.{Volume}
use Rattle.fab_inventory.specs.Inventories.{InventoryRows, HolderRows, VolumeRows}
use Rattle.fab_inventory.specs.Ports.{KnownPorts}

-- its node, where it is logged in, its address, and its holder
abbrev pub known_code : Coded Known
known_code =
    code_by (ℕ × (Option (Fabric × Position) × (Option ℕ × Option (List ℕ)))) (coded× coded_ℕ (coded× (coded_option (coded× fabric_code position_code)) (coded× (coded_option coded_ℕ) (coded_option name_code))))
    (λ k. (k.node, (k.at, (k.address, k.holder)))) (λ p. record { node = p.0; at = p.1.0; address = p.1.1.0; holder = p.1.1.1 })
    (λ _. refl)

-- whether a holder is an array
abbrev pub is_array : HolderKind → Bool
is_array kind.Host = false
is_array kind.Array = true

-- and back
abbrev pub kind_by : Bool → HolderKind
kind_by false = kind.Host
kind_by true = kind.Array

pub kind_by-is_array : (k : HolderKind) → kind_by (is_array k) ≡ k
kind_by-is_array kind.Host = refl
kind_by-is_array kind.Array = refl

-- its kind and its tenant
abbrev pub holder_code : Coded Holder
holder_code = code_by (Bool × List ℕ) (coded× coded_bool name_code) (λ h. (is_array h.kind, h.tenant)) (λ p. record { kind = kind_by p.0; tenant = p.1 }) (λ h i. record { kind = kind_by-is_array h.kind i; tenant = h.tenant })

-- its array, its tenant and its capacity
abbrev pub volume_code : Coded Volume
volume_code = code_by (List ℕ × (List ℕ × ℕ)) (coded× name_code (coded× name_code coded_ℕ)) (λ v. (v.array, (v.tenant, v.bytes))) (λ p. record { array = p.0; tenant = p.1.0; bytes = p.1.1 }) (λ _. refl)

-- the ports, the holders and the volumes
abbrev pub rows_code : Coded InventoryRows
rows_code =
    code_by (KnownPorts × (HolderRows × VolumeRows)) (coded× (map.code coded_ℕ known_code) (coded× (map.code name_code holder_code) (map.code name_code volume_code))) (λ v. (v.ports, (v.holders, v.volumes)))
    (λ p. record { ports = p.0; holders = p.1.0; volumes = p.1.1 })
    (λ _. refl)

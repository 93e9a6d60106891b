-- What the body of a request spells. A body is JSON as serde_json reads it: of a key that comes
-- twice in an object the last value counts, and members stand in the order of their keys.
use Rattle.std.specs.Prelude.{ℕ, ◌≡◌, List, Some, codes, IsUtf8}
use Rattle.serde_json.specs.Data.{Data, object, no_members, member}
use Rattle.serde_json.specs.Read.{read}
use Rattle.fab_inventory.specs.declared.holder.Volume.{Volume}
use Rattle.fab_wire_requests.specs.declared.fault.BodyFault.{BodyFault}
use Rattle.fab_wire_requests.specs.declared.fault.BodyFault.TheVariants.{Bad, Memory}
use Rattle.fab_wire_requests.specs.Values.{IsName, ArePorts, IsCapacity}

-- the text is UTF-8, and JSON of this value
abbrev pub HasValue : List ℕ → Data → Type 0
HasValue text value = IsUtf8 text × (read text ≡ Some value)

-- the text is no JSON
abbrev pub HasNoValue : List ℕ → Type 0
HasNoValue text = (value : Data) → ¬ (HasValue text value)

-- an object with the keys ports and tenant and no other: {"ports":[..],"tenant":..}
pub record SpellsHolder (text ports tenant : List ℕ) : Type 0 where
  pub first : Data
  pub second : Data
  pub is : HasValue text (object (member (codes "ports") first (member (codes "tenant") second no_members)))
  pub are_ports : ArePorts first ports
  pub is_tenant : IsName second tenant

-- an object with the keys array, bytes and tenant and no other: {"array":..,"bytes":..,"tenant":..}
pub record SpellsVolume (text : List ℕ) (volume : Volume) : Type 0 where
  pub first : Data
  pub second : Data
  pub third : Data
  pub is : HasValue text (object (member (codes "array") first (member (codes "bytes") second (member (codes "tenant") third no_members))))
  pub is_array : IsName first volume.array
  pub is_capacity : IsCapacity second volume.bytes
  pub is_tenant : IsName third volume.tenant

-- the text spells the ports and the tenant of no holder
abbrev pub SpellsNoHolder : List ℕ → Type 0
SpellsNoHolder text = (ports tenant : List ℕ) → ¬ (SpellsHolder text ports tenant)

-- the text spells no volume
abbrev pub SpellsNoVolume : List ℕ → Type 0
SpellsNoVolume text = (volume : Volume) → ¬ (SpellsVolume text volume)

-- a body is bad only where this holds of it: that it spells nothing of its form
abbrev pub IsFault : Type 0 → BodyFault → Type 0
IsFault nothing Bad = nothing
IsFault nothing Memory = Unit {0}

-- When a step on aliases, zones and zone sets is accepted, and what refuses it.
use Rattle.std.specs.Prelude.{ℕ, ◌≡◌, ◌<◌, ◌≤◌, List, length, Bool, true, false, All}
use Rattle.std.specs.FinMap as map
use Rattle.fab_names.specs.declared.member.Member.{Member}
use Rattle.fab_names.specs.declared.member.Member.TheVariants as member
use Rattle.fab_zoning.specs.declared.fault.ZoningFault.{ZoningFault}
use Rattle.fab_zoning.specs.declared.fault.ZoningFault.TheVariants.{Unknown, InUse, Empty, Limit, Memory}
use Rattle.fab_zoning.specs.declared.fault.ZoningLimit.TheVariants.{Aliases, Zones, Sets, Members, Active}
use Rattle.fab_zoning_rows.specs.fab_lemmas.MapsOfSets.{HasNoUser, IsFirstUser}
use Rattle.fab_zoning_rows.specs.fab_lemmas.Room.{IsFull, HasRoom}
use Rattle.fab_zoning_rows.specs.fab_lemmas.Firsts.{IsFirstWithout}
use Rattle.fab_zoning_rows.specs.Limits.{most_rows}
use Rattle.fab_zoning.specs.Limits.{most_aliases, most_zones, most_sets, most_members}
use Rattle.fab_zoning.specs.Zonings.{FabricZoning}
use Rattle.fab_zoning.specs.Resolved.{IsResolved, MoreThan}

-- a list of so many words may be put: some, and at most 255 (`most_members`)
abbrev pub IsListing : ℕ → Type 0
IsListing n = (0 < n) × (n ≤ most_members)

-- what refuses a list by its length alone
abbrev pub IsListingFault : ℕ → ZoningFault → Type 0
IsListingFault n Empty = n ≡ 0
IsListingFault n (Limit Members) = most_members < n
IsListingFault n _ = ⊥

-- the name that a member gives as an alias is known
abbrev pub NamesKnown : (List ℕ → Bool) → Member → Type 0
NamesKnown known m = (a : List ℕ) → m ≡ member.Alias a → known a ≡ true

-- the alias that a member names is there
abbrev pub HasAlias : FabricZoning → Member → Type 0
HasAlias v m = NamesKnown (map.contains_key v.aliases) m

-- the zone is there
abbrev pub HasZone : FabricZoning → List ℕ → Type 0
HasZone v z = map.contains_key v.zones z ≡ true

-- putting an alias: the list may be put, and there is room for the alias
pub record CanPutAlias (v : FabricZoning) (name : List ℕ) (members : List Member) : Type 0 where
  pub listing : IsListing (length members)
  pub room : HasRoom v.aliases name most_aliases

abbrev pub IsPutAliasFault : FabricZoning → List ℕ → List Member → ZoningFault → Type 0
IsPutAliasFault v name members Empty = IsListingFault (length members) Empty
IsPutAliasFault v name members (Limit Members) = IsListingFault (length members) (Limit Members)
IsPutAliasFault v name members (Limit Aliases) = IsListing (length members) × IsFull v.aliases name most_aliases
IsPutAliasFault v name members Memory = Unit {0}
IsPutAliasFault v name members _ = ⊥

-- putting a zone: the list may be put, its aliases are there, and there is room for the zone
pub record CanPutZone (v : FabricZoning) (name : List ℕ) (members : List Member) : Type 0 where
  pub listing : IsListing (length members)
  pub known : All (HasAlias v) members
  pub room : HasRoom v.zones name most_zones

abbrev pub IsPutZoneFault : FabricZoning → List ℕ → List Member → ZoningFault → Type 0
IsPutZoneFault v name members Empty = IsListingFault (length members) Empty
IsPutZoneFault v name members (Limit Members) = IsListingFault (length members) (Limit Members)
IsPutZoneFault v name members (Unknown alias) = IsListing (length members) × IsFirstWithout (HasAlias v) members (member.Alias alias)
IsPutZoneFault v name members (Limit Zones) = IsListing (length members) × All (HasAlias v) members × IsFull v.zones name most_zones
IsPutZoneFault v name members Memory = Unit {0}
IsPutZoneFault v name members _ = ⊥

-- putting a zone set: the list may be put, its zones are there, and there is room for the set
pub record CanPutSet (v : FabricZoning) (name : List ℕ) (zones : List (List ℕ)) : Type 0 where
  pub listing : IsListing (length zones)
  pub known : All (HasZone v) zones
  pub room : HasRoom v.sets name most_sets

abbrev pub IsPutSetFault : FabricZoning → List ℕ → List (List ℕ) → ZoningFault → Type 0
IsPutSetFault v name zones Empty = IsListingFault (length zones) Empty
IsPutSetFault v name zones (Limit Members) = IsListingFault (length zones) (Limit Members)
IsPutSetFault v name zones (Unknown zone) = IsListing (length zones) × IsFirstWithout (HasZone v) zones zone
IsPutSetFault v name zones (Limit Sets) = IsListing (length zones) × All (HasZone v) zones × IsFull v.sets name most_sets
IsPutSetFault v name zones Memory = Unit {0}
IsPutSetFault v name zones _ = ⊥

-- dropping an alias: it is there, and no zone names it
pub record CanDropAlias (v : FabricZoning) (name : List ℕ) : Type 0 where
  pub known : map.contains_key v.aliases name ≡ true
  pub unused : HasNoUser v.zones (member.Alias name)

abbrev pub IsDropAliasFault : FabricZoning → List ℕ → ZoningFault → Type 0
IsDropAliasFault v name (Unknown alias) = (alias ≡ name) × (map.contains_key v.aliases name ≡ false)
IsDropAliasFault v name (InUse alias zone) = (alias ≡ name) × (map.contains_key v.aliases name ≡ true) × IsFirstUser v.zones (member.Alias name) zone
IsDropAliasFault v name _ = ⊥

-- dropping a zone: it is there, and no zone set names it
pub record CanDropZone (v : FabricZoning) (name : List ℕ) : Type 0 where
  pub known : map.contains_key v.zones name ≡ true
  pub unused : HasNoUser v.sets name

abbrev pub IsDropZoneFault : FabricZoning → List ℕ → ZoningFault → Type 0
IsDropZoneFault v name (Unknown zone) = (zone ≡ name) × (map.contains_key v.zones name ≡ false)
IsDropZoneFault v name (InUse zone by) = (zone ≡ name) × (map.contains_key v.zones name ≡ true) × IsFirstUser v.sets name by
IsDropZoneFault v name _ = ⊥

-- what refuses to drop a zone set: it is not there
abbrev pub IsDropSetFault : FabricZoning → List ℕ → ZoningFault → Type 0
IsDropSetFault v name (Unknown s) = (s ≡ name) × (map.contains_key v.sets name ≡ false)
IsDropSetFault v name _ = ⊥

-- what refuses to activate a zone set: it is not there, or it has more than 65536 rows
abbrev pub IsActivateFault : FabricZoning → List ℕ → ZoningFault → Type 0
IsActivateFault v name (Unknown s) = (s ≡ name) × (map.contains_key v.sets name ≡ false)
IsActivateFault v name (Limit Active) = MoreThan most_rows (IsResolved v name)
IsActivateFault v name Memory = Unit {0}
IsActivateFault v name _ = ⊥

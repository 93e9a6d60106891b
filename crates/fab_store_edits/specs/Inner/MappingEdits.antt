-- One group of a mapping becomes another.
use Rattle.std.specs.Prelude.{ℕ, ◌≡◌, ◌≢◌, ◌⊎◌, List, Option, None, Some}
use Rattle.std.specs.FinMap as map
use Rattle.std.specs.FinSet as set
use Rattle.fab_reach_base.specs.fab_zoning.Edits.{Puts, Takes}
use Rattle.fab_reach_base.specs.fab_mapping_base.Groups.{HostGroupRows, StorageGroupRows, HaveSameHead, new_storage_group}
use Rattle.fab_reach_base.specs.fab_mapping.Mappings.{MappingRows}
use Rattle.fab_store_rows.specs.declared.config_row.HostGroupRow.{HostGroupRow}
use Rattle.fab_store_rows.specs.declared.config_row.StorageGroupRow.{StorageGroupRow}
use Rattle.fab_store_rows.specs.declared.config_row.StoragePart.{StoragePart}
use Rattle.fab_store_rows.specs.declared.config_row.StoragePart.TheVariants as part
use Rattle.fab_store_rows.specs.Standing.{HasPart}

-- what stands at a name was one thing and is another, and all else is as it was
pub record BecomesAt {X : Type 0} (name : List ℕ) (before after : Option X) (old new : List ℕ → Option X) : Type 0 where
  pub was : old name ≡ before
  pub now : new name ≡ after
  pub off : (q : List ℕ) → (new q ≡ old q) ⊎ (q ≡ name)

-- of host groups
pub record HostsBecome (name : List ℕ) (before after : Option HostGroupRows) (old new : MappingRows) : Type 0 where
  pub at : BecomesAt name before after (map.get old.host_groups) (map.get new.host_groups)
  pub rest : new.groups ≡ old.groups

-- of storage groups
pub record StorageBecomes (name : List ℕ) (before after : Option StorageGroupRows) (old new : MappingRows) : Type 0 where
  pub at : BecomesAt name before after (map.get old.groups) (map.get new.groups)
  pub rest : new.host_groups ≡ old.host_groups

-- ---- hosts

-- one host more
pub record PutsHost (name host : List ℕ) (old new : MappingRows) : Type 0 where
  pub was : HostGroupRows
  pub is : HostsBecome name (Some was) (Some (record was { hosts = set.insert was.hosts host })) old new

-- one host less, or there is no such group
abbrev pub TakesHost : List ℕ → List ℕ → MappingRows → MappingRows → Type 0
TakesHost name host old new = ((was : HostGroupRows) × HostsBecome name (Some was) (Some (record was { hosts = set.remove was.hosts host })) old new) ⊎ HostsBecome name None None old new

-- the host group of a row: the one that is there with its head, or a new one
abbrev pub hosts_headed : HostGroupRow → Option HostGroupRows → HostGroupRows
hosts_headed r None = record { tenant = r.tenant; hosts = set.empty }
hosts_headed r (Some g) = record g { tenant = r.tenant }

-- ---- parts

-- one part more under the same head
pub record PutsPart (p : StoragePart) (old new : StorageGroupRows) : Type 0 where
  pub puts : Puts p (λ d. HasPart d old) (λ d. HasPart d new)
  pub head : HaveSameHead old new

-- one part less under the same head
pub record TakesPart (p : StoragePart) (old new : StorageGroupRows) : Type 0 where
  pub takes : Takes p (λ d. HasPart d old) (λ d. HasPart d new)
  pub head : HaveSameHead old new

-- another volume is at the unit of the part
abbrev pub IsTakenUnit : StoragePart → StorageGroupRows → Type 0
IsTakenUnit (part.HostGroup k) g = ⊥
IsTakenUnit (part.Target q) g = ⊥
IsTakenUnit (part.Unit u v) g = (w : List ℕ) × (map.get g.units u ≡ Some w) × (w ≢ v)

-- a storage group has one part more
pub record PutsIn (name : List ℕ) (p : StoragePart) (old new : MappingRows) : Type 0 where
  pub was : StorageGroupRows
  pub becomes : StorageGroupRows
  pub puts : PutsPart p was becomes
  pub is : StorageBecomes name (Some was) (Some becomes) old new

-- a storage group has one part less, or there is no such group
pub record TakesOf (name : List ℕ) (p : StoragePart) (old new : MappingRows) : Type 0 where
  pub was : StorageGroupRows
  pub becomes : StorageGroupRows
  pub takes : TakesPart p was becomes
  pub is : StorageBecomes name (Some was) (Some becomes) old new

-- the storage group of a row: the one that is there with its head, or a new one
abbrev pub storage_headed : StorageGroupRow → Option StorageGroupRows → StorageGroupRows
storage_headed r None = record (new_storage_group r.tenant r.array) { exposed = r.exposed }
storage_headed r (Some g) = record g { tenant = r.tenant; array = r.array; exposed = r.exposed }

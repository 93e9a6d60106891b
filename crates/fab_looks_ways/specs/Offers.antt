-- Who reaches a volume, and by which storage groups, as a caller is told.
use Rattle.std.specs.Prelude.{ℕ, ◌≡◌, List, Contains, Some, true}
use Rattle.std.specs.List.{AllZip}
use Rattle.std.specs.Ordering.{nat_cmp}
use Rattle.std.specs.BTreeMap.{BTreeMap}
use Rattle.std.specs.BTreeMap as tree
use Rattle.std.specs.FinMap as map
use Rattle.fab_reach_base.specs.fab_lemmas.Lists.{IsListOf}
use Rattle.fab_reach_base.specs.fab_names.Orders.{name_cmp}
use Rattle.fab_reach_base.specs.fab_inventory.declared.holder.HolderKind.TheVariants as kind
use Rattle.fab_reach_base.specs.fab_mapping.Mappings.{MappingRows}
use Rattle.fab_reach_base.specs.fab_mapping_base.Groups.{StorageGroupRows}
use Rattle.fab_reach_base.specs.Gathering.{Serves}
use Rattle.fab_policy.specs.fab_policy_base.Policies.{PolicyRows}
use Rattle.fab_world.specs.Worlds.{WorldRows}
use Rattle.fab_desk_base.specs.Tenants.{IsHolderOf}
use Rattle.fab_looks.specs.Seeing.{AreTold}
use Rattle.fab_looks.specs.declared.reaching.Counts.{Counts}
use Rattle.fab_looks.specs.Ways.{IsOwnMapping}
use Rattle.fab_looks_ways.specs.declared.reachers.Reacher.{Reacher}

-- the host is there, and has a tenant
abbrev pub HasTenant : WorldRows → List ℕ → Type 0
HasTenant w host = (t : List ℕ) × IsHolderOf w.inventory kind.Host host t

-- the storage group of this name is exposed, and serves the host
abbrev pub IsOffer : MappingRows → List ℕ → List ℕ → Type 0
IsOffer m host n = (g : StorageGroupRows) × (map.get m.groups n ≡ Some g) × (g.exposed ≡ true) × Serves m g host

-- the storage group maps the volume at the logical unit number
abbrev pub IsUnitOf : StorageGroupRows → List ℕ → ℕ → Type 0
IsUnitOf g volume u = map.get g.units u ≡ Some volume

-- and so does that of this name
abbrev pub IsUnitAt : MappingRows → List ℕ → List ℕ → ℕ → Type 0
IsUnitAt m volume n u = (g : StorageGroupRows) × (map.get m.groups n ≡ Some g) × IsUnitOf g volume u

-- and so does one of these
abbrev pub IsUnitOfSome : MappingRows → List ℕ → List (List ℕ) → ℕ → Type 0
IsUnitOfSome m volume names u = (n : List ℕ) × Contains names n × IsUnitAt m volume n u

-- the host of an entry with its tenant and its counts, just those storage groups with P that are exposed
-- and serve it, and just the logical unit numbers at which these map the volume, each in order
pub record TellsReacher {A : Type 0} (w : WorldRows) (volume : List ℕ) (P : List ℕ → Type 0) (e : List ℕ × Counts) (r : Reacher A) : Type 0 where
  pub host_is : r.host ≡ e.0
  pub tenant_is : IsHolderOf w.inventory kind.Host e.0 r.tenant
  pub counts_are : r.counts ≡ e.1
  pub groups_are : IsListOf name_cmp (λ n. P n × IsOffer w.config.mapping e.0 n) r.groups.items
  pub units_are : IsListOf nat_cmp (IsUnitOfSome w.config.mapping volume r.groups.items) r.units.items

-- just the caller's hosts that reach the volume, in order, with their counts, each with the caller's
-- storage groups that offer it the volume; nobody, where the volume is not the caller's
abbrev pub AreToldReachers : {A : Type 0} → PolicyRows → WorldRows → ℕ → List ℕ → List (Reacher A) → Type 0
AreToldReachers {A} p w id volume rs = (m : BTreeMap (List ℕ) Counts) × tree.IsOrdered name_cmp m × AreTold p w id volume m × AllZip (TellsReacher w volume (IsOwnMapping p w id volume)) m.entries rs

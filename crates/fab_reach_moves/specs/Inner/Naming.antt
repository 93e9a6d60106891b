-- What the rows of a difference name. No public contract names anything of this file.
use Rattle.std.specs.Prelude.{ℕ, ◌≡◌, ◌⊎◌, List, Contains, Option, None, Some, Bool, true}
use Rattle.std.specs.BTreeMap.{BTreeMap}
use Rattle.std.specs.BTreeSet.{BTreeSet}
use Rattle.fab_lemmas.specs.MapsOfSets.{tree_has}
use Rattle.fab_names.specs.Orders.{name_cmp}
use Rattle.fab_names.specs.declared.fabric.Fabric.{Fabric}
use Rattle.fab_store_rows.specs.declared.config_row.GroupRow.TheVariants as group
use Rattle.fab_store_rows.specs.declared.config_row.PartRow.TheVariants as parts
use Rattle.fab_reach_books.specs.declared.row.Row.{Row}
use Rattle.fab_reach_books.specs.declared.row.Row.TheVariants.{Port, Holder, Active, DefaultZone, Group, Part}

-- the storage groups of each host group, or of each host
abbrev pub Names : Type 0
Names = BTreeMap (List ℕ) (BTreeSet (List ℕ))

-- the storage group that the row is one of
abbrev pub group_said : Row → Option (List ℕ)
group_said (Group (group.Storage r)) = Some r.name
group_said (Group (group.Host r)) = None
group_said (Part (parts.Storage n p)) = Some n
group_said (Part (parts.Host k h)) = None
group_said (Port p) = None
group_said (Holder h) = None
group_said (Active r) = None
group_said (DefaultZone f p) = None

-- the host group of which the row says a host
abbrev pub host_group_said : Row → Option (List ℕ)
host_group_said (Part (parts.Host k h)) = Some k
host_group_said (Part (parts.Storage n p)) = None
host_group_said (Group r) = None
host_group_said (Port p) = None
host_group_said (Holder h) = None
host_group_said (Active r) = None
host_group_said (DefaultZone f p) = None

-- the storage group has the host group of which the row says a host
abbrev pub IsServing : Names → Row → List ℕ → Type 0
IsServing serving r n = (k : List ℕ) × (host_group_said r ≡ Some k) × (tree_has name_cmp name_cmp serving k n ≡ true)

-- the row is one of the storage group, or says a host of a host group that it has
abbrev pub IsTouchedBy : Names → Row → List ℕ → Type 0
IsTouchedBy serving r n = (group_said r ≡ Some n) ⊎ IsServing serving r n

-- some of the rows is
abbrev pub IsTouchedByAny : Names → List Row → List ℕ → Type 0
IsTouchedByAny serving rows n = (r : Row) × Contains rows r × IsTouchedBy serving r n

-- some of the rows says what the default zone of the fabric permits
abbrev pub SaysFlag : List Row → Fabric → Type 0
SaysFlag rows f = (p : Bool) × Contains rows (DefaultZone f p)

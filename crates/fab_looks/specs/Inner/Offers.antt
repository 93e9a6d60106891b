-- How the paths of a host to a volume are found: what the private loops say of themselves. No public
-- contract names anything of this file.
use Rattle.std.specs.Prelude.{ℕ, ◌≡◌, ◌↔◌, List, Contains, Some, true}
use Rattle.std.specs.FinMap as map
use Rattle.std.specs.FinSet as set
use Rattle.fab_names.specs.declared.fabric.Fabric.{Fabric}
use Rattle.fab_inventory.specs.declared.port.Port.{Port}
use Rattle.fab_zoning_rows.specs.Holding.{IsLoggedInAt}
use Rattle.fab_zoning.specs.Joins.{Joined}
use Rattle.fab_mapping_base.specs.Groups.{StorageGroupRows}
use Rattle.fab_reach_base.specs.Records.{Records, zoning_at}
use Rattle.fab_reach_base.specs.Reach.{IsPort, IsTarget}
use Rattle.fab_reach_base.specs.declared.path.Path.{Path}
use Rattle.fab_looks.specs.Links.{AreMet}

-- the list has all with P, and nothing else
abbrev pub AreJust : {X : Type 0} → (X → Type 0) → List X → Type 0
AreJust {X} P xs = (x : X) → Contains xs x ↔ P x

-- the port of this name is logged in
abbrev pub IsLoggedIn : Records → ℕ → Port → Type 0
IsLoggedIn w name p = IsPort w name p × ((f : Fabric) × IsLoggedInAt f p)

-- a path in the fabric between the ports to the volume, at a unit of the group that has it
abbrev pub UnitPath : Fabric → ℕ → ℕ → StorageGroupRows → List ℕ → Path → Type 0
UnitPath f p q g volume x = (x.fabric ≡ f) × (x.initiator ≡ p) × (x.target ≡ q) × (x.volume ≡ volume) × (map.get g.units x.unit ≡ Some volume)

-- a fabric where both ports are logged in, and such a path there
abbrev pub PairPath : StorageGroupRows → List ℕ → Port → Port → Path → Type 0
PairPath g volume q p x = IsLoggedInAt x.fabric p × IsLoggedInAt x.fabric q × UnitPath x.fabric p.name q.name g volume x

-- from one of these ports
abbrev pub TargetPath : List Port → StorageGroupRows → List ℕ → Port → Path → Type 0
TargetPath ports g volume q x = (p : Port) × Contains ports p × PairPath g volume q p x

-- to the port of this name, which an array holds
abbrev pub NamedPath : Records → List Port → StorageGroupRows → List ℕ → ℕ → Path → Type 0
NamedPath w ports g volume name x = (q : Port) × IsPort w name q × IsTarget w q × TargetPath ports g volume q x

-- to a target of the group
abbrev pub GroupPath : Records → List Port → List ℕ → StorageGroupRows → Path → Type 0
GroupPath w ports volume g x = (name : ℕ) × (set.contains g.targets name ≡ true) × NamedPath w ports g volume name x

-- by one of these groups
abbrev pub AnyPath : Records → List Port → List ℕ → List StorageGroupRows → Path → Type 0
AnyPath w ports volume groups x = (g : StorageGroupRows) × Contains groups g × GroupPath w ports volume g x

-- all links but the last are there along the path
pub record IsOffer (w : Records) (host volume : List ℕ) (x : Path) : Type 0 where
  pub group : StorageGroupRows
  pub from : Port
  pub to : Port
  pub met : AreMet w host volume group x.fabric from to
  pub path : UnitPath x.fabric from.name to.name group volume x

-- and so is the last: its ports are known, and may communicate in its fabric
abbrev pub MayPass : Records → Path → Type 0
MayPass w x = (p q : Port) × IsPort w x.initiator p × IsPort w x.target q × Joined (zoning_at w.config x.fabric) p q

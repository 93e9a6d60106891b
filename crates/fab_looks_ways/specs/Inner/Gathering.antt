-- Ends that are gathered.
use Rattle.std.specs.Prelude.{ℕ, ◌≡◌, ◌↔◌, List, Contains, Some, true}
use Rattle.std.specs.BTreeSet.{BTreeSet}
use Rattle.std.specs.FinMap as map
use Rattle.std.specs.FinSet as set
use Rattle.fab_reach_base.specs.fab_inventory.Holders as holders
use Rattle.fab_reach_base.specs.fab_names.declared.fabric.Fabric.{Fabric}
use Rattle.fab_reach_base.specs.fab_mapping_base.Groups.{StorageGroupRows, MapsVolume}
use Rattle.fab_reach_base.specs.Gathering.{Serves}
use Rattle.fab_reach_base.specs.Records.{Records}
use Rattle.fab_policy.specs.fab_policy_base.Policies.{PolicyRows}
use Rattle.fab_world.specs.Worlds.{WorldRows, records_of}
use Rattle.fab_desk_base.specs.Showing.{IsOpenTo}
use Rattle.fab_desk_base.specs.Tenants.{Has}
use Rattle.fab_desk_base.specs.declared.command.Query.TheVariants as query
use Rattle.fab_looks_ways.specs.Pairs.{HasEnds, IsServedTarget, IsUpAt}
use Rattle.fab_looks.specs.Ways.{IsOwnMapping}
use Rattle.fab_looks_ways.specs.declared.ends.Ends.{Ends}

-- the storage group of the entry maps the volume, its read is open to the caller, and it is its name
abbrev pub IsOwnEntry : PolicyRows → WorldRows → ℕ → List ℕ → List ℕ × StorageGroupRows → List ℕ → Type 0
IsOwnEntry p w id volume e n = MapsVolume volume e.1 × IsOpenTo p w id (query.Group e.0) × (n ≡ e.0)

-- the ends of the initiator, which is logged in at the fabric, and the target
abbrev pub PortEnds : Records → Fabric → ℕ → ℕ → Ends → Type 0
PortEnds w f q a e = IsUpAt w f a × (e.fabric ≡ f) × (e.initiator ≡ a) × (e.target ≡ q)

-- of one of these ports
abbrev pub PortsEnds : Records → List ℕ → Fabric → ℕ → Ends → Type 0
PortsEnds w ports f q e = (a : ℕ) × Contains ports a × PortEnds w f q a e

-- where the target is logged in
abbrev pub TargetEnds : Records → List ℕ → ℕ → Ends → Type 0
TargetEnds w ports q e = (f : Fabric) × IsUpAt w f q × PortsEnds w ports f q e

-- of a target of the storage group
abbrev pub TargetsEnds : Records → List ℕ → StorageGroupRows → Ends → Type 0
TargetsEnds w ports g e = (q : ℕ) × (set.contains g.targets q ≡ true) × TargetEnds w ports q e

-- of that of this name, which serves the host
abbrev pub GroupEnds : Records → List ℕ → List ℕ → List ℕ → Ends → Type 0
GroupEnds w ports host n e = (g : StorageGroupRows) × (map.get w.config.mapping.groups n ≡ Some g) × Serves w.config.mapping g host × TargetsEnds w ports g e

-- of one of these names
abbrev pub GroupsEnds : Records → List ℕ → List ℕ → BTreeSet (List ℕ) → Ends → Type 0
GroupsEnds w ports host names e = (n : List ℕ) × Has names n × GroupEnds w ports host n e

-- of the host's ports and the caller's storage groups of the volume
abbrev pub IsEndsOf : PolicyRows → WorldRows → ℕ → List ℕ → List ℕ → Ends → Type 0
IsEndsOf p w id host volume e = holders.Holds (map.get w.inventory.ports) host e.initiator × ((n : List ℕ) × IsOwnMapping p w id volume n × IsServedTarget (records_of w) host n e.target) × IsUpAt (records_of w) e.fabric e.initiator × IsUpAt (records_of w) e.fabric e.target

abbrev pub AreEndsOf : PolicyRows → WorldRows → ℕ → List ℕ → List ℕ → BTreeSet Ends → Type 0
AreEndsOf p w id host volume ends = (e : Ends) → HasEnds ends e ↔ IsEndsOf p w id host volume e

-- What reads show, and to whom.
use Rattle.std.specs.Prelude.{ℕ, ◌≡◌, List, [], ◌∷◌, All, Any, Option, None, Some, true, IsSome, string_bytes}
use Rattle.std.specs.List.Sorted.{IsStrictlySortedBy}
use Rattle.std.specs.Ordering.{nat_cmp}
use Rattle.std.specs.FinMap as map
use Rattle.std.specs.FinSet as set
use Rattle.fab_reach_base.specs.fab_lemmas.Lists.{IsListOf}
use Rattle.fab_reach_base.specs.fab_lemmas.MapsOfSets.{MapOfSets}
use Rattle.fab_reach_base.specs.fab_names.Orders.{name_cmp, member_cmp}
use Rattle.fab_reach_base.specs.fab_names.declared.fabric.Fabric.{Fabric}
use Rattle.fab_reach_base.specs.fab_names.declared.member.Member.{Member}
use Rattle.fab_reach_base.specs.fab_inventory.declared.holder.HolderKind.{HolderKind}
use Rattle.fab_reach_base.specs.fab_inventory.declared.holder.HolderKind.TheVariants as kind
use Rattle.fab_reach_base.specs.fab_inventory.declared.port.Known.{Known}
use Rattle.fab_reach_base.specs.fab_inventory.declared.port.Port.{Port}
use Rattle.fab_reach_base.specs.fab_inventory.Holders.{Holds}
use Rattle.fab_reach_base.specs.fab_zoning.Joins.{Joined, IsFirstZone, InDefaultZone}
use Rattle.fab_reach_base.specs.fab_zoning_rows.Rows.{Rows}
use Rattle.fab_reach_base.specs.fab_mapping_base.Groups.{HostGroupRows, StorageGroupRows}
use Rattle.fab_reach_base.specs.Orders as paths
use Rattle.fab_reach_base.specs.Reach.{IsPort, ReachesFrom}
use Rattle.fab_reach_base.specs.Records.{Records, zoning_at}
use Rattle.fab_world.specs.fab_plans_base.Plans.{plan_text}
use Rattle.fab_policy.specs.declared.act.Approval.{Approval}
use Rattle.fab_policy.specs.fab_policy_base.Callers.{sees}
use Rattle.fab_policy.specs.fab_policy_base.Policies.{PolicyRows}
use Rattle.fab_world.specs.PlanRecords.{PlanRecord}
use Rattle.fab_world.specs.Plans.{state_of}
use Rattle.fab_world.specs.Worlds.{WorldRows, records_of}
use Rattle.fab_desk_base.specs.Commands.{IsPlan}
use Rattle.fab_desk_base.specs.Tenants.{Thing, holder, volume, host_group, storage_group, IsTenantOf, IsHolderOf}
use Rattle.fab_desk_base.specs.declared.command.Query.{Query}
use Rattle.fab_desk_base.specs.declared.command.Query.TheVariants as query
use Rattle.fab_desk_base.specs.declared.reply.Joint.{Joint}
use Rattle.fab_desk_base.specs.declared.reply.Joint.TheVariants as joint
use Rattle.fab_desk_base.specs.declared.reply.Shown.{Shown}
use Rattle.fab_desk_base.specs.declared.reply.Shown.TheVariants as shown
use Rattle.fab_desk_base.specs.declared.reply.ZoneMembers.{ZoneMembers}

-- ---- to whom

-- the thing is there, and its tenant is one of the caller's
abbrev pub IsOwn : PolicyRows → WorldRows → ℕ → Thing → Type 0
IsOwn p w id x = (t : List ℕ) × IsTenantOf (records_of w) x t × (sees p id t ≡ true)

-- what the read asks for is there, and is for the caller: paths, hosts, arrays, volumes and groups
-- are for their tenants, and all else is for everybody
abbrev pub IsOpenTo : PolicyRows → WorldRows → ℕ → Query → Type 0
IsOpenTo p w id (query.Paths h) = IsOwn p w id (holder kind.Host h)
IsOpenTo p w id (query.Joined a b) = IsSome (map.get w.inventory.ports a) × IsSome (map.get w.inventory.ports b)
IsOpenTo p w id (query.Port a) = IsSome (map.get w.inventory.ports a)
IsOpenTo p w id (query.Holder k n) = IsOwn p w id (holder k n)
IsOpenTo p w id (query.Volume n) = IsOwn p w id (volume n)
IsOpenTo p w id (query.HostGroup n) = IsOwn p w id (host_group n)
IsOpenTo p w id (query.Group n) = IsOwn p w id (storage_group n)
IsOpenTo p w id (query.Plan n) = IsSome (map.get w.plans n)
IsOpenTo p w id (query.Alias f n) = IsSome (map.get (zoning_at w.config f).aliases n)
IsOpenTo p w id (query.Zone f n) = IsSome (map.get (zoning_at w.config f).zones n)
IsOpenTo p w id (query.Set f n) = IsSome (map.get (zoning_at w.config f).sets n)
IsOpenTo p w id (query.Active f) = Unit {0}

-- ---- what

-- the paths of the host
abbrev pub ShowsPaths : {A : Type 0} → WorldRows → List ℕ → Shown A → Type 0
ShowsPaths w n (shown.Paths host xs) = (host ≡ n) × paths.IsListOf (ReachesFrom (records_of w) n) xs.items
ShowsPaths w n _ = ⊥

-- why the ports may communicate: at a fabric the first zone that has both, or its default zone; or
-- that they may at none
abbrev pub IsJoint : Records → Port → Port → Option Joint → Type 0
IsJoint w a b None = (f : Fabric) → ¬ Joined (zoning_at w.config f) a b
IsJoint w a b (Some (joint.Zone z)) = (f : Fabric) × Joined (zoning_at w.config f) a b × IsFirstZone (zoning_at w.config f) a b z
IsJoint w a b (Some joint.Default) = (f : Fabric) × Joined (zoning_at w.config f) a b × InDefaultZone (zoning_at w.config f) a b

-- why the ports of these names may communicate
abbrev pub ShowsJoined : {A : Type 0} → WorldRows → ℕ → ℕ → Shown A → Type 0
ShowsJoined w a b (shown.Joined j) = (x y : Port) × IsPort (records_of w) a x × IsPort (records_of w) b y × IsJoint (records_of w) x y j
ShowsJoined w a b _ = ⊥

-- the port
abbrev pub ShowsPort : {A : Type 0} → WorldRows → ℕ → Shown A → Type 0
ShowsPort w n (shown.Port name node at address) = (k : Known) × (map.get w.inventory.ports n ≡ Some k) × (name ≡ n) × (node ≡ k.node) × (at ≡ k.at) × (address ≡ k.address)
ShowsPort w n _ = ⊥

-- the host or the array, and its ports
abbrev pub ShowsHolder : {A : Type 0} → WorldRows → HolderKind → List ℕ → Shown A → Type 0
ShowsHolder w k n (shown.Holder x) = (x.kind ≡ k) × (x.name ≡ n) × IsHolderOf w.inventory k n x.tenant × IsListOf nat_cmp (Holds (map.get w.inventory.ports) n) x.ports.items
ShowsHolder w k n _ = ⊥

-- the volume
abbrev pub ShowsVolume : {A : Type 0} → WorldRows → List ℕ → Shown A → Type 0
ShowsVolume w n (shown.Volume name x) = (name ≡ n) × (map.get w.inventory.volumes n ≡ Some x)
ShowsVolume w n _ = ⊥

-- the host group
abbrev pub ShowsHostGroup : {A : Type 0} → WorldRows → List ℕ → Shown A → Type 0
ShowsHostGroup w n (shown.HostGroup name t hosts) = (g : HostGroupRows) × (map.get w.config.mapping.host_groups n ≡ Some g) × (name ≡ n) × (t ≡ g.tenant) × IsListOf name_cmp (λ h. set.contains g.hosts h ≡ true) hosts.items
ShowsHostGroup w n _ = ⊥

-- the parts that a storage group has
pub record AreParts (g : StorageGroupRows) (host_groups : List (List ℕ)) (targets : List ℕ) (units : List (ℕ × List ℕ)) : Type 0 where
  pub host_groups_are : IsListOf name_cmp (λ h. set.contains g.host_groups h ≡ true) host_groups
  pub targets_are : IsListOf nat_cmp (λ t. set.contains g.targets t ≡ true) targets
  pub units_are : units ≡ map.entries g.units

-- the storage group
abbrev pub ShowsGroup : {A : Type 0} → WorldRows → List ℕ → Shown A → Type 0
ShowsGroup w n (shown.Group x) = (g : StorageGroupRows) × (map.get w.config.mapping.groups n ≡ Some g) × (x.name ≡ n) × (x.tenant ≡ g.tenant) × (x.array ≡ g.array) × (x.exposed ≡ g.exposed) × AreParts g x.host_groups.items x.targets.items x.units.items
ShowsGroup w n _ = ⊥

-- the approvals of the entries, in their order
abbrev pub AreEntries : List (List ℕ × ℕ) → List Approval → Type 0
AreEntries [] [] = Unit {0}
AreEntries [] (x ∷ xs) = ⊥
AreEntries (e ∷ es) [] = ⊥
AreEntries (e ∷ es) (x ∷ xs) = (x.caller ≡ e.0) × (x.revision ≡ e.1) × AreEntries es xs

-- the plan
abbrev pub ShowsPlan : {A : Type 0} → WorldRows → List ℕ → Shown A → Type 0
ShowsPlan w n (shown.Plan x) = (p : PlanRecord) × IsPlan w n p × (x.name ≡ n) × (x.author ≡ p.author) × (x.state ≡ state_of p.standing) × AreEntries (map.entries p.approvals) x.approvals.items × (string_bytes x.text ≡ plan_text p.steps)
ShowsPlan w n _ = ⊥

-- the alias or the zone, of these of the fabric
abbrev pub ShowsMembers : {A : Type 0} → MapOfSets name_cmp member_cmp → Fabric → List ℕ → Shown A → Type 0
ShowsMembers m f n (shown.Members fabric name members) = (s : set.FinSet member_cmp) × (map.get m n ≡ Some s) × (fabric ≡ f) × (name ≡ n) × IsListOf member_cmp (λ m. set.contains s m ≡ true) members.items
ShowsMembers m f n _ = ⊥

-- the zone set
abbrev pub ShowsSet : {A : Type 0} → WorldRows → Fabric → List ℕ → Shown A → Type 0
ShowsSet w f n (shown.Set fabric name zones) = (s : set.FinSet name_cmp) × (map.get (zoning_at w.config f).sets n ≡ Some s) × (fabric ≡ f) × (name ≡ n) × IsListOf name_cmp (λ z. set.contains s z ≡ true) zones.items
ShowsSet w f n _ = ⊥

-- some active row is of the zone
abbrev pub IsActiveZone : Rows → List ℕ → Type 0
IsActiveZone rows z = (m : Member) × (set.contains rows (z, m) ≡ true)

-- the zones of the active rows, in order, each with its members
pub record AreActiveZones {A : Type 0} (rows : Rows) (zones : List (ZoneMembers A)) : Type 0 where
  pub sorted : IsStrictlySortedBy (λ x y. name_cmp x.name y.name) zones
  pub sound : All (λ z. IsActiveZone rows z.name) zones
  pub complete : (n : List ℕ) → IsActiveZone rows n → Any (λ z. z.name ≡ n) zones
  pub members : All (λ z. IsListOf member_cmp (λ m. set.contains rows (z.name, m) ≡ true) z.members.items) zones

-- what is active in the fabric
abbrev pub ShowsActive : {A : Type 0} → WorldRows → Fabric → Shown A → Type 0
ShowsActive w f (shown.Active fabric active flag zones) = (fabric ≡ f) × (active ≡ (zoning_at w.config f).active) × (flag ≡ (zoning_at w.config f).flag) × AreActiveZones (zoning_at w.config f).rows zones.items
ShowsActive w f _ = ⊥

-- what the read shows
abbrev pub Shows : {A : Type 0} → WorldRows → Query → Shown A → Type 0
Shows w (query.Paths h) = ShowsPaths w h
Shows w (query.Joined a b) = ShowsJoined w a b
Shows w (query.Port a) = ShowsPort w a
Shows w (query.Holder k n) = ShowsHolder w k n
Shows w (query.Volume n) = ShowsVolume w n
Shows w (query.HostGroup n) = ShowsHostGroup w n
Shows w (query.Group n) = ShowsGroup w n
Shows w (query.Plan n) = ShowsPlan w n
Shows w (query.Alias f n) = ShowsMembers (zoning_at w.config f).aliases f n
Shows w (query.Zone f n) = ShowsMembers (zoning_at w.config f).zones f n
Shows w (query.Set f n) = ShowsSet w f n
Shows w (query.Active f) = ShowsActive w f

-- The things on the way from a host to a volume that a caller may read of.
use Rattle.std.specs.Prelude.{ℕ, ◌≡◌, ◌≤◌, ◌⊎◌, ◌↔◌, List, ◌++◌, length, map, Contains, Some}
use Rattle.std.specs.List.{AllZip}
use Rattle.std.specs.Ordering.{nat_cmp}
use Rattle.std.specs.FinMap as fin
use Rattle.fab_reach_base.specs.fab_lemmas.Lists.{IsListOf}
use Rattle.fab_reach_base.specs.fab_names.Orders.{name_cmp}
use Rattle.fab_reach_base.specs.fab_inventory.Holders.{Holds}
use Rattle.fab_reach_base.specs.fab_inventory.declared.holder.HolderKind.TheVariants as kind
use Rattle.fab_reach_base.specs.fab_mapping_base.Groups.{StorageGroupRows, MapsVolume}
use Rattle.fab_policy.specs.fab_policy_base.Policies.{PolicyRows}
use Rattle.fab_world.specs.Worlds.{WorldRows}
use Rattle.fab_desk_base.specs.Showing.{IsOpenTo, Shows}
use Rattle.fab_desk_base.specs.declared.command.Query.{Query}
use Rattle.fab_desk_base.specs.declared.command.Query.TheVariants as query
use Rattle.fab_desk_base.specs.declared.reply.Shown.{Shown}
use Rattle.fab_looks.specs.Told.{SeesHost}

-- ---- which reads there are

-- it is this read, which is open to the caller
abbrev pub IsOpenQuery : PolicyRows → WorldRows → ℕ → Query → Query → Type 0
IsOpenQuery p w id asked q = (q ≡ asked) × IsOpenTo p w id asked

-- the host is the caller's, and holds the port
abbrev pub IsOwnPort : PolicyRows → WorldRows → ℕ → List ℕ → ℕ → Type 0
IsOwnPort p w id host a = SeesHost p w id host × Holds (fin.get w.inventory.ports) host a

-- a storage group of this name maps the volume, and its read is open to the caller
abbrev pub IsOwnMapping : PolicyRows → WorldRows → ℕ → List ℕ → List ℕ → Type 0
IsOwnMapping p w id volume n = (g : StorageGroupRows) × (fin.get w.config.mapping.groups n ≡ Some g) × MapsVolume volume g × IsOpenTo p w id (query.Group n)

-- ---- in which order

-- just what has P, which is one at most
abbrev pub IsOneAtMost : {X : Type 0} → (X → Type 0) → List X → Type 0
IsOneAtMost {X} P xs = ((x : X) → Contains xs x ↔ P x) × (length xs ≤ 1)

-- the reads of just the ports with P, each once, in order
abbrev pub ArePortReads : (ℕ → Type 0) → List Query → Type 0
ArePortReads P qs = (ports : List ℕ) × IsListOf nat_cmp P ports × (qs ≡ map (λ (a : ℕ). query.Port a) ports)

-- the reads of just the storage groups with P, each once, in order
abbrev pub AreGroupReads : (List ℕ → Type 0) → List Query → Type 0
AreGroupReads P qs = (names : List (List ℕ)) × IsListOf name_cmp P names × (qs ≡ map (λ (n : List ℕ). query.Group n) names)

-- the reads that are open to the caller of the host, of the ports that it holds, of the volume, and of the
-- storage groups that map it, in this order, and nothing else
pub record AreOfWay (p : PolicyRows) (w : WorldRows) (id : ℕ) (host volume : List ℕ) (qs : List Query) : Type 0 where
  pub hosts : List Query
  pub ports : List Query
  pub volumes : List Query
  pub groups : List Query
  pub host_is : IsOneAtMost (IsOpenQuery p w id (query.Holder kind.Host host)) hosts
  pub ports_are : ArePortReads (IsOwnPort p w id host) ports
  pub volume_is : IsOneAtMost (IsOpenQuery p w id (query.Volume volume)) volumes
  pub groups_are : AreGroupReads (IsOwnMapping p w id volume) groups
  pub in_order : qs ≡ hosts ++ ports ++ volumes ++ groups

-- and what each shows
abbrev pub AreWayRows : {A : Type 0} → PolicyRows → WorldRows → ℕ → List ℕ → List ℕ → List (Shown A) → Type 0
AreWayRows p w id host volume rows = (qs : List Query) × AreOfWay p w id host volume qs × AllZip (Shows w) qs rows

-- ---- one of them

-- the host is the caller's, and it is the read of the host, or of a port that it holds
abbrev pub HostQuery : PolicyRows → WorldRows → ℕ → List ℕ → Query → Type 0
HostQuery p w id host q = SeesHost p w id host × ((q ≡ query.Holder kind.Host host) ⊎ ((a : ℕ) × Holds (fin.get w.inventory.ports) host a × (q ≡ query.Port a)))

-- it is the read of a storage group of the caller's that maps the volume
abbrev pub MappedQuery : PolicyRows → WorldRows → ℕ → List ℕ → Query → Type 0
MappedQuery p w id volume q = (n : List ℕ) × (g : StorageGroupRows) × (fin.get w.config.mapping.groups n ≡ Some g) × MapsVolume volume g × IsOpenQuery p w id (query.Group n) q

-- it is one of the reads on the way
abbrev pub IsOfWay : PolicyRows → WorldRows → ℕ → List ℕ → List ℕ → Query → Type 0
IsOfWay p w id host volume q = HostQuery p w id host q ⊎ (IsOpenQuery p w id (query.Volume volume) q ⊎ MappedQuery p w id volume q)

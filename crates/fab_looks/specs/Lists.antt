-- The names of each kind that a caller may see.
use Rattle.std.specs.Prelude.{ℕ, ◌↔◌, List, IsTrue, IsSome}
use Rattle.std.specs.BTreeSet.{BTreeSet, contains}
use Rattle.std.specs.FinMap as map
use Rattle.std.specs.Ordering.{nat_cmp}
use Rattle.fab_reach_base.specs.fab_inventory.declared.holder.HolderKind.TheVariants as kind
use Rattle.fab_policy.specs.fab_policy_base.Policies.{PolicyRows}
use Rattle.fab_world.specs.Worlds.{WorldRows}
use Rattle.fab_desk_base.specs.Showing.{IsOpenTo}
use Rattle.fab_desk_base.specs.Tenants.{Has}
use Rattle.fab_desk_base.specs.declared.command.Query.{Query}
use Rattle.fab_desk_base.specs.declared.command.Query.TheVariants as query
use Rattle.fab_looks.specs.declared.listing.Kind.{Kind}
use Rattle.fab_looks.specs.declared.listing.Kind.TheVariants as kinds

-- the read of one name of the kind
abbrev pub query_of : Kind → List ℕ → Query
query_of kinds.Hosts n = query.Holder kind.Host n
query_of kinds.Arrays n = query.Holder kind.Array n
query_of kinds.Volumes n = query.Volume n
query_of kinds.HostGroups n = query.HostGroup n
query_of kinds.Groups n = query.Group n
query_of kinds.Plans n = query.Plan n
query_of (kinds.Aliases f) n = query.Alias f n
query_of (kinds.Zones f) n = query.Zone f n
query_of (kinds.Sets f) n = query.Set f n

-- just the names of the kind whose read is open to the caller
abbrev pub IsListing : PolicyRows → WorldRows → ℕ → Kind → BTreeSet (List ℕ) → Type 0
IsListing p w id k names = (n : List ℕ) → Has names n ↔ IsOpenTo p w id (query_of k n)

-- the set has the port
abbrev pub HasPort : BTreeSet ℕ → ℕ → Type 0
HasPort ports a = IsTrue (contains nat_cmp ports a)

-- just the known ports, whose reads are open to every caller
abbrev pub AreKnownPorts : WorldRows → BTreeSet ℕ → Type 0
AreKnownPorts w ports = (a : ℕ) → HasPort ports a ↔ IsSome (map.get w.inventory.ports a)

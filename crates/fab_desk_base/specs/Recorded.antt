-- What a read finds in the world alone.
use Rattle.std.specs.Prelude.{ℕ, List, Option, MatchOption, IsSome}
use Rattle.std.specs.FinMap as map
use Rattle.fab_reach_base.specs.Records.{zoning_at}
use Rattle.fab_world.specs.Worlds.{WorldRows, records_of}
use Rattle.fab_desk_base.specs.Showing.{Shows}
use Rattle.fab_desk_base.specs.Tenants.{Thing, holder, volume, host_group, storage_group, IsTenantOf}
use Rattle.fab_desk_base.specs.declared.command.Query.{Query}
use Rattle.fab_desk_base.specs.declared.command.Query.TheVariants as query
use Rattle.fab_desk_base.specs.declared.reply.Shown.{Shown}

-- the thing is there
abbrev pub IsThere : WorldRows → Thing → Type 0
IsThere w x = (t : List ℕ) × IsTenantOf (records_of w) x t

-- what the read asks for is there, and is not the paths of a host
abbrev pub IsRecorded : WorldRows → Query → Type 0
IsRecorded w (query.Paths h) = ⊥
IsRecorded w (query.Joined a b) = IsSome (map.get w.inventory.ports a) × IsSome (map.get w.inventory.ports b)
IsRecorded w (query.Port a) = IsSome (map.get w.inventory.ports a)
IsRecorded w (query.Holder k n) = IsThere w (holder k n)
IsRecorded w (query.Volume n) = IsThere w (volume n)
IsRecorded w (query.HostGroup n) = IsThere w (host_group n)
IsRecorded w (query.Group n) = IsThere w (storage_group n)
IsRecorded w (query.Plan n) = IsSome (map.get w.plans n)
IsRecorded w (query.Alias f n) = IsSome (map.get (zoning_at w.config f).aliases n)
IsRecorded w (query.Zone f n) = IsSome (map.get (zoning_at w.config f).zones n)
IsRecorded w (query.Set f n) = IsSome (map.get (zoning_at w.config f).sets n)
IsRecorded w (query.Active f) = Unit {0}

-- what the read finds: none where it is not there, and else what it shows
abbrev pub IsFound : {A : Type 0} → WorldRows → Query → Option (Shown A) → Type 0
IsFound w q found = MatchOption found (¬ IsRecorded w q) (λ s. IsRecorded w q × Shows w q s)

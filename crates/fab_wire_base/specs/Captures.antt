-- The parts that a path captures, as matchit has them.
use Rattle.std.specs.Prelude.{ℕ, ◌≡◌, ◌<◌, List, Option, Some, None, codes}
use Rattle.std.specs.List.{AllByRecursion}
use Rattle.matchit.specs.Seek.{first}
use Rattle.matchit.specs.Params.{walk, named}
use Rattle.matchit.specs.Router.{RouteOf}
use Rattle.fab_wire_base.specs.Routes.{desk_table}
use Rattle.fab_wire_base.specs.Segments.{segment_at}
use Rattle.fab_wire_base.specs.declared.kinds.Route.{Route}
use Rattle.fab_wire_base.specs.declared.kinds.Route.TheVariants as route

-- the part of a path that a name of its route took
abbrev pub captured : RouteOf Route → List ℕ → List ℕ → Option (List ℕ)
captured found name path = named name (walk found.pattern found.text path found.names 0 0)

-- the first name in a route's path
abbrev pub first_name : Route → List ℕ
first_name route.Imports = codes "fabric"
first_name route.Ports = codes "wwn"
first_name route.Hosts = codes "name"
first_name route.Arrays = codes "name"
first_name route.Volumes = codes "name"
first_name route.Plans = codes "name"
first_name route.Approve = codes "name"
first_name route.DryRun = codes "name"
first_name route.Activate = codes "name"
first_name route.Rollback = codes "name"
first_name route.Paths = codes "host"
first_name route.Joined = codes "p"
first_name route.Active = codes "fabric"
first_name route.Aliases = codes "fabric"
first_name route.Zones = codes "fabric"
first_name route.Sets = codes "fabric"
first_name route.HostGroups = codes "name"
first_name route.Groups = codes "name"

-- the first name in the path of the route that is found captures the segment behind the second slash
abbrev pub FirstCaptures : Type 0
FirstCaptures = (path : List ℕ) (found : RouteOf Route) → AllByRecursion (λ b. b < 256) path → first desk_table path ≡ Some found
    → captured found (first_name found.value) path ≡ Some (segment_at 2 path)

-- the second name in a route's path, if it has two
abbrev pub second_name : Route → Option (List ℕ)
second_name route.Joined = Some (codes "q")
second_name route.Aliases = Some (codes "name")
second_name route.Zones = Some (codes "name")
second_name route.Sets = Some (codes "name")
second_name other = None

-- the second name captures the segment behind the third slash
abbrev pub SecondCaptures : Type 0
SecondCaptures = (path : List ℕ) (found : RouteOf Route) → AllByRecursion (λ b. b < 256) path → first desk_table path ≡ Some found
    → (name : List ℕ) → second_name found.value ≡ Some name → captured found name path ≡ Some (segment_at 3 path)

-- The paths of the desk, their methods, and what each asks for.
use Rattle.std.specs.Prelude.{ℕ, List, [], ◌∷◌, ◌++◌, Bool, true, false, Option, Some, None, codes, map, if◌then◌else◌}
use Rattle.std.specs.Str.{bytes_eq}
use Rattle.fab_wire_base.specs.declared.kinds.Kind.{Kind}
use Rattle.fab_wire_base.specs.declared.kinds.Kind.TheVariants as kind
use Rattle.fab_wire_base.specs.declared.kinds.Form.{Form}
use Rattle.fab_wire_base.specs.declared.kinds.Form.TheVariants as form
use Rattle.fab_wire_base.specs.declared.kinds.Route.{Route}
use Rattle.fab_wire_base.specs.declared.kinds.Route.TheVariants as route

-- a path, and what each of its methods asks for, methods in the order of their bytes
pub record Entry : Type 0 where
  pub path : List ℕ
  pub methods : List (List ℕ × Kind)

-- the table
abbrev pub entry_of : Route → Entry
entry_of route.Imports = record { path = codes "/imports/{fabric}"; methods = (codes "POST", kind.Import) ∷ [] }
entry_of route.Ports = record { path = codes "/ports/{wwn}"; methods = (codes "GET", kind.ShowPort) ∷ [] }
entry_of route.Hosts = record { path = codes "/hosts/{name}"; methods = (codes "DELETE", kind.DropHost) ∷ (codes "GET", kind.ShowHost) ∷ (codes "PUT", kind.PutHost) ∷ [] }
entry_of route.Arrays = record { path = codes "/arrays/{name}"; methods = (codes "DELETE", kind.DropArray) ∷ (codes "GET", kind.ShowArray) ∷ (codes "PUT", kind.PutArray) ∷ [] }
entry_of route.Volumes = record { path = codes "/volumes/{name}"; methods = (codes "DELETE", kind.DropVolume) ∷ (codes "GET", kind.ShowVolume) ∷ (codes "PUT", kind.PutVolume) ∷ [] }
entry_of route.Plans = record { path = codes "/plans/{name}"; methods = (codes "DELETE", kind.Withdraw) ∷ (codes "GET", kind.ShowPlan) ∷ (codes "PUT", kind.Stage) ∷ [] }
entry_of route.Approve = record { path = codes "/plans/{name}/approve"; methods = (codes "POST", kind.Approve) ∷ [] }
entry_of route.DryRun = record { path = codes "/plans/{name}/dryrun"; methods = (codes "GET", kind.DryRun) ∷ [] }
entry_of route.Activate = record { path = codes "/plans/{name}/activate"; methods = (codes "POST", kind.Activate) ∷ [] }
entry_of route.Rollback = record { path = codes "/plans/{name}/rollback"; methods = (codes "POST", kind.Rollback) ∷ [] }
entry_of route.Paths = record { path = codes "/paths/{host}"; methods = (codes "GET", kind.Paths) ∷ [] }
entry_of route.Joined = record { path = codes "/joined/{p}/{q}"; methods = (codes "GET", kind.Joined) ∷ [] }
entry_of route.Active = record { path = codes "/active/{fabric}"; methods = (codes "GET", kind.ShowActive) ∷ [] }
entry_of route.Aliases = record { path = codes "/aliases/{fabric}/{name}"; methods = (codes "GET", kind.ShowAlias) ∷ [] }
entry_of route.Zones = record { path = codes "/zones/{fabric}/{name}"; methods = (codes "GET", kind.ShowZone) ∷ [] }
entry_of route.Sets = record { path = codes "/sets/{fabric}/{name}"; methods = (codes "GET", kind.ShowSet) ∷ [] }
entry_of route.HostGroups = record { path = codes "/hostgroups/{name}"; methods = (codes "GET", kind.ShowHostGroup) ∷ [] }
entry_of route.Groups = record { path = codes "/groups/{name}"; methods = (codes "GET", kind.ShowGroup) ∷ [] }

-- every route, in the order of the table
abbrev pub all_routes : List Route
all_routes =
    route.Imports ∷ route.Ports ∷ route.Hosts ∷ route.Arrays ∷ route.Volumes ∷ route.Plans ∷ route.Approve ∷ route.DryRun ∷ route.Activate ∷ route.Rollback
    ∷ route.Paths ∷ route.Joined ∷ route.Active ∷ route.Aliases ∷ route.Zones ∷ route.Sets ∷ route.HostGroups ∷ route.Groups ∷ []

-- the form of the body that a kind takes
abbrev pub form_of : Kind → Form
form_of kind.Import = form.PortList
form_of kind.Stage = form.PlanText
form_of kind.PutHost = form.Holder
form_of kind.PutArray = form.Holder
form_of kind.PutVolume = form.Volume
form_of other = form.Nothing

-- the path of a route, with its captured parts in braces
abbrev pub path_of : Route → List ℕ
path_of r = (entry_of r).path

-- whether a form is that of a body
abbrev pub is_body : Form → Bool
is_body form.Nothing = false
is_body other = true

-- the kind that a method asks for among these
abbrev pub kind_in : List (List ℕ × Kind) → List ℕ → Option Kind
kind_in [] method = None
kind_in (m ∷ ms) method = if bytes_eq m.0 method then Some m.1 else kind_in ms method

-- what a method asks for at a route
abbrev pub kind_at : Route → List ℕ → Option Kind
kind_at r method = kind_in (entry_of r).methods method

-- texts joined by a comma and a space
abbrev pub listed : List (List ℕ) → List ℕ
listed [] = []
listed (text ∷ []) = text
listed (text ∷ another ∷ texts) = text ++ codes ", " ++ listed (another ∷ texts)

-- the header line that lists the methods of a route
abbrev pub allow_line_of : Route → List ℕ
allow_line_of r = codes "Allow: " ++ listed (map (λ m. m.0) (entry_of r).methods) ++ codes "\r\n"

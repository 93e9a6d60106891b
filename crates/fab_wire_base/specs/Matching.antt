-- What a path that matches a route looks like.
use Rattle.std.specs.Prelude.{ℕ, ◌≡◌, ◌<◌, List, [], ◌∷◌, ◌++◌, false, length, ◌⊎◌, Result, Ok, Err, Some}
use Rattle.matchit.specs.Rows.{RowsOf}
use Rattle.matchit.specs.Seek.{first, has_slash}
use Rattle.matchit.specs.Route.{Scan, parse_route, scan_start}
use Rattle.matchit.specs.Router.{RouteOf}
use Rattle.fab_wire_base.specs.Table.{path_of}
use Rattle.fab_wire_base.specs.Routes.{desk_table}
use Rattle.fab_wire_base.specs.declared.kinds.Route.{Route}

-- a row is among the rows
abbrev pub IsRowOf : {K : Type 0} → List ℕ → K → RowsOf K → Type 0
IsRowOf t k [] = ⊥
IsRowOf t k (row ∷ rows) = ((t ≡ row.0) × (k ≡ row.1)) ⊎ IsRowOf t k rows

-- a part that a parameter takes: at least one byte, and no slash
pub record IsPart (part : List ℕ) : Type 0 where
  pub some : 0 < length part
  pub plain : has_slash part ≡ false

-- the path is the pattern, with a part for each parameter (256), and anything for a catch-all (257)
abbrev pub Matches : List ℕ → List ℕ → Type 0
Matches [] path = path ≡ []
Matches (x ∷ t) path =
    ((rest : List ℕ) × (path ≡ x ∷ rest) × Matches t rest)
    ⊎ (((x ≡ 256) × ((part : List ℕ) × (rest : List ℕ) × (path ≡ part ++ rest) × IsPart part × Matches t rest))
    ⊎ (x ≡ 257))

-- what the text of a route's path gives
abbrev pub scan_in : {E : Type 0} → Result Scan E → Scan
scan_in (Ok scan) = scan
scan_in (Err fault) = scan_start

unfoldable pub scan_of : Route → Scan
scan_of r = scan_in (parse_route (path_of r))

-- a path whose route is found matches the route's pattern
abbrev pub FoundMatches : Type 0
FoundMatches = (path : List ℕ) (found : RouteOf Route) → first desk_table path ≡ Some found → Matches (scan_of found.value).pattern path

-- The routes of the desk, as matchit keeps and finds them.
use Rattle.std.specs.Prelude.{ℕ, List, [], ◌∷◌, Option, Result, Ok, Err, option_map, Bool, false, is_none}
use Rattle.matchit.specs.Rows.{RowsOf}
use Rattle.matchit.specs.Order.{placed}
use Rattle.matchit.specs.Route.{Scan, parse_route}
use Rattle.matchit.specs.Router.{RouteOf, nearest, route_from}
use Rattle.matchit.specs.Seek.{first}
use Rattle.fab_wire_base.specs.Table.{all_routes}
use Rattle.fab_wire_base.specs.declared.kinds.Route.{Route}
use Rattle.fab_wire_base.specs.Table.{path_of}

-- the routes of a router
abbrev pub Table : Type 0
Table = RowsOf (RouteOf Route)

-- a table with a route more, where its path could be read
abbrev pub with_scan : {E : Type 0} → Result Scan E → Route → Table → Table
with_scan (Ok scan) r table = placed (scan.pattern, route_from scan r) table
with_scan (Err fault) r table = table

-- a table with a route more, under its path
unfoldable pub with_route : Route → Table → Table
with_route r table = with_scan (parse_route (path_of r)) r table

-- a table with these routes more, in turn
unfoldable pub table_from : Table → List Route → Table
table_from table [] = table
table_from table (r ∷ routes) = table_from (with_route r table) routes

-- whether no route of a table conflicts with a path
abbrev pub fits_scan : {E : Type 0} → Result Scan E → Table → Bool
fits_scan (Ok scan) table = is_none (nearest scan.pattern table)
fits_scan (Err fault) table = false

-- whether a route fits a table
unfoldable pub fits : Route → Table → Bool
fits r table = fits_scan (parse_route (path_of r)) table

-- the router's table: every route
abbrev pub desk_table : Table
desk_table = table_from [] all_routes

-- the route of a path, by matchit's own look-up
abbrev pub route_of : List ℕ → Option Route
route_of path = option_map (λ found. found.value) (first desk_table path)

-- How the zones that are kept by member are seen as rows.
use Rattle.std.specs.Prelude.{ℕ, List, [], ◌∷◌, ◌++◌, map}
use Rattle.std.specs.BTreeSet.{BTreeSet}
use Rattle.std.specs.FinSet as set
use Rattle.fab_inventory.specs.fab_names.declared.member.Member.{Member}
use Rattle.fab_zoning_rows.specs.Rows.{Row, Rows}

-- a row for each zone of each member
abbrev pub listed_rows : List (Member × BTreeSet (List ℕ)) → List Row
listed_rows [] = []
listed_rows (e ∷ es) = map (λ zone. (zone, e.0)) e.1.keys ++ listed_rows es

abbrev pub seen_rows : List (Member × BTreeSet (List ℕ)) → Rows
seen_rows es = set.from_list (listed_rows es)

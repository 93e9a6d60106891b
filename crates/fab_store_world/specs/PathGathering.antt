-- How the rows of paths are gathered. Public contracts name `Has`, `IsRowOf` and `IsRowOfSome`; the rest is
-- what private loops say of themselves.
use Rattle.std.specs.Prelude.{◌≡◌, ◌↔◌, List, Contains, IsTrue}
use Rattle.std.specs.BTreeSet.{BTreeSet, contains}
use Rattle.fab_reach_base.specs.declared.path.Path.{Path}
use Rattle.fab_reach_base.specs.Reach.{IsInitiatorOf}
use Rattle.fab_reach_base.specs.Records.{Records}
use Rattle.fab_world.specs.fab_store_rows.declared.record_row.PathRow.{PathRow}
use Rattle.fab_store_world.specs.Paths.{IsPathRow, path_row_cmp}

-- the set has the row
abbrev pub Has : BTreeSet PathRow → PathRow → Type 0
Has s r = IsTrue (contains path_row_cmp s r)

-- the sets have the same rows
abbrev pub HaveSame : BTreeSet PathRow → BTreeSet PathRow → Type 0
HaveSame s t = (r : PathRow) → Has s r ↔ Has t r

-- the row is the path's, of the host that holds its initiator
abbrev pub IsRowOf : Records → Path → PathRow → Type 0
IsRowOf w x r = (r.path ≡ x) × IsInitiatorOf w x.initiator r.host

-- the row of one of the paths
abbrev pub IsRowOfSome : Records → List Path → PathRow → Type 0
IsRowOfSome w paths r = (x : Path) × Contains paths x × IsRowOf w x r

-- the set has just the rows of the world's paths
abbrev pub HasPathRows : Records → BTreeSet PathRow → Type 0
HasPathRows w s = (r : PathRow) → Has s r ↔ IsPathRow w r

-- The rows of paths: which stand in a world, their order, and what one world has and another has not.
use Rattle.std.specs.Prelude.{List, Contains, ◌↔◌}
use Rattle.std.specs.declared.cmp.Ordering.{Ordering}
use Rattle.std.specs.Ordering.{ordering_then}
use Rattle.fab_reach_base.specs.fab_lemmas.Lists.{IsListOf}
use Rattle.fab_reach_base.specs.fab_names.Orders.{name_cmp}
use Rattle.fab_reach_base.specs.Orders.{path_order}
use Rattle.fab_reach_base.specs.Limits.{MoreThan, IsPathsFault, most_paths}
use Rattle.fab_reach_base.specs.Reach.{Reaches, ReachesFrom}
use Rattle.fab_reach_base.specs.declared.listing.PathsFault.{PathsFault}
use Rattle.fab_reach_base.specs.Records.{Records}
use Rattle.fab_world.specs.fab_store_rows.declared.record_row.PathRow.{PathRow}
use Rattle.fab_world.specs.fab_store_rows.contracts.record_row.PathRowOrd.TheImpl as rows

-- the path is there, and the host holds its initiator
abbrev pub IsPathRow : Records → PathRow → Type 0
IsPathRow w r = ReachesFrom w r.host r.path

-- the rows, in any order and however often each, are just those of the world's paths
abbrev pub ArePathRows : Records → List PathRow → Type 0
ArePathRows w rows = (r : PathRow) → Contains rows r ↔ IsPathRow w r

-- the row stands in the first world, and not in the second
pub record IsPathRowOnlyIn (w v : Records) (r : PathRow) : Type 0 where
  pub there : IsPathRow w r
  pub not_there : ¬ IsPathRow v r

-- by host, and then by path
abbrev pub path_row_order : PathRow → PathRow → Ordering
path_row_order a b = ordering_then (name_cmp a.host b.host) (path_order a.path b.path)

-- the same order as the code has it, which sets use: a law says that the two are one
abbrev pub path_row_cmp : PathRow → PathRow → Ordering
path_row_cmp = rows.ghosts.cmp

-- the lists are the rows of paths that are gone after a change, and those that have come
pub record ArePathChanges (before after : Records) (taken added : List PathRow) : Type 0 where
  pub takes : IsListOf path_row_order (IsPathRowOnlyIn before after) taken
  pub adds : IsListOf path_row_order (IsPathRowOnlyIn after before) added

-- the world has no more paths than there may be
abbrev pub HasFewPaths : Records → Type 0
HasFewPaths w = ¬ MoreThan most_paths (Reaches w)

-- why the rows of the world's paths are not listed
abbrev pub PathsFail : Records → PathsFault → Type 0
PathsFail w = IsPathsFault most_paths (Reaches w)

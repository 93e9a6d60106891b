-- A difference by key. No public contract of the room names anything of this file.
use Rattle.std.specs.Prelude.{List}
use Rattle.std.specs.Ordering.{nat_cmp}
use Rattle.fab_names.specs.Orders.{name_cmp}
use Rattle.fab_reach_base.specs.Records.{Records}
use Rattle.fab_reach_books.specs.Rows.{IsRowDiff}
use Rattle.fab_reach_books.specs.declared.row.Row.{Row}
use Rattle.fab_reach_index.specs.Indexes.{IsTreeOf, member_at_cmp}
use Rattle.fab_reach_moves.specs.Inner.Listing.{SaysHeld, SaysHead}
use Rattle.fab_reach_moves.specs.Inner.Saying.{SaysPortAt, SaysHost, SaysHostGroup, SaysServing, SaysTarget, SaysUnitAt, SaysZoned, IsSaid, AreSaid}
use Rattle.fab_reach_moves.specs.declared.told.Side.{Side}
use Rattle.fab_reach_moves.specs.declared.told.Told.{Told}

-- the maps are what the rows say
pub record IsSideOf {A : Type 0} (rows : List Row) (s : Side A) : Type 0 where
  pub ports : AreSaid nat_cmp SaysPortAt rows s.ports
  pub held : IsTreeOf name_cmp nat_cmp (IsSaid SaysHeld rows) s.held
  pub hosts : IsTreeOf name_cmp name_cmp (IsSaid SaysHost rows) s.hosts
  pub host_groups : IsTreeOf name_cmp name_cmp (IsSaid SaysHostGroup rows) s.host_groups
  pub serving : IsTreeOf name_cmp name_cmp (IsSaid SaysServing rows) s.serving
  pub targets : IsTreeOf name_cmp nat_cmp (IsSaid SaysTarget rows) s.targets
  pub heads : AreSaid name_cmp SaysHead rows s.heads
  pub units : AreSaid name_cmp SaysUnitAt rows s.units
  pub zoned : IsTreeOf member_at_cmp name_cmp (IsSaid SaysZoned rows) s.zoned

-- both sides are what the rows of a difference of the two worlds say
pub record IsTold {A : Type 0} (w v : Records) (t : Told A) : Type 0 where
  pub gone : List Row
  pub come : List Row
  pub diff : IsRowDiff w v gone come
  pub left : IsSideOf gone t.gone
  pub new : IsSideOf come t.come

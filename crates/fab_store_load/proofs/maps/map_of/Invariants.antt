use Rattle.std.proofs.Common.{take}
use Rattle.std.specs.BTreeMap.{get}
use Rattle.fab_store_load.specs.Rows.{AreRows, StandsIn}
use Rattle.fab_store_load.proofs.maps.map_of.Given as goal

abbrev pub invariant-loop-row : goal.invariant-loop-row
invariant-loop-row g l = AreRows (g.S.Kind.row_of l.kind) (take l.row-index l.rows) (StandsIn (get g.K.Ord.cmp l.map))

use Rattle.std.proofs.Common.{take}
use Rattle.fab_store_load.specs.Rows.{AreRows, IsAt, HasEntries}
use Rattle.fab_store_load.proofs.nested.maps_of.Given as goal

abbrev pub invariant-loop-row : goal.invariant-loop-row
invariant-loop-row g l = record {
  rows : AreRows (g.S.Kind.row_of l.kind) (take l.row-index l.rows) (IsAt g.Q.Ord.cmp g.K.Ord.cmp l.maps);
  some : HasEntries g.Q.Ord.cmp g.K.Ord.cmp l.maps;
}

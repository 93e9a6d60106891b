use Rattle.std.proofs.Common.{take}
use Rattle.fab_reach_base.specs.fab_zoning.Edits.{IsIn, HasItems}
use Rattle.fab_store_load.specs.Rows.{AreRows}
use Rattle.fab_store_load.proofs.sets.sets_of.Given as goal

abbrev pub invariant-loop-row : goal.invariant-loop-row
invariant-loop-row g l = record {
  rows : AreRows (g.S.Kind.row_of l.kind) (take l.row-index l.rows) (IsIn g.Q.Ord.cmp g.X.Ord.cmp l.sets);
  some : HasItems g.Q.Ord.cmp g.X.Ord.cmp l.sets;
}

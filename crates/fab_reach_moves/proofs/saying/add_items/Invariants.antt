use Rattle.std.proofs.Common.{take}
use Rattle.fab_zoning.specs.Edits.{IsIn}
use Rattle.fab_reach_base.specs.Adding.{Adds}
use Rattle.fab_reach_base.proofs.Adding.{Before}
use Rattle.fab_reach_moves.proofs.SaidRows.{Says}
use Rattle.fab_reach_moves.proofs.saying.add_items.Given as goal

abbrev pub invariant-loop-row : goal.invariant-loop-row
invariant-loop-row g l = Adds (Before (Says g.S.Saying.says) (take l.row-index l.rows)) (IsIn g.K.Ord.cmp g.X.Ord.cmp l.fn.sets) (IsIn g.K.Ord.cmp g.X.Ord.cmp l.sets)

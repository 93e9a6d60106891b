use Rattle.std.proofs.Common.{take}
use Rattle.fab_reach_moves.specs.Inner.Saying.{AreSaid}
use Rattle.fab_reach_moves.proofs.saying.values_said.Given as goal

abbrev pub invariant-loop-row : goal.invariant-loop-row
invariant-loop-row g l = AreSaid g.K.Ord.cmp g.S.Saying.says (take l.row-index l.rows) l.values

use Rattle.std.proofs.Common.{take, IsTrue}
use Rattle.fab_reach_base.specs.Adding.{Adds}
use Rattle.fab_reach_base.proofs.Adding.{Before}
use Rattle.std.specs.BTreeSet.{contains}
use Rattle.fab_names.specs.Orders.{name_cmp}
use Rattle.fab_reach_moves.specs.Inner.Naming.{IsTouchedBy}
use Rattle.fab_reach_moves.proofs.groups.add_touched.Given as goal

abbrev pub invariant-loop-row : goal.invariant-loop-row
invariant-loop-row g l = Adds (Before (IsTouchedBy l.serving) (take l.row-index l.rows)) (λ n. IsTrue (contains name_cmp l.fn.names n)) (λ n. IsTrue (contains name_cmp l.names n))

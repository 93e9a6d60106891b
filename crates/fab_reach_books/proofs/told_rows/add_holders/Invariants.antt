use Rattle.std.proofs.Common.{take, Contains}
use Rattle.fab_reach_base.specs.Adding.{Adds}
use Rattle.fab_reach_base.proofs.Adding.{Before}
use Rattle.fab_reach_books.proofs.GivenRows.{OfHolder}
use Rattle.fab_reach_books.proofs.told_rows.add_holders.Given as goal

abbrev pub invariant-loop-holder : goal.invariant-loop-holder
invariant-loop-holder g l = Adds (Before OfHolder (take l.holder-index l.holders)) (Contains l.fn.rows.items) (Contains l.rows.items)

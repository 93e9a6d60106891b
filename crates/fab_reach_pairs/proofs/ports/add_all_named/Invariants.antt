use Rattle.std.proofs.Common.{take}
use Rattle.fab_reach_base.specs.Adding.{Adds}
use Rattle.fab_reach_base.proofs.Adding.{Before}
use Rattle.fab_reach_books.specs.Inner.Sets.{HasPortIn}
use Rattle.fab_reach_pairs.specs.Owning.{NamesPort}
use Rattle.fab_reach_pairs.proofs.ports.add_all_named.Given as goal

abbrev pub invariant-loop-row : goal.invariant-loop-row
invariant-loop-row g l = Adds (Before NamesPort (take l.row-index l.rows)) (HasPortIn l.fn.ports) (HasPortIn l.ports)

use Rattle.std.proofs.Common.{take}
use Rattle.std.specs.Ordering.{nat_cmp}
use Rattle.std.specs.BTreeMap.{get}
use Rattle.fab_inventory.specs.Imports.{ListsIn}
use Rattle.fab_inventory.proofs.import.log_in.Given as goal

abbrev pub invariant-loop-row : goal.invariant-loop-row
invariant-loop-row g l = ListsIn l.fabric (take l.row-index l.rows) (get nat_cmp l.ports) (get nat_cmp l.fn.next) (get nat_cmp l.next)

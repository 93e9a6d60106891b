use Rattle.std.proofs.Common.{ℕ, take}
use Rattle.std.specs.Ordering.{nat_cmp}
use Rattle.std.specs.BTreeMap.{get}
use Rattle.fab_inventory.specs.Imports.{Agrees}
use Rattle.fab_inventory.proofs.Steps.{Seen}
use Rattle.fab_inventory.proofs.import.check_rows.Given as goal

abbrev pub invariant-loop-row : goal.invariant-loop-row
invariant-loop-row g l = record {
  agrees : Agrees (take l.row-index l.rows);
  seen : (q : ℕ) → Seen (take l.row-index l.rows) (get nat_cmp l.seen q) q;
}

-- Rows in order, each once.
use Rattle.std.proofs.Common.{◌≡◌, List, [], sym, subst}
use Rattle.std.specs.declared.cmp.Ordering.{Ordering}
use Rattle.std.specs.List.Sorted.{IsStrictlySortedBy}
use Rattle.std.specs.BTreeSet.{BTreeSet, IsOrdered}
use Rattle.fab_world.specs.fab_store_rows.declared.config_row.ConfigRow.{ConfigRow}
use Rattle.fab_world.specs.fab_store_rows.RowOrder.{row_cmp, row_order}
use Rattle.fab_world.specs.fab_store_rows.OrderOfRows.{same_order}
use Rattle.fab_store_world.specs.PlanRows.{IsInOrder}

no_rows : IsStrictlySortedBy row_order []
unfolding IsStrictlySortedBy
no_rows = tt

-- no row at all
pub none_in_order : (rows : List ConfigRow) → rows ≡ [] → IsInOrder rows
none_in_order rows none = subst IsInOrder (sym none) no_rows

-- the rows of a set
pub set_in_order : (s : BTreeSet ConfigRow) (rows : List ConfigRow) → IsOrdered row_cmp s → rows ≡ s.keys → IsInOrder rows
set_in_order s rows ordered are = subst IsInOrder (sym are) (subst (λ (O : ConfigRow → ConfigRow → Ordering). IsStrictlySortedBy O s.keys) same_order ordered)

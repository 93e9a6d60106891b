use Rattle.std.proofs.Common.{◌≡◌, List, ◌++◌}
use Rattle.fab_reach_base.specs.fab_lemmas.Lists.{IsListOf}
use Rattle.fab_store_world.specs.InventoryGathering.{IsRowOfEntries}
use Rattle.fab_store_world.proofs.inventories.rows_without.Given as goal

abbrev pub invariant-loop-key : goal.invariant-loop-key
invariant-loop-key g l =
    (before : List (_ × _)) × (l.fn.entries ≡ before ++ l.key-iterator) × IsListOf g.T.Table.order (IsRowOfEntries g.T.Table.row_of (λ r. ¬ g.T.Table.knows l.other r) before) l.rows.items

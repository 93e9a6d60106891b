-- The differences of two configurations, as rows.
use Rattle.std.specs.Prelude.{List}
use Rattle.fab_reach_base.specs.fab_lemmas.Lists.{IsListOf}
use Rattle.fab_reach_base.specs.Records.{ConfigRows}
use Rattle.fab_store_rows.specs.declared.config_row.ConfigRow.{ConfigRow}
use Rattle.fab_store_rows.specs.RowOrder.{row_order}
use Rattle.fab_store_rows.specs.Standing.{Stands}

-- the row stands in the first configuration, and not in the second
pub record StandsOnlyIn (c d : ConfigRows) (r : ConfigRow) : Type 0 where
  pub there : Stands c r
  pub not_there : ¬ Stands d r

-- the lists are the rows that a change takes away, and those that it adds
pub record IsDifference (before after : ConfigRows) (taken added : List ConfigRow) : Type 0 where
  pub takes : IsListOf row_order (StandsOnlyIn before after) taken
  pub adds : IsListOf row_order (StandsOnlyIn after before) added

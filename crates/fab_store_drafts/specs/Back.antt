-- The configuration from before a change: the rows that it took come back, and those that it added go.
use Rattle.std.specs.Prelude.{◌≡◌, List}
use Rattle.fab_reach_base.specs.Records.{ConfigRows}
use Rattle.fab_reach_base.specs.Soundness.{IsSoundAlone}
use Rattle.fab_store_rows.specs.Differences.{IsDifference}
use Rattle.fab_store_rows.specs.declared.config_row.ConfigRow.{ConfigRow}

-- it is sound of itself, and differs from the one after it just so
pub record IsEarlier (after : ConfigRows) (taken added : List ConfigRow) (before : ConfigRows) : Type 0 where
  pub sound : IsSoundAlone before
  pub differs : IsDifference before after taken added

-- and there is no other
pub record IsOnlyEarlier (after : ConfigRows) (taken added : List ConfigRow) (before : ConfigRows) : Type 0 where
  pub is : IsEarlier after taken added before
  pub only : (other : ConfigRows) → IsEarlier after taken added other → other ≡ before

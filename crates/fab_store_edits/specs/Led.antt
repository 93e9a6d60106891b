-- A configuration that is led to another by rows that go and rows that come.
use Rattle.std.specs.Prelude.{◌⊎◌, List, Contains}
use Rattle.fab_reach_base.specs.Records.{ConfigRows}
use Rattle.fab_store_rows.specs.Standing.{Stands}
use Rattle.fab_store_rows.specs.declared.config_row.ConfigRow.{ConfigRow}

-- from c to d: no row is in d but of c or come, those that come are there, none is gone but those
-- that go, and those are
pub record IsLed (c d : ConfigRows) (go come : List ConfigRow) : Type 0 where
  pub kept : (r : ConfigRow) → Stands d r → Stands c r ⊎ Contains come r
  pub came : (r : ConfigRow) → Contains come r → Stands d r
  pub left : (r : ConfigRow) → Stands c r → Stands d r ⊎ Contains go r
  pub gone : (r : ConfigRow) → Contains go r → ¬ Stands d r

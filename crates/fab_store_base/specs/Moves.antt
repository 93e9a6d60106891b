-- The lines that lead from the rows of one world to those of another.
use Rattle.std.specs.Prelude.{◌⊎◌}
use Rattle.sqlite.specs.Order.{Row}
use Rattle.fab_store_load.specs.declared.fault.Table.{Table}
use Rattle.fab_store_tables.specs.Tables.{IsAmong, AreOnce}
use Rattle.fab_store_tables.specs.declared.changes.LineChanges.{LineChanges}
use Rattle.fab_world.specs.Worlds.{WorldRows}
use Rattle.fab_store_base.specs.Worlds.{StandsIn, IsWritten}

-- the rows that stand before and not after are removed, those that stand after and not before are
-- added, and each once; a row that stands in both is left where it is
pub record AreMoves {A : Type 0} (before after : WorldRows) (c : LineChanges A) : Type 0 where
  pub removed : (t : Table) (r : Row) → IsAmong c.removed.items t r → StandsIn before t r × ¬ StandsIn after t r
  pub added : (t : Table) (r : Row) → IsAmong c.added.items t r → StandsIn after t r × ¬ StandsIn before t r
  pub gone : (t : Table) (r : Row) → StandsIn before t r → StandsIn after t r ⊎ IsAmong c.removed.items t r
  pub come : (t : Table) (r : Row) → StandsIn after t r → StandsIn before t r ⊎ IsAmong c.added.items t r
  pub removed_once : AreOnce c.removed.items
  pub added_once : AreOnce c.added.items
  -- where each row is shown by a line before, it is so after
  pub written : IsWritten before → IsWritten after

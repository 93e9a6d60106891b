-- Storage groups with no part.
use Rattle.std.specs.Prelude.{ℕ, ◌≡◌, List, None, false}
use Rattle.std.specs.FinMap as map
use Rattle.std.specs.FinSet as set
use Rattle.fab_mapping_base.specs.Groups.{StorageGroupRows}

-- it has no host group, no target and no unit
pub record HasNoPart (g : StorageGroupRows) : Type 0 where
  pub host_groups : (k : List ℕ) → set.contains g.host_groups k ≡ false
  pub targets : (q : ℕ) → set.contains g.targets q ≡ false
  pub units : (u : ℕ) → map.get g.units u ≡ None

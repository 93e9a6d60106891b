-- The parts of storage groups that rows say.
use Rattle.std.specs.Prelude.{ℕ, List, Bool, is_some, ◌&&◌}
use Rattle.std.specs.List.{list_all}
use Rattle.std.specs.Ordering.{nat_cmp}
use Rattle.std.specs.BTreeMap.{BTreeMap, get, keys}
use Rattle.fab_names.specs.Orders.{name_cmp}
use Rattle.fab_store_rows.specs.declared.config_row.ConfigRow.{ConfigRow}
use Rattle.fab_store_load.specs.declared.groups.Parts.{Parts}
use Rattle.fab_store_load.specs.declared.kinds.Head.{Head}
use Rattle.fab_reach_base.specs.fab_zoning.Edits.{IsIn, HasItems}
use Rattle.fab_store_load.specs.Rows.{AreRows, IsAt, HasEntries}
use Rattle.fab_store_load.specs.Kinds.{served_row, target_row, unit_row}

-- the parts are just those that the rows say, and nothing stands under a name without a part
pub record HaveParts {A : Type 0} (rows : List ConfigRow) (p : Parts A) : Type 0 where
  pub served_are : AreRows served_row rows (IsIn name_cmp name_cmp p.served)
  pub targets_are : AreRows target_row rows (IsIn name_cmp nat_cmp p.targets)
  pub units_are : AreRows unit_row rows (IsAt name_cmp nat_cmp p.units)
  pub some_served : HasItems name_cmp name_cmp p.served
  pub some_target : HasItems name_cmp nat_cmp p.targets
  pub some_unit : HasEntries name_cmp nat_cmp p.units

-- whether each name that has a part is one of these
abbrev pub are_parts_known : {A : Type 0} → Parts A → BTreeMap (List ℕ) Head → Bool
are_parts_known p heads =
    list_all (λ n. is_some (get name_cmp heads n)) (keys p.served)
    && (list_all (λ n. is_some (get name_cmp heads n)) (keys p.targets) && list_all (λ n. is_some (get name_cmp heads n)) (keys p.units))

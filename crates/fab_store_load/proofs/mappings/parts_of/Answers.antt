use Rattle.std.specs.FinMap as map
use Rattle.std.specs.Option.{option_and_then}
use Rattle.fab_names.specs.Orders.{name_cmp}
use Rattle.std.specs.Ordering.{nat_cmp}
use Rattle.fab_reach_base.specs.fab_mapping_base.Groups.{StorageGroupRows}
use Rattle.fab_store_load.specs.Kinds.{unit_row}
use Rattle.fab_store_load.specs.Rows.{AreRows, HasRepeat, IsAt, HasEntries}
use Rattle.fab_store_load.proofs.Saying.{no_repeat}
use Rattle.fab_store_load.proofs.MappingRows.{units_say, found_groups, no_groups}
use Rattle.fab_store_load.proofs.mappings.parts_of.Goals as goal

pub returns-in_default : goal.returns-in_default
returns-in_default g c m says =
    no_repeat unit_row c.args.rows.now (λ k. option_and_then (λ (s : StorageGroupRows). map.get s.units k.1) (map.get m k.0))
    (no_groups (λ t. AreRows unit_row c.args.rows.now (IsAt name_cmp nat_cmp t)) (HasRepeat unit_row c.args.rows.now) c.in_ok-units.field-0 c.in_default.is c.in_ok-units.ensures.rows) (units_say c.args.rows.now m says)

pub returns : goal.returns
returns g c = record {
  served_are = c.in_ok-served.ensures.rows;
  targets_are = c.in_ok-targets.ensures.rows;
  units_are = found_groups (λ t. AreRows unit_row c.args.rows.now (IsAt name_cmp nat_cmp t)) (HasRepeat unit_row c.args.rows.now) c.in_ok-units.field-0 c.in-Some.units c.in-Some.is c.in_ok-units.ensures.rows;
  some_served = c.in_ok-served.ensures.some;
  some_target = c.in_ok-targets.ensures.some;
  some_unit = found_groups (HasEntries name_cmp nat_cmp) (Unit {0}) c.in_ok-units.field-0 c.in-Some.units c.in-Some.is c.in_ok-units.ensures.some;
}

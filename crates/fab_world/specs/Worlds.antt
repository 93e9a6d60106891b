-- What contracts see of a world.
use Rattle.std.specs.Prelude.{ℕ, List, [], refl}
use Rattle.std.specs.Coded.{Coded, code_by, coded×, coded_ℕ, coded_list}
use Rattle.std.specs.FinMap as map
use Rattle.fab_reach_base.specs.fab_names.Orders.{name_cmp}
use Rattle.fab_reach_base.specs.fab_names.Codes.{name_code}
use Rattle.fab_reach_base.specs.fab_names.declared.fabric.Fabric.TheVariants.{A, B}
use Rattle.fab_reach_base.specs.fab_inventory.Codes.{rows_code}
use Rattle.fab_reach_base.specs.fab_inventory.Inventories.{InventoryRows, no_rows}
use Rattle.fab_reach_base.specs.fab_zoning.Zonings.{new_zoning}
use Rattle.fab_reach_base.specs.fab_mapping.Mappings.{no_groups}
use Rattle.fab_reach_base.specs.Records.{ConfigRows, config_code, Records}
use Rattle.fab_world.specs.PlanRecords.{PlanRecord}
use Rattle.fab_world.specs.Codes.{plan_code}

-- the inventory, the configuration, the plans by name, the names of those whose activation is in
-- force, the oldest first, and how many changes there were
pub record WorldRows : Type 0 where
  pub inventory : InventoryRows
  pub config : ConfigRows
  pub plans : map.FinMap name_cmp PlanRecord
  pub order : List (List ℕ)
  pub revision : ℕ

abbrev pub Parts : Type 0
Parts = InventoryRows × (ConfigRows × (map.FinMap name_cmp PlanRecord × (List (List ℕ) × ℕ)))

abbrev pub world_code : Coded WorldRows
world_code =
    code_by Parts (coded× rows_code (coded× config_code (coded× (map.code name_code plan_code) (coded× (coded_list name_code) coded_ℕ)))) (λ w. (w.inventory, (w.config, (w.plans, (w.order, w.revision)))))
    (λ p. record { inventory = p.0; config = p.1.0; plans = p.1.1.0; order = p.1.1.1.0; revision = p.1.1.1.1 })
    (λ _. refl)

-- what paths follow from
abbrev pub records_of : WorldRows → Records
records_of w = record { inventory = w.inventory; config = w.config }

-- nothing known, no alias, zone, set or group, nothing active, deny, and no plan
abbrev pub new_world : WorldRows
new_world = record {
  inventory = no_rows;
  config = record { a = new_zoning A; b = new_zoning B; mapping = no_groups };
  plans = map.empty;
  order = [];
  revision = 0;
}

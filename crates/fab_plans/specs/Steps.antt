-- What a step makes of a configuration beside an inventory, and what refuses it.
use Rattle.std.specs.Prelude.{◌≡◌, Option, None, Some}
use Rattle.fab_reach_base.specs.fab_names.declared.fabric.Fabric.{Fabric}
use Rattle.fab_reach_base.specs.fab_names.declared.fabric.Fabric.TheVariants.{A, B}
use Rattle.fab_reach_base.specs.fab_inventory.Inventories.{InventoryRows}
use Rattle.fab_reach_base.specs.fab_zoning.Zonings.{FabricZoning}
use Rattle.fab_reach_base.specs.fab_mapping.Mappings.{MappingRows}
use Rattle.fab_reach_base.specs.Records.{ConfigRows, zoning_at}
use Rattle.fab_plans_text.specs.fab_plans_base.Steps.{PlanStep, alias_put, alias_drop, zone_put, zone_drop, set_put, set_drop, activate, deactivate, default_zone}
use Rattle.fab_plans.specs.Checks.{Check, IsFirstRefusal}
use Rattle.fab_plans.specs.ZoningSteps.{ZoningFails, ZoningDone}
use Rattle.fab_plans.specs.MappingSteps.{MappingFails, MappingDone}
use Rattle.fab_plans.specs.declared.fault.Refusal.{Refusal}

-- the fabric whose zoning a step is of; a step of mapping is of none
abbrev pub fabric_of : PlanStep → Option Fabric
fabric_of (alias_put f n ms) = Some f
fabric_of (alias_drop f n) = Some f
fabric_of (zone_put f n ms) = Some f
fabric_of (zone_drop f n) = Some f
fabric_of (set_put f n zs) = Some f
fabric_of (set_drop f n) = Some f
fabric_of (activate f s) = Some f
fabric_of (deactivate f) = Some f
fabric_of (default_zone f d) = Some f
fabric_of _ = None

-- the configuration with another zoning of the fabric
abbrev pub with_zoning : Fabric → FabricZoning → ConfigRows → ConfigRows
with_zoning A z c = record c { a = z }
with_zoning B z c = record c { b = z }

-- the configuration with another mapping
abbrev pub with_mapping : MappingRows → ConfigRows → ConfigRows
with_mapping m c = record c { mapping = m }

-- the check fails: of the zoning of a fabric, or of the mapping
abbrev pub FailsIn : Option Fabric → InventoryRows → ConfigRows → PlanStep → Check → Refusal → Type 0
FailsIn (Some f) v c step = ZoningFails (zoning_at c f) step
FailsIn None v c step = MappingFails v c.mapping step

-- the step is done: on the zoning of a fabric, or on the mapping, and all else is as it was
abbrev pub DoneIn : Option Fabric → InventoryRows → PlanStep → ConfigRows → ConfigRows → Type 0
DoneIn (Some f) v step old new = (z : FabricZoning) × ZoningDone step (zoning_at old f) z × (new ≡ with_zoning f z old)
DoneIn None v step old new = (m : MappingRows) × MappingDone v step old.mapping m × (new ≡ with_mapping m old)

-- the step is done beside the inventory, and leads from one configuration to the other
abbrev pub StepDone : InventoryRows → PlanStep → ConfigRows → ConfigRows → Type 0
StepDone v step = DoneIn (fabric_of step) v step

-- the first refusal of the step
abbrev pub StepRefused : InventoryRows → ConfigRows → PlanStep → Refusal → Type 0
StepRefused v c step = IsFirstRefusal (FailsIn (fabric_of step) v c step)

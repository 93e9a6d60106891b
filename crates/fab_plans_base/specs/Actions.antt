-- What contracts see of an action.
use Rattle.fab_plans_base.specs.Steps.{PlanStep, alias_put, alias_drop, zone_put, zone_drop, set_put, set_drop, activate, deactivate, default_zone, host_group_put, host_group_drop, group_new, group_drop, group_host, group_unhost, group_target, group_untarget, group_map, group_unmap, group_expose, group_hide}
use Rattle.fab_plans_base.specs.declared.step.Action.{Action}
use Rattle.fab_plans_base.specs.declared.step.Action.TheVariants.{Zoning, Mapping}
use Rattle.fab_plans_base.specs.declared.zoning_action.ZoningAction.{ZoningAction}
use Rattle.fab_plans_base.specs.declared.zoning_action.ZoningAction.TheVariants as zoning
use Rattle.fab_plans_base.specs.declared.mapping_action.MappingAction.{MappingAction}
use Rattle.fab_plans_base.specs.declared.mapping_action.MappingAction.TheVariants as mapping

-- the step that an action of zoning is, its lists without where they lie in memory
abbrev pub zoning_step : {A : Type 0} → ZoningAction A → PlanStep
zoning_step (zoning.AliasPut f n ms) = alias_put f n ms.items
zoning_step (zoning.AliasDrop f n) = alias_drop f n
zoning_step (zoning.ZonePut f n ms) = zone_put f n ms.items
zoning_step (zoning.ZoneDrop f n) = zone_drop f n
zoning_step (zoning.SetPut f n zs) = set_put f n zs.items
zoning_step (zoning.SetDrop f n) = set_drop f n
zoning_step (zoning.Activate f s) = activate f s
zoning_step (zoning.Deactivate f) = deactivate f
zoning_step (zoning.Default f d) = default_zone f d

-- the step that an action of mapping is, its list without where it lies in memory
abbrev pub mapping_step : {A : Type 0} → MappingAction A → PlanStep
mapping_step (mapping.HostGroupPut n t hs) = host_group_put n t hs.items
mapping_step (mapping.HostGroupDrop n) = host_group_drop n
mapping_step (mapping.GroupNew n t r) = group_new n t r
mapping_step (mapping.GroupDrop n) = group_drop n
mapping_step (mapping.GroupHost n k) = group_host n k
mapping_step (mapping.GroupUnhost n k) = group_unhost n k
mapping_step (mapping.GroupTarget n w) = group_target n w
mapping_step (mapping.GroupUntarget n w) = group_untarget n w
mapping_step (mapping.GroupMap n u v) = group_map n u v
mapping_step (mapping.GroupUnmap n u) = group_unmap n u
mapping_step (mapping.GroupExpose n) = group_expose n
mapping_step (mapping.GroupHide n) = group_hide n

-- the step that an action is
abbrev pub step_of : {A : Type 0} → Action A → PlanStep
step_of (Zoning action) = zoning_step action
step_of (Mapping action) = mapping_step action

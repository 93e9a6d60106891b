-- How the refusals of the zoning and of the mapping are told as those of a step. Faults that no step
-- can meet, since a line spells it, are told as nothing.
use Rattle.std.specs.Prelude.{ℕ, ◌+◌, List, []}
use Rattle.fab_reach_base.specs.fab_zoning.declared.fault.ZoningFault.{ZoningFault}
use Rattle.fab_reach_base.specs.fab_zoning.declared.fault.ZoningFault.TheVariants as zoning
use Rattle.fab_reach_base.specs.fab_zoning.declared.fault.ZoningLimit.TheVariants as zoning_limit
use Rattle.fab_reach_base.specs.fab_mapping_base.declared.fault.MappingFault.{MappingFault}
use Rattle.fab_reach_base.specs.fab_mapping_base.declared.fault.MappingFault.TheVariants as mapping
use Rattle.fab_reach_base.specs.fab_mapping_base.declared.fault.MappingLimit.TheVariants as mapping_limit
use Rattle.fab_plans_text.specs.fab_plans_base.Steps.{PlanStep, host_group_put, host_group_drop, group_new, group_drop, group_host, group_unhost, group_target, group_untarget, group_map, group_unmap, group_expose, group_hide}
use Rattle.fab_plans.specs.Checks.{Failures, IsFirstRefusal}
use Rattle.fab_plans.specs.declared.fault.Item.{Item}
use Rattle.fab_plans.specs.declared.fault.Item.TheVariants as item
use Rattle.fab_plans.specs.declared.fault.Refusal.TheVariants as refusal
use Rattle.fab_plans.specs.declared.fault.StepFault.{StepFault}
use Rattle.fab_plans.specs.declared.fault.StepFault.TheVariants.{Refused, Memory}
use Rattle.fab_plans.specs.declared.fault.StepLimit.TheVariants as limit
use Rattle.fab_plans.specs.declared.fault.TrialFault.{TrialFault}
use Rattle.fab_plans.specs.declared.fault.TrialFault.TheVariants as trial

-- the first refusal of the checks, or want of memory
abbrev pub IsFaultOf : Failures → StepFault → Type 0
IsFaultOf fails (Refused r) = IsFirstRefusal fails r
IsFaultOf fails Memory = Unit {0}

-- what a fault of the zoning is told as has P
abbrev pub TellsZoning : (StepFault → Type 0) → ZoningFault → Type 0
TellsZoning P (zoning.Unknown n) = P (Refused (refusal.Unknown (item.Name n)))
TellsZoning P (zoning.InUse n by) = P (Refused (refusal.InUse n by))
TellsZoning P (zoning.Limit zoning_limit.Aliases) = P (Refused (refusal.Limit limit.Aliases))
TellsZoning P (zoning.Limit zoning_limit.Zones) = P (Refused (refusal.Limit limit.Zones))
TellsZoning P (zoning.Limit zoning_limit.Sets) = P (Refused (refusal.Limit limit.Sets))
TellsZoning P (zoning.Limit zoning_limit.Active) = P (Refused (refusal.Limit limit.Active))
TellsZoning P (zoning.Limit zoning_limit.Members) = ⊥
TellsZoning P zoning.Empty = ⊥
TellsZoning P zoning.Memory = P Memory

-- the first name of a step of mapping
abbrev pub first_name : PlanStep → List ℕ
first_name (host_group_put n t hs) = n
first_name (host_group_drop n) = n
first_name (group_new n t array) = n
first_name (group_drop n) = n
first_name (group_host n k) = n
first_name (group_unhost n k) = n
first_name (group_target n w) = n
first_name (group_untarget n w) = n
first_name (group_map n u x) = n
first_name (group_unmap n u) = n
first_name (group_expose n) = n
first_name (group_hide n) = n
first_name _ = []

-- the target or the volume that a step adds to a storage group; of other steps the first name
abbrev pub added_item : PlanStep → Item
added_item (group_target n w) = item.Port w
added_item (group_map n u x) = item.Name x
added_item step = item.Name (first_name step)

-- what a fault of the mapping at a step is told as has P
abbrev pub TellsMapping : PlanStep → (StepFault → Type 0) → MappingFault → Type 0
TellsMapping step P (mapping.Unknown n) = P (Refused (refusal.Unknown (item.Name n)))
TellsMapping step P (mapping.UnknownPort w) = P (Refused (refusal.Unknown (item.Port w)))
TellsMapping step P (mapping.Exists n) = P (Refused (refusal.Exists n))
TellsMapping step P (mapping.InUse n by) = P (Refused (refusal.InUse n by))
TellsMapping step P mapping.WrongArray = P (Refused (refusal.WrongArray (added_item step)))
TellsMapping step P (mapping.UnitTaken u) = P (Refused (refusal.UnitTaken (first_name step) u))
TellsMapping step P (mapping.NotMapped u) = P (Refused (refusal.Unknown (item.Unit u)))
TellsMapping step P (mapping.Limit mapping_limit.HostGroups) = P (Refused (refusal.Limit limit.HostGroups))
TellsMapping step P (mapping.Limit mapping_limit.Groups) = P (Refused (refusal.Limit limit.Groups))
TellsMapping step P (mapping.Limit mapping_limit.Parts) = P (Refused (refusal.Limit limit.Parts))
TellsMapping step P (mapping.Limit mapping_limit.Hosts) = ⊥
TellsMapping step P (mapping.Limit mapping_limit.UnitNumber) = ⊥
TellsMapping step P mapping.Memory = P Memory

-- the fault of a step at a place, as that of the trial: the step at 0 has the number 1
abbrev pub fault_at : ℕ → StepFault → TrialFault
fault_at place (Refused r) = trial.Refused (place + 1) r
fault_at place Memory = trial.Memory

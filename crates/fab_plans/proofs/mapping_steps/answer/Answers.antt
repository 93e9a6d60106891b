use Rattle.std.proofs.Common.{◌≡◌, ◌<◌, Result, IfErr, OnOk, length, sym, ap, subst}
use Rattle.std.specs.FinMap as map
use Rattle.fab_reach_base.specs.fab_inventory.Inventories.{InventoryRows}
use Rattle.fab_reach_base.specs.fab_mapping_base.Groups.{host_group_of}
use Rattle.fab_reach_base.specs.fab_mapping.Mappings.{MappingRows, CanPutHostGroup, PutHostGroupFails}
use Rattle.fab_reach_base.specs.fab_mapping_base.declared.fault.MappingFault.{MappingFault}
use Rattle.fab_plans_text.specs.fab_plans_base.Actions as actions
use Rattle.fab_plans_text.specs.fab_plans_base.Plans.{IsStep}
use Rattle.fab_plans_text.specs.fab_plans_base.declared.mapping_action.MappingAction.{MappingAction}
use Rattle.fab_plans.specs.Telling.{IsFaultOf, TellsMapping}
use Rattle.fab_plans.specs.MappingSteps.{MappingDone, MappingFails}
use Rattle.fab_plans.proofs.Spelled.{host_listing, unit_within}
use Rattle.fab_plans.proofs.Facts.{on_both, on_three}
use Rattle.fab_reach_base.proofs.fab_mapping.GroupChanges.{if_err}
use Rattle.fab_plans.proofs.MappingCases.{host_group_put_passes, host_group_put_told, host_group_drop_passes, host_group_drop_told, group_host_told, group_unhost_told, group_target_told, group_untarget_told, group_map_told, group_unmap_told}
use Rattle.fab_plans.proofs.mapping_steps.answer.Goals as goal

-- what is told, or done, at an action is so at the same action
told_at : {A : Type 0} (v : InventoryRows) (m : MappingRows) (r : Result (Unit {0}) MappingFault) (a b : MappingAction A) → a ≡ b
    → IfErr r (TellsMapping (actions.mapping_step b) (IsFaultOf (MappingFails v m (actions.mapping_step b)))) → IfErr r (TellsMapping (actions.mapping_step a) (IsFaultOf (MappingFails v m (actions.mapping_step a))))
told_at v m r a b same = subst (λ x. IfErr r (TellsMapping (actions.mapping_step x) (IsFaultOf (MappingFails v m (actions.mapping_step x))))) (sym same)

done_at : {A : Type 0} (v : InventoryRows) (m n : MappingRows) (r : Result (Unit {0}) MappingFault) (a b : MappingAction A) → a ≡ b
    → OnOk r (MappingDone v (actions.mapping_step b) m n) → OnOk r (MappingDone v (actions.mapping_step a) m n)
done_at v m n r a b same = subst (λ x. OnOk r (MappingDone v (actions.mapping_step x) m n)) (sym same)

pub put_host_group-requires : goal.put_host_group-requires
put_host_group-requires g c =
    let listing = host_listing c.in-HostGroupPut.name c.in-HostGroupPut.tenant c.in-HostGroupPut.hosts.items (subst IsStep (ap actions.mapping_step c.in-HostGroupPut.is) c.requires) in
    record { some = subst (λ hs. 0 < length hs) (sym c.deref.ensures.value) listing.0 }

pub returns-in-HostGroupPut-clause-ok : goal.returns-in-HostGroupPut-clause-ok
returns-in-HostGroupPut-clause-ok g c =
    done_at c.args.inventory.now c.args.mapping.now c.put_host_group.new.self c.put_host_group.result c.args.action.now _ c.in-HostGroupPut.is (on_both c.put_host_group.result c.put_host_group.ensures.can c.put_host_group.ensures.ok (λ can is. record {
      passes = host_group_put_passes c.args.inventory.now c.args.mapping.now c.in-HostGroupPut.name c.in-HostGroupPut.tenant c.in-HostGroupPut.hosts.items (subst (CanPutHostGroup c.args.mapping.now c.args.inventory.now c.in-HostGroupPut.name) c.deref.ensures.value can);
      makes = subst (λ hs. c.put_host_group.new.self ≡ record c.args.mapping.now { host_groups = map.insert c.args.mapping.now.host_groups c.in-HostGroupPut.name (host_group_of c.in-HostGroupPut.tenant hs) }) c.deref.ensures.value is;
    }))

pub returns-in-HostGroupPut-clause-err : goal.returns-in-HostGroupPut-clause-err
returns-in-HostGroupPut-clause-err g c =
    let listing = host_listing c.in-HostGroupPut.name c.in-HostGroupPut.tenant c.in-HostGroupPut.hosts.items (subst IsStep (ap actions.mapping_step c.in-HostGroupPut.is) c.requires) in
    told_at c.args.inventory.now c.args.mapping.now c.put_host_group.result c.args.action.now _ c.in-HostGroupPut.is (if_err c.put_host_group.result c.put_host_group.ensures.err (λ e h.
    host_group_put_told c.args.inventory.now c.args.mapping.now c.in-HostGroupPut.name c.in-HostGroupPut.tenant c.in-HostGroupPut.hosts.items listing.1 e (subst (λ hs. PutHostGroupFails c.args.mapping.now c.args.inventory.now c.in-HostGroupPut.name hs e) c.deref.ensures.value h)))

pub returns-in-HostGroupDrop-clause-ok : goal.returns-in-HostGroupDrop-clause-ok
returns-in-HostGroupDrop-clause-ok g c =
    done_at c.args.inventory.now c.args.mapping.now c.drop_host_group.new.self c.drop_host_group.result c.args.action.now _ c.in-HostGroupDrop.is (on_three c.drop_host_group.result c.drop_host_group.ensures.known c.drop_host_group.ensures.unused c.drop_host_group.ensures.ok (λ known unused is. record {
      passes = host_group_drop_passes c.args.inventory.now c.args.mapping.now c.in-HostGroupDrop.name known unused;
      makes = is;
    }))

pub returns-in-HostGroupDrop-clause-err : goal.returns-in-HostGroupDrop-clause-err
returns-in-HostGroupDrop-clause-err g c =
    told_at c.args.inventory.now c.args.mapping.now c.drop_host_group.result c.args.action.now _ c.in-HostGroupDrop.is (if_err c.drop_host_group.result c.drop_host_group.ensures.err (host_group_drop_told c.args.inventory.now c.args.mapping.now c.in-HostGroupDrop.name))

pub returns-in-GroupHost-clause-err : goal.returns-in-GroupHost-clause-err
returns-in-GroupHost-clause-err g c =
    told_at c.args.inventory.now c.args.mapping.now c.add_hosts.result c.args.action.now _ c.in-GroupHost.is (if_err c.add_hosts.result c.add_hosts.ensures.err (group_host_told c.args.inventory.now c.args.mapping.now c.in-GroupHost.group c.in-GroupHost.host_group))

pub returns-in-GroupUnhost-clause-err : goal.returns-in-GroupUnhost-clause-err
returns-in-GroupUnhost-clause-err g c =
    told_at c.args.inventory.now c.args.mapping.now c.remove_hosts.result c.args.action.now _ c.in-GroupUnhost.is (if_err c.remove_hosts.result c.remove_hosts.ensures.err (group_unhost_told c.args.inventory.now c.args.mapping.now c.in-GroupUnhost.group c.in-GroupUnhost.host_group))

pub returns-in-GroupTarget-clause-err : goal.returns-in-GroupTarget-clause-err
returns-in-GroupTarget-clause-err g c =
    told_at c.args.inventory.now c.args.mapping.now c.add_target.result c.args.action.now _ c.in-GroupTarget.is (if_err c.add_target.result c.add_target.ensures.err (group_target_told c.args.inventory.now c.args.mapping.now c.in-GroupTarget.group c.in-GroupTarget.target))

pub returns-in-GroupUntarget-clause-err : goal.returns-in-GroupUntarget-clause-err
returns-in-GroupUntarget-clause-err g c =
    told_at c.args.inventory.now c.args.mapping.now c.remove_target.result c.args.action.now _ c.in-GroupUntarget.is (if_err c.remove_target.result c.remove_target.ensures.err (group_untarget_told c.args.inventory.now c.args.mapping.now c.in-GroupUntarget.group c.in-GroupUntarget.target))

pub returns-in-GroupMap-clause-err : goal.returns-in-GroupMap-clause-err
returns-in-GroupMap-clause-err g c =
    let small = unit_within c.in-GroupMap.group c.in-GroupMap.unit c.in-GroupMap.volume (subst IsStep (ap actions.mapping_step c.in-GroupMap.is) c.requires) in
    told_at c.args.inventory.now c.args.mapping.now c.map.result c.args.action.now _ c.in-GroupMap.is (if_err c.map.result c.map.ensures.err (group_map_told c.args.inventory.now c.args.mapping.now c.in-GroupMap.group c.in-GroupMap.unit c.in-GroupMap.volume small))

pub returns-in-GroupUnmap-clause-err : goal.returns-in-GroupUnmap-clause-err
returns-in-GroupUnmap-clause-err g c =
    told_at c.args.inventory.now c.args.mapping.now c.unmap.result c.args.action.now _ c.in-GroupUnmap.is (if_err c.unmap.result c.unmap.ensures.err (group_unmap_told c.args.inventory.now c.args.mapping.now c.in-GroupUnmap.group c.in-GroupUnmap.unit))

use Rattle.std.proofs.Common.{◌≡◌, Result, IfErr, OnOk, All, sym, ap, subst}
use Rattle.std.specs.FinMap as map
use Rattle.std.specs.FinSet as set
use Rattle.fab_reach_base.specs.fab_zoning_rows.Rows.{IsPlain}
use Rattle.fab_reach_base.specs.fab_zoning.Steps.{IsPutAliasFault, CanPutZone, IsPutZoneFault, CanPutSet, IsPutSetFault}
use Rattle.fab_reach_base.specs.fab_zoning.Zonings.{FabricZoning}
use Rattle.fab_reach_base.specs.fab_zoning.declared.fault.ZoningFault.{ZoningFault}
use Rattle.fab_plans_text.specs.fab_plans_base.Actions as actions
use Rattle.fab_plans_text.specs.fab_plans_base.Plans.{IsStep}
use Rattle.fab_plans_text.specs.fab_plans_base.declared.zoning_action.ZoningAction.{ZoningAction}
use Rattle.fab_plans.specs.Telling.{IsFaultOf, TellsZoning}
use Rattle.fab_plans.specs.ZoningSteps.{ZoningDone, ZoningFails}
use Rattle.fab_plans.proofs.Spelled.{alias_listing, zone_listing, set_listing, alias_plain}
use Rattle.fab_plans.proofs.Facts.{on_both, on_four}
use Rattle.fab_reach_base.proofs.fab_mapping.GroupChanges.{if_err}
use Rattle.fab_plans.proofs.ZoningCases.{alias_put_told, alias_drop_told, zone_put_passes, zone_put_told, zone_drop_told, set_put_passes, set_put_told, activate_passes, activate_told}
use Rattle.fab_plans.proofs.zoning_steps.answer.Goals as goal

-- what is told, or done, at an action is so at the same action
told_at : {A : Type 0} (z : FabricZoning) (r : Result (Unit {0}) ZoningFault) (a b : ZoningAction A) → a ≡ b
    → IfErr r (TellsZoning (IsFaultOf (ZoningFails z (actions.zoning_step b)))) → IfErr r (TellsZoning (IsFaultOf (ZoningFails z (actions.zoning_step a))))
told_at z r a b same = subst (λ x. IfErr r (TellsZoning (IsFaultOf (ZoningFails z (actions.zoning_step x))))) (sym same)

done_at : {A : Type 0} (z y : FabricZoning) (r : Result (Unit {0}) ZoningFault) (a b : ZoningAction A) → a ≡ b → OnOk r (ZoningDone (actions.zoning_step b) z y) → OnOk r (ZoningDone (actions.zoning_step a) z y)
done_at z y r a b same = subst (λ x. OnOk r (ZoningDone (actions.zoning_step x) z y)) (sym same)

pub put_alias-requires : goal.put_alias-requires
put_alias-requires g c = record { plain = subst (All IsPlain) (sym c.deref.ensures.value) (alias_plain c.in-AliasPut.fabric c.in-AliasPut.name c.in-AliasPut.members.items (subst IsStep (ap actions.zoning_step c.in-AliasPut.is) c.requires)) }

pub returns-in-AliasPut-clause-err : goal.returns-in-AliasPut-clause-err
returns-in-AliasPut-clause-err g c =
    let listing = alias_listing c.in-AliasPut.fabric c.in-AliasPut.name c.in-AliasPut.members.items (subst IsStep (ap actions.zoning_step c.in-AliasPut.is) c.requires) in
    told_at c.args.zoning.now c.put_alias.result c.args.action.now _ c.in-AliasPut.is (if_err c.put_alias.result c.put_alias.ensures.refused (λ e h.
    alias_put_told c.args.zoning.now c.in-AliasPut.fabric c.in-AliasPut.name c.in-AliasPut.members.items listing e (subst (λ ms. IsPutAliasFault c.args.zoning.now c.in-AliasPut.name ms e) c.deref.ensures.value h)))

pub returns-in-AliasDrop-clause-err : goal.returns-in-AliasDrop-clause-err
returns-in-AliasDrop-clause-err g c =
    told_at c.args.zoning.now c.drop_alias.result c.args.action.now _ c.in-AliasDrop.is (if_err c.drop_alias.result c.drop_alias.ensures.refused (alias_drop_told c.args.zoning.now c.in-AliasDrop.fabric c.in-AliasDrop.name))

pub returns-in-ZonePut-clause-ok : goal.returns-in-ZonePut-clause-ok
returns-in-ZonePut-clause-ok g c =
    done_at c.args.zoning.now c.put_zone.new.self c.put_zone.result c.args.action.now _ c.in-ZonePut.is (on_both c.put_zone.result c.put_zone.ensures.accepted c.put_zone.ensures.ok (λ can is. record {
      passes = zone_put_passes c.args.zoning.now c.in-ZonePut.fabric c.in-ZonePut.name c.in-ZonePut.members.items (subst (CanPutZone c.args.zoning.now c.in-ZonePut.name) c.deref-in-ZonePut.ensures.value can);
      makes = subst (λ ms. c.put_zone.new.self ≡ record c.args.zoning.now { zones = map.insert c.args.zoning.now.zones c.in-ZonePut.name (set.from_list ms) }) c.deref-in-ZonePut.ensures.value is;
    }))

pub returns-in-ZonePut-clause-err : goal.returns-in-ZonePut-clause-err
returns-in-ZonePut-clause-err g c =
    let listing = zone_listing c.in-ZonePut.fabric c.in-ZonePut.name c.in-ZonePut.members.items (subst IsStep (ap actions.zoning_step c.in-ZonePut.is) c.requires) in
    told_at c.args.zoning.now c.put_zone.result c.args.action.now _ c.in-ZonePut.is (if_err c.put_zone.result c.put_zone.ensures.refused (λ e h.
    zone_put_told c.args.zoning.now c.in-ZonePut.fabric c.in-ZonePut.name c.in-ZonePut.members.items listing e (subst (λ ms. IsPutZoneFault c.args.zoning.now c.in-ZonePut.name ms e) c.deref-in-ZonePut.ensures.value h)))

pub returns-in-ZoneDrop-clause-err : goal.returns-in-ZoneDrop-clause-err
returns-in-ZoneDrop-clause-err g c =
    told_at c.args.zoning.now c.drop_zone.result c.args.action.now _ c.in-ZoneDrop.is (if_err c.drop_zone.result c.drop_zone.ensures.refused (zone_drop_told c.args.zoning.now c.in-ZoneDrop.fabric c.in-ZoneDrop.name))

pub returns-in-SetPut-clause-ok : goal.returns-in-SetPut-clause-ok
returns-in-SetPut-clause-ok g c =
    done_at c.args.zoning.now c.put_set.new.self c.put_set.result c.args.action.now _ c.in-SetPut.is (on_both c.put_set.result c.put_set.ensures.accepted c.put_set.ensures.ok (λ can is. record {
      passes = set_put_passes c.args.zoning.now c.in-SetPut.fabric c.in-SetPut.name c.in-SetPut.zones.items (subst (CanPutSet c.args.zoning.now c.in-SetPut.name) c.deref-in-SetPut.ensures.value can);
      makes = subst (λ zs. c.put_set.new.self ≡ record c.args.zoning.now { sets = map.insert c.args.zoning.now.sets c.in-SetPut.name (set.from_list zs) }) c.deref-in-SetPut.ensures.value is;
    }))

pub returns-in-SetPut-clause-err : goal.returns-in-SetPut-clause-err
returns-in-SetPut-clause-err g c =
    let listing = set_listing c.in-SetPut.fabric c.in-SetPut.name c.in-SetPut.zones.items (subst IsStep (ap actions.zoning_step c.in-SetPut.is) c.requires) in
    told_at c.args.zoning.now c.put_set.result c.args.action.now _ c.in-SetPut.is (if_err c.put_set.result c.put_set.ensures.refused (λ e h.
    set_put_told c.args.zoning.now c.in-SetPut.fabric c.in-SetPut.name c.in-SetPut.zones.items listing e (subst (λ zs. IsPutSetFault c.args.zoning.now c.in-SetPut.name zs e) c.deref-in-SetPut.ensures.value h)))

pub returns-in-Activate-clause-ok : goal.returns-in-Activate-clause-ok
returns-in-Activate-clause-ok g c =
    done_at c.args.zoning.now c.activate.new.self c.activate.result c.args.action.now _ c.in-Activate.is (on_four c.activate.result c.activate.ensures.known c.activate.ensures.rows c.activate.ensures.few c.activate.ensures.rest (λ known rows few rest. record {
      passes = activate_passes c.args.zoning.now c.in-Activate.fabric c.in-Activate.set c.activate.new.self.rows known rows few;
      makes = (rows, rest);
    }))

pub returns-in-Activate-clause-err : goal.returns-in-Activate-clause-err
returns-in-Activate-clause-err g c =
    told_at c.args.zoning.now c.activate.result c.args.action.now _ c.in-Activate.is (if_err c.activate.result c.activate.ensures.refused (activate_told c.args.zoning.now c.in-Activate.fabric c.in-Activate.set))

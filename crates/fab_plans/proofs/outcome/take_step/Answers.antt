use Rattle.std.proofs.Common.{Some, sym, ap, ◌∙◌}
use Rattle.fab_reach_base.specs.fab_names.declared.fabric.Fabric.TheVariants.{A, B}
use Rattle.fab_reach_base.specs.Records.{ConfigRows}
use Rattle.fab_plans_text.specs.fab_plans_base.Actions.{zoning_step, mapping_step, step_of}
use Rattle.fab_plans.proofs.StepCases.{of_no_fabric, zoning_ok, zoning_sound, zoning_err, mapping_ok, mapping_sound, mapping_err}
use Rattle.fab_plans.proofs.outcome.take_step.Goals as goal

pub returns-in-A-clause-ok : goal.returns-in-A-clause-ok
returns-in-A-clause-ok g c =
    let view : ConfigRows = record { a = c.config.inside.a; b = c.config.inside.b; mapping = c.config.inside.mapping } in
    zoning_ok c.args.inventory.now (zoning_step c.in-Zoning.action) c.args.step.now (ap step_of (sym c.in-Zoning.is) ∙ c.action.ensures.value) view c.args.config.now c.config.view_is c.take_zoning_step.result A (c.zoned.ensures ∙ ap Some c.in-A.is) c.take_zoning_step.new.zoning c.take_zoning_step.ensures.ok

pub returns-in-A-clause-sound : goal.returns-in-A-clause-sound
returns-in-A-clause-sound g c =
    let view : ConfigRows = record { a = c.config.inside.a; b = c.config.inside.b; mapping = c.config.inside.mapping } in
    zoning_sound c.args.inventory.now (zoning_step c.in-Zoning.action) c.args.step.now (ap step_of (sym c.in-Zoning.is) ∙ c.action.ensures.value) view c.args.config.now c.config.view_is c.take_zoning_step.result A (c.zoned.ensures ∙ ap Some c.in-A.is) c.take_zoning_step.new.zoning c.take_zoning_step.ensures.ok c.take_zoning_step.ensures.sound

pub returns-in-A-clause-err : goal.returns-in-A-clause-err
returns-in-A-clause-err g c =
    let view : ConfigRows = record { a = c.config.inside.a; b = c.config.inside.b; mapping = c.config.inside.mapping } in
    zoning_err c.args.inventory.now (zoning_step c.in-Zoning.action) c.args.step.now (ap step_of (sym c.in-Zoning.is) ∙ c.action.ensures.value) view c.args.config.now c.config.view_is c.take_zoning_step.result A (c.zoned.ensures ∙ ap Some c.in-A.is) c.take_zoning_step.new.zoning c.take_zoning_step.ensures.err

pub returns-in-B-clause-ok : goal.returns-in-B-clause-ok
returns-in-B-clause-ok g c =
    let view : ConfigRows = record { a = c.config.inside.a; b = c.config.inside.b; mapping = c.config.inside.mapping } in
    zoning_ok c.args.inventory.now (zoning_step c.in-Zoning.action) c.args.step.now (ap step_of (sym c.in-Zoning.is) ∙ c.action.ensures.value) view c.args.config.now c.config.view_is c.take_zoning_step-in-B.result B (c.zoned.ensures ∙ ap Some c.in-B.is) c.take_zoning_step-in-B.new.zoning c.take_zoning_step-in-B.ensures.ok

pub returns-in-B-clause-sound : goal.returns-in-B-clause-sound
returns-in-B-clause-sound g c =
    let view : ConfigRows = record { a = c.config.inside.a; b = c.config.inside.b; mapping = c.config.inside.mapping } in
    zoning_sound c.args.inventory.now (zoning_step c.in-Zoning.action) c.args.step.now (ap step_of (sym c.in-Zoning.is) ∙ c.action.ensures.value) view c.args.config.now c.config.view_is c.take_zoning_step-in-B.result B (c.zoned.ensures ∙ ap Some c.in-B.is) c.take_zoning_step-in-B.new.zoning c.take_zoning_step-in-B.ensures.ok c.take_zoning_step-in-B.ensures.sound

pub returns-in-B-clause-err : goal.returns-in-B-clause-err
returns-in-B-clause-err g c =
    let view : ConfigRows = record { a = c.config.inside.a; b = c.config.inside.b; mapping = c.config.inside.mapping } in
    zoning_err c.args.inventory.now (zoning_step c.in-Zoning.action) c.args.step.now (ap step_of (sym c.in-Zoning.is) ∙ c.action.ensures.value) view c.args.config.now c.config.view_is c.take_zoning_step-in-B.result B (c.zoned.ensures ∙ ap Some c.in-B.is) c.take_zoning_step-in-B.new.zoning c.take_zoning_step-in-B.ensures.err

pub returns-in-Mapping-clause-ok : goal.returns-in-Mapping-clause-ok
returns-in-Mapping-clause-ok g c =
    let view : ConfigRows = record { a = c.config.inside.a; b = c.config.inside.b; mapping = c.config.inside.mapping } in
    mapping_ok c.args.inventory.now (mapping_step c.in-Mapping.action) c.args.step.now (ap step_of (sym c.in-Mapping.is) ∙ c.action.ensures.value) view c.args.config.now c.config.view_is c.take_mapping_step.result (of_no_fabric c.in-Mapping.action) c.take_mapping_step.new.mapping c.take_mapping_step.ensures.ok

pub returns-in-Mapping-clause-sound : goal.returns-in-Mapping-clause-sound
returns-in-Mapping-clause-sound g c =
    let view : ConfigRows = record { a = c.config.inside.a; b = c.config.inside.b; mapping = c.config.inside.mapping } in
    mapping_sound c.args.inventory.now (mapping_step c.in-Mapping.action) c.args.step.now (ap step_of (sym c.in-Mapping.is) ∙ c.action.ensures.value) view c.args.config.now c.config.view_is c.take_mapping_step.result (of_no_fabric c.in-Mapping.action) c.take_mapping_step.new.mapping c.take_mapping_step.ensures.keeps

pub returns-in-Mapping-clause-err : goal.returns-in-Mapping-clause-err
returns-in-Mapping-clause-err g c =
    let view : ConfigRows = record { a = c.config.inside.a; b = c.config.inside.b; mapping = c.config.inside.mapping } in
    mapping_err c.args.inventory.now (mapping_step c.in-Mapping.action) c.args.step.now (ap step_of (sym c.in-Mapping.is) ∙ c.action.ensures.value) view c.args.config.now c.config.view_is c.take_mapping_step.result (of_no_fabric c.in-Mapping.action) c.take_mapping_step.new.mapping c.take_mapping_step.ensures.err

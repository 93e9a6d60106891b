use Rattle.std.proofs.Common.{inr}
use Rattle.std.proofs.lemmas.Result.{err_from_is_err_and}
use Rattle.fab_plans_base.specs.Steps.{alias_drop, zone_drop, set_drop, activate, deactivate, default_zone}
use Rattle.fab_plans_text.proofs.Words.{spelled, is_step}
use Rattle.fab_plans_text.proofs.zoning_line.zoning_words.Goals as goal

pub new-requires : goal.new-requires
new-requires g c = is_step c.args.words.now (alias_drop c.in_ok-fabric-in-AliasDrop.fabric c.in_ok-fabric-in-AliasDrop.name) (rw c.in-AliasDrop.is at c.requires) c.in_ok-fabric-in-AliasDrop.ensures

pub new-requires-in-ZoneDrop : goal.new-requires-in-ZoneDrop
new-requires-in-ZoneDrop g c = is_step c.args.words.now (zone_drop c.in_ok-fabric-in-ZoneDrop.fabric c.in_ok-fabric-in-ZoneDrop.name) (rw c.in-ZoneDrop.is at c.requires) c.in_ok-fabric-in-ZoneDrop.ensures

pub new-requires-in-SetDrop : goal.new-requires-in-SetDrop
new-requires-in-SetDrop g c = is_step c.args.words.now (set_drop c.in_ok-fabric-in-SetDrop.fabric c.in_ok-fabric-in-SetDrop.name) (rw c.in-SetDrop.is at c.requires) c.in_ok-fabric-in-SetDrop.ensures

pub new-requires-in-Activate : goal.new-requires-in-Activate
new-requires-in-Activate g c = is_step c.args.words.now (activate c.in_ok-fabric-in-Activate.fabric c.in_ok-fabric-in-Activate.set) (rw c.in-Activate.is at c.requires) c.in_ok-fabric-in-Activate.ensures

pub new-requires-in-Deactivate : goal.new-requires-in-Deactivate
new-requires-in-Deactivate g c = is_step c.args.words.now (deactivate c.in_ok-fabric-in-Deactivate.fabric) (rw c.in-Deactivate.is at c.requires) c.in_ok-fabric-in-Deactivate.ensures

pub new-requires-in-Default : goal.new-requires-in-Default
new-requires-in-Default g c = is_step c.args.words.now (default_zone c.in_ok-fabric-in-Default.fabric c.in_ok-fabric-in-Default.flag) (rw c.in-Default.is at c.requires) c.in_ok-fabric-in-Default.ensures

pub returns-in-AliasPut : goal.returns-in-AliasPut
returns-in-AliasPut g c = rw c.in-AliasPut.is c.alias_put.ensures

pub returns-in-SetPut : goal.returns-in-SetPut
returns-in-SetPut g c = rw c.in-SetPut.is c.set_put.ensures

pub returns-in_ok-fabric-in-AliasDrop : goal.returns-in_ok-fabric-in-AliasDrop
returns-in_ok-fabric-in-AliasDrop g c =
    rw (c.in-AliasDrop.is, c.new.ensures) (spelled c.args.words.now (alias_drop c.in_ok-fabric-in-AliasDrop.fabric c.in_ok-fabric-in-AliasDrop.name) (rw c.in-AliasDrop.is at c.requires) c.in_ok-fabric-in-AliasDrop.ensures)

pub returns-in_err-fabric-in-AliasDrop : goal.returns-in_err-fabric-in-AliasDrop
returns-in_err-fabric-in-AliasDrop g c =
    let p = err_from_is_err_and c.from_residual.result c.from_residual.ensures.1 in
    rw (c.in-AliasDrop.is, p.1, p.2) (inr c.in_err-fabric-in-AliasDrop.ensures)

pub returns-in_ok-fabric-in-ZoneDrop : goal.returns-in_ok-fabric-in-ZoneDrop
returns-in_ok-fabric-in-ZoneDrop g c =
    rw (c.in-ZoneDrop.is, c.new-in-ZoneDrop.ensures) (spelled c.args.words.now (zone_drop c.in_ok-fabric-in-ZoneDrop.fabric c.in_ok-fabric-in-ZoneDrop.name) (rw c.in-ZoneDrop.is at c.requires) c.in_ok-fabric-in-ZoneDrop.ensures)

pub returns-in_err-fabric-in-ZoneDrop : goal.returns-in_err-fabric-in-ZoneDrop
returns-in_err-fabric-in-ZoneDrop g c =
    let p = err_from_is_err_and c.from_residual-in_err-fabric-in-ZoneDrop.result c.from_residual-in_err-fabric-in-ZoneDrop.ensures.1 in
    rw (c.in-ZoneDrop.is, p.1, p.2) (inr c.in_err-fabric-in-ZoneDrop.ensures)

pub returns-in_ok-fabric-in-SetDrop : goal.returns-in_ok-fabric-in-SetDrop
returns-in_ok-fabric-in-SetDrop g c =
    rw (c.in-SetDrop.is, c.new-in-SetDrop.ensures) (spelled c.args.words.now (set_drop c.in_ok-fabric-in-SetDrop.fabric c.in_ok-fabric-in-SetDrop.name) (rw c.in-SetDrop.is at c.requires) c.in_ok-fabric-in-SetDrop.ensures)

pub returns-in_err-fabric-in-SetDrop : goal.returns-in_err-fabric-in-SetDrop
returns-in_err-fabric-in-SetDrop g c =
    let p = err_from_is_err_and c.from_residual-in_err-fabric-in-SetDrop.result c.from_residual-in_err-fabric-in-SetDrop.ensures.1 in
    rw (c.in-SetDrop.is, p.1, p.2) (inr c.in_err-fabric-in-SetDrop.ensures)

pub returns-in_ok-fabric-in-Activate : goal.returns-in_ok-fabric-in-Activate
returns-in_ok-fabric-in-Activate g c =
    rw (c.in-Activate.is, c.new-in-Activate.ensures) (spelled c.args.words.now (activate c.in_ok-fabric-in-Activate.fabric c.in_ok-fabric-in-Activate.set) (rw c.in-Activate.is at c.requires) c.in_ok-fabric-in-Activate.ensures)

pub returns-in_err-fabric-in-Activate : goal.returns-in_err-fabric-in-Activate
returns-in_err-fabric-in-Activate g c =
    let p = err_from_is_err_and c.from_residual-in_err-fabric-in-Activate.result c.from_residual-in_err-fabric-in-Activate.ensures.1 in
    rw (c.in-Activate.is, p.1, p.2) (inr c.in_err-fabric-in-Activate.ensures)

pub returns-in_ok-fabric-in-Deactivate : goal.returns-in_ok-fabric-in-Deactivate
returns-in_ok-fabric-in-Deactivate g c =
    rw (c.in-Deactivate.is, c.new-in-Deactivate.ensures) (spelled c.args.words.now (deactivate c.in_ok-fabric-in-Deactivate.fabric) (rw c.in-Deactivate.is at c.requires) c.in_ok-fabric-in-Deactivate.ensures)

pub returns-in_err-fabric-in-Deactivate : goal.returns-in_err-fabric-in-Deactivate
returns-in_err-fabric-in-Deactivate g c =
    let p = err_from_is_err_and c.from_residual-in_err-fabric-in-Deactivate.result c.from_residual-in_err-fabric-in-Deactivate.ensures.1 in
    rw (c.in-Deactivate.is, p.1, p.2) (inr c.in_err-fabric-in-Deactivate.ensures)

pub returns-in_ok-fabric-in-Default : goal.returns-in_ok-fabric-in-Default
returns-in_ok-fabric-in-Default g c =
    rw (c.in-Default.is, c.new-in-Default.ensures) (spelled c.args.words.now (default_zone c.in_ok-fabric-in-Default.fabric c.in_ok-fabric-in-Default.flag) (rw c.in-Default.is at c.requires) c.in_ok-fabric-in-Default.ensures)

pub returns-in_err-fabric-in-Default : goal.returns-in_err-fabric-in-Default
returns-in_err-fabric-in-Default g c =
    let p = err_from_is_err_and c.from_residual-in_err-fabric-in-Default.result c.from_residual-in_err-fabric-in-Default.ensures.1 in
    rw (c.in-Default.is, p.1, p.2) (inr c.in_err-fabric-in-Default.ensures)

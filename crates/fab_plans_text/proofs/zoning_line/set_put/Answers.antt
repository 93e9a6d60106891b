use Rattle.std.proofs.Common.{refl, map}
use Rattle.std.proofs.lemmas.Result.{err_from_is_err_and}
use Rattle.fab_plans_base.specs.Values.{a_fabric, a_name, of_fabric, of_name}
use Rattle.fab_plans_base.specs.Steps.{set_put}
use Rattle.fab_plans_text.proofs.Words.{listed_values, listed_fault, spelled, is_step}
use Rattle.fab_plans_text.proofs.zoning_line.set_put.Goals as goal

pub returns-in_err-zones : goal.returns-in_err-zones
returns-in_err-zones g c =
    let p = err_from_is_err_and c.from_residual-in_err-zones.result c.from_residual-in_err-zones.ensures.1 in
    rw (p.1, p.2) (listed_fault a_fabric a_name a_name (of_fabric c.in_ok-fabric.fabric) (of_name c.in_ok-fabric.name) c.args.words.now _ c.requires.0 refl refl c.in_ok-fabric.ensures c.in_err-zones.ensures)

pub returns : goal.returns
returns g c =
    let values = listed_values (of_fabric c.in_ok-fabric.fabric) (of_name c.in_ok-fabric.name) (map of_name c.in_ok-zones.zones.items) c.args.words.now c.requires.0 c.in_ok-fabric.ensures c.in_ok-zones.ensures in
    rw c.new.ensures (spelled c.args.words.now (set_put c.in_ok-fabric.fabric c.in_ok-fabric.name c.in_ok-zones.zones.items) c.requires values)

pub new-requires : goal.new-requires
new-requires g c =
    let values = listed_values (of_fabric c.in_ok-fabric.fabric) (of_name c.in_ok-fabric.name) (map of_name c.in_ok-zones.zones.items) c.args.words.now c.requires.0 c.in_ok-fabric.ensures c.in_ok-zones.ensures in
    is_step c.args.words.now (set_put c.in_ok-fabric.fabric c.in_ok-fabric.name c.in_ok-zones.zones.items) c.requires values

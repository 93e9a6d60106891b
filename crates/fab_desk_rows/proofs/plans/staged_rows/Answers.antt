use Rattle.std.proofs.Common.{inr, refl}
use Rattle.std.specs.FinMap as map
use Rattle.fab_desk_rows.proofs.PlansPut.{absent, more_there, not_in_force, row_comes}
use Rattle.fab_desk_rows.proofs.plans.staged_rows.Goals as goal

pub returns : goal.returns
returns g c = λ v more sound next_sound.
    let w = c.args.world.now in
    let n = c.args.name.now in
    let p = c.args.kept.now in
    let none = absent (map.get w.plans n) c.requires in
    let within = (next_sound.plans n p (more_there w v n p none more)).steps in
    row_comes w v n p none more (record { state = c.state.result; position = 0 }) c.state.ensures (inr (refl, not_in_force w n none sound)) next_sound.order.each_once c.new.result.items c.in_ok-added.added.items c.new.ensures.items c.in_ok-added.ensures.row (c.in_ok-added.ensures.spelt within)

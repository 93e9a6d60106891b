use Rattle.std.proofs.Common.{[], refl, sym, ap, ◌∙◌, subst}
use Rattle.fab_desk_machine.specs.fab_desk_trials.Trials.{EffectSuits, effect_world}
use Rattle.fab_looks_tries.specs.Ports.{AreNewPorts}
use Rattle.fab_looks_tries.proofs.Unmoved.{planned_same, same_ports}
use Rattle.fab_reach_base.specs.Records.{Records}
use Rattle.fab_looks_tries.proofs.rows.new_ports.Goals as goal

pub returns-in-Parts : goal.returns-in-Parts
returns-in-Parts g c w caller k suits = subst (λ e. AreNewPorts w.inventory (effect_world w caller k e).inventory c.ports_in.result.now) (sym c.in-Parts.is) (c.ports_in.ensures w (subst (EffectSuits w k) c.in-Parts.is suits))

pub returns-in-NewPlan : goal.returns-in-NewPlan
returns-in-NewPlan g c w caller k suits =
    same_ports w (effect_world w caller k c.args.effect.now) [] refl (ap (λ e. (effect_world w caller k e).inventory) c.in-NewPlan.is ∙ ap (λ (r : Records). r.inventory) (planned_same w caller k))

use Rattle.std.proofs.Common.{sym, ap, subst}
use Rattle.fab_desk_machine.specs.fab_desk_trials.Trials.{effect_world}
use Rattle.fab_looks_tries.proofs.Unmoved.{planned_same}
use Rattle.fab_reach_base.specs.Records.{ConfigRows, Records}
use Rattle.fab_store_rows.specs.Differences.{IsDifference}
use Rattle.fab_looks_tries.proofs.rows.config_rows.Goals as goal

pub returns-in-NewPlan : goal.returns-in-NewPlan
returns-in-NewPlan g c w caller k suits =
    subst (λ e. IsDifference w.config (effect_world w caller k e).config c.no_rows.result.taken.items c.no_rows.result.added.items) (sym c.in-NewPlan.is)
    (subst (λ (d : ConfigRows). IsDifference w.config d c.no_rows.result.taken.items c.no_rows.result.added.items) (sym (ap (λ (r : Records). r.config) (planned_same w caller k))) (c.no_rows.ensures w.config))

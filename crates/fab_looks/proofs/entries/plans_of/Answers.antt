use Rattle.std.proofs.Common.{List, ℕ, sym, ap, subst}
use Rattle.fab_world.specs.PlanRecords.{PlanRecord}
use Rattle.fab_world.specs.Worlds.{WorldRows}
use Rattle.fab_looks.specs.Inner.Entries.{HasKeys}
use Rattle.fab_looks.proofs.Keys.{tree_keys}
use Rattle.fab_looks.proofs.entries.plans_of.Goals as goal

pub returns : goal.returns
returns g c =
    subst (λ (es : List (List ℕ × PlanRecord)). HasKeys es c.args.world.now.plans) (sym c.iter.ensures.rest)
    (tree_keys c.world.inside.plans.entries c.args.world.now.plans (ap (λ (w : WorldRows). w.plans) c.world.view_is))

use Rattle.std.proofs.Common.{refl, subst}
use Rattle.fab_store_world.specs.Inventories.{IsInventoryDifference}
use Rattle.fab_world.specs.Worlds.{WorldRows}
use Rattle.fab_desk_trials.proofs.effects.of_holder.Goals as goal

pub returns-in-Ok-holder_difference-clause-ok : goal.returns-in-Ok-holder_difference-clause-ok
returns-in-Ok-holder_difference-clause-ok g c =
    let differs = subst (λ (w : WorldRows). IsInventoryDifference w.inventory c.in-Ok.inventory c.in-Ok-holder_difference.change) c.world.view_is c.in-Ok-holder_difference.ensures in
    (c.in-Ok.inventory, c.in-Ok.is, (c.in-Ok-holder_difference.change, refl, differs))

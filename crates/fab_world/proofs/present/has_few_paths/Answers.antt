use Rattle.std.proofs.Common.{refl}
use Rattle.fab_reach_base.specs.Reach.{Reaches}
use Rattle.fab_reach_base.specs.declared.listing.TheConstants.{MOST_PATHS}
use Rattle.fab_world.proofs.Presents.{not_more}
use Rattle.fab_world.proofs.present.has_few_paths.Goals as goal

pub returns-in-Ok-clause-few : goal.returns-in-Ok-clause-few
returns-in-Ok-clause-few g c = (λ t. not_more MOST_PATHS (Reaches (record { inventory = c.args.inventory.now; config = c.args.config.now })) c.in-Ok._paths.items c.in-Ok.ensures.ok c.in-Ok.ensures.few, λ h. refl)

use Rattle.std.proofs.Common.{ap, ◌∙◌}
use Rattle.std.specs.FinMap as map
use Rattle.fab_world.specs.Worlds.{WorldRows}
use Rattle.fab_looks.proofs.Keys.{all_keys}
use Rattle.fab_looks.proofs.entries.volumes_of.Goals as goal

pub returns : goal.returns
returns g c = all_keys c.volumes.result c.args.world.now.inventory.volumes (c.volumes.ensures ∙ ap (λ (v : WorldRows). map.entries v.inventory.volumes) c.world.view_is)

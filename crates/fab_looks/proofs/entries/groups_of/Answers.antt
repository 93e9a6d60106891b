use Rattle.std.proofs.Common.{ap, ◌∙◌}
use Rattle.std.specs.FinMap as map
use Rattle.fab_reach_base.specs.fab_mapping.Mappings.{MappingRows}
use Rattle.fab_world.specs.Worlds.{WorldRows}
use Rattle.fab_looks.proofs.Keys.{all_keys}
use Rattle.fab_looks.proofs.entries.groups_of.Goals as goal

pub returns : goal.returns
returns g c =
    all_keys c.groups.result c.args.world.now.config.mapping.groups
    (c.groups.ensures ∙ ap (λ (m : MappingRows). map.entries m.groups) c.mapping.ensures ∙ ap (λ (v : WorldRows). map.entries v.config.mapping.groups) c.world.view_is)

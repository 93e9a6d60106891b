use Rattle.std.specs.FinMap as map
use Rattle.fab_reach_base.specs.fab_mapping_base.Groups.{MapsVolume}
use Rattle.fab_desk_base.proofs.UsersFound.{user_found}
use Rattle.fab_desk_base.proofs.users.volume_user.Goals as goal

pub returns : goal.returns
returns g c = user_found (map.get c.args.mapping.now.groups) (MapsVolume c.args.name.now) c.group_with_volume.result c.group_with_volume.ensures

use Rattle.fab_store_world.proofs.OneVolume.{one_back}
use Rattle.fab_store_world.proofs.volumes.volume_difference.Goals as goal

pub lists_only_at-requires-2 : goal.lists_only_at-requires-2
lists_only_at-requires-2 g c = one_back c.args.before.now c.args.after.now c.args.name.now c.requires

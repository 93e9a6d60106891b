use Rattle.fab_store_world.proofs.OneWorld.{one_world}
use Rattle.fab_store_world.proofs.opening_laws.one_world.Goals as goal

pub returns : goal.returns
returns g c = one_world c.args.tables.now

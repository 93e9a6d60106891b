use Rattle.std.proofs.Common.{◌↔◌, IsTrue, ap, subst}
use Rattle.fab_store_world.specs.Paths.{ArePathRows}
use Rattle.fab_world.specs.Worlds.{records_of}
use Rattle.fab_store_world.proofs.world.has_paths.Goals as goal

pub returns-in-Ok : goal.returns-in-Ok
returns-in-Ok g c = λ few. subst (λ w. IsTrue c.in-Ok.are ↔ ArePathRows w c.args.rows.now) (ap records_of c.world.view_is) c.in-Ok.ensures.ok

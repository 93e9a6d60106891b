use Rattle.std.proofs.Common.{ap, sym}
use Rattle.std.specs.Option.{option_copied}
use Rattle.fab_reach_base.proofs.fab_lemmas.SeenMaps.{looked_up}
use Rattle.fab_reach_base.proofs.fab_names.OrderLaws.{name_total}
use Rattle.fab_world.specs.Worlds.{WorldRows}
use Rattle.fab_world.proofs.world.World.plan.Goals as goal

pub returns : goal.returns
returns g c = sym (looked_up name_total c.self.inside.plans.entries c.args.self.now.plans c.args.name.now (option_copied c.get.result) (ap (λ (w : WorldRows). w.plans) c.self.view_is) c.get.ensures.value)

use Rattle.std.proofs.Common.{◌≡◌, Some, sym, subst}
use Rattle.std.specs.FinMap as map
use Rattle.fab_world.specs.Worlds.{WorldRows}
use Rattle.fab_looks_ways.proofs.Offered.{tenant_is}
use Rattle.fab_looks_ways.proofs.reachers.tenant_of.Goals as goal

pub returns : goal.returns
returns g c =
    tenant_is c.args.world.now c.args.host.now c.in-Some.holder c.requires.there (subst (λ (v : WorldRows). map.get v.inventory.holders c.args.host.now ≡ Some c.in-Some.holder) c.world.view_is (sym c.in-Some.ensures.holder))

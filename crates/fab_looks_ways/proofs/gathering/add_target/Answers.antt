use Rattle.std.proofs.Common.{◌≡◌, Some, sym, subst}
use Rattle.fab_reach_base.specs.fab_inventory.Ports.{port_at}
use Rattle.fab_world.specs.Worlds.{WorldRows, records_of}
use Rattle.fab_looks_ways.specs.Pairs.{HasEnds}
use Rattle.fab_looks_ways.proofs.Ended.{target_added}
use Rattle.fab_looks_ways.proofs.gathering.add_target.Goals as goal

pub returns : goal.returns
returns g c =
    target_added (records_of c.args.world.now) c.args.ports.now c.args.target.now c.in-Some.port c.in-Some-at.fabric (HasEnds c.args.ends.now) (HasEnds c.add_ports.new.ends)
    (sym (subst (λ (v : WorldRows). Some c.in-Some.port ≡ port_at v.inventory.ports c.args.target.now) c.world.view_is c.in-Some.ensures.port))
    (c.in-Some-at.field-0-1, c.in-Some-at.is) c.in_ok-add_ports.ensures

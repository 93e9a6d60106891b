use Rattle.std.proofs.Common.{sym, ap, subst}
use Rattle.fab_desk_machine.specs.fab_desk_trials.Trials.{effect_world}
use Rattle.fab_inventory.specs.Inventories.{InventoryRows}
use Rattle.fab_looks_tries.specs.Ports.{AreNewPorts, ArePortsMoved}
use Rattle.fab_world.specs.Worlds.{WorldRows}
use Rattle.fab_looks_tries.proofs.imports.moved.Goals as goal

pub returns-clause-ports : goal.returns-clause-ports
returns-clause-ports g c caller k suits =
    let w = c.args.world.now in
    let v = (effect_world w caller k c.args.prepared.effect).inventory in
    let is = ap (λ (x : WorldRows). x.inventory) c.world.view_is in
    subst (λ (x : InventoryRows). ArePortsMoved x v c.in_ok-ports.ports) is
    (c.in_ok-ports.ensures v (subst (λ (x : InventoryRows). AreNewPorts x v c.new_ports.result.now) (sym is) (c.new_ports.ensures w caller k suits)))

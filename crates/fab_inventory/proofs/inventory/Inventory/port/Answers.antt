use Rattle.std.proofs.Common.{sym, ap, Some, None}
use Rattle.std.specs.Cmp.{nat_cmp_total}
use Rattle.std.specs.Option.{option_map}
use Rattle.fab_inventory.specs.Ports.{port_of}
use Rattle.fab_inventory.specs.Inventories.{InventoryRows}
use Rattle.fab_lemmas.proofs.SeenMaps.{looked_up}
use Rattle.fab_inventory.proofs.inventory.Inventory.port.Goals as goal

pub returns-clause-port : goal.returns-clause-port
returns-clause-port g c =
    sym (ap (option_map (port_of c.args.name.now)) (looked_up nat_cmp_total c.self.inside.ports.entries c.args.self.now.ports c.args.name.now (Some c.in-Some.known.now) (ap (λ (v : InventoryRows). v.ports) c.self.view_is) c.in-Some.ensures.value))

pub returns-in_default-clause-port : goal.returns-in_default-clause-port
returns-in_default-clause-port g c =
    sym (ap (option_map (port_of c.args.name.now)) (looked_up nat_cmp_total c.self.inside.ports.entries c.args.self.now.ports c.args.name.now None (ap (λ (v : InventoryRows). v.ports) c.self.view_is) c.in_default.ensures.value))

use Rattle.std.proofs.Common.{◌≡◌, Some, refl, sym, subst}
use Rattle.std.specs.FinMap as map
use Rattle.fab_reach_base.specs.fab_inventory.Inventories.{InventoryRows}
use Rattle.fab_desk_base.proofs.holders.volume_shown.Goals as goal

pub returns : goal.returns
returns g c =
    let there : map.get c.args.world.now.inventory.volumes c.args.name.now ≡ Some c.in-Some.volume = subst (λ (v : InventoryRows). map.get v.volumes c.args.name.now ≡ Some c.in-Some.volume) c.inventory_in-inventory.ensures (sym c.in-Some.ensures.volume) in
    ((c.in-Some.volume.tenant, (c.in-Some.volume, there, refl)), (refl, there))

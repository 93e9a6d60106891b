use Rattle.fab_store_world.specs.Inventories.{IsKnownOnlyIn, port_order, entry_order, address_order, holder_order, volume_order}
use Rattle.fab_store_rows.specs.declared.inventory_row.InventoryRow.TheVariants as row
use Rattle.fab_desk_rows.proofs.Listed.{none_listed}
use Rattle.fab_desk_rows.proofs.parts.no_lists.Goals as goal

pub returns : goal.returns
returns g c = λ v. record {
  ports = none_listed port_order (λ r. IsKnownOnlyIn v v (row.Port r)) c.new.result.items c.new.ensures.items (λ r h. h.not_there h.there);
  entries = none_listed entry_order (λ r. IsKnownOnlyIn v v (row.Entry r)) c.new-2.result.items c.new-2.ensures.items (λ r h. h.not_there h.there);
  addresses = none_listed address_order (λ r. IsKnownOnlyIn v v (row.Address r)) c.new-3.result.items c.new-3.ensures.items (λ r h. h.not_there h.there);
  holders = none_listed holder_order (λ r. IsKnownOnlyIn v v (row.Holder r)) c.new-4.result.items c.new-4.ensures.items (λ r h. h.not_there h.there);
  volumes = none_listed volume_order (λ r. IsKnownOnlyIn v v (row.Volume r)) c.new-5.result.items c.new-5.ensures.items (λ r h. h.not_there h.there);
}

-- Rows of inventories that are listed once more.
use Rattle.std.proofs.Common.{◌≡◌, sym, subst}
use Rattle.fab_reach_base.specs.fab_lemmas.Lists.{IsListOf}
use Rattle.fab_store_rows.specs.declared.inventory_row.InventoryRow.{InventoryRow}
use Rattle.fab_store_rows.specs.declared.inventory_row.InventoryRow.TheVariants as row
use Rattle.fab_store_world.specs.Inventories.{AreListsOf, port_order, entry_order, address_order, holder_order, volume_order}
use Rattle.fab_store_world.specs.declared.inventories.InventoryLists.{InventoryLists}

-- the same items are lists of the same rows
pub same_lists : {A B : Type 0} (P : InventoryRow → Type 0) (lists : InventoryLists A) (again : InventoryLists B)
    → again.ports.items ≡ lists.ports.items → again.entries.items ≡ lists.entries.items → again.addresses.items ≡ lists.addresses.items → again.holders.items ≡ lists.holders.items → again.volumes.items ≡ lists.volumes.items
    → AreListsOf P lists → AreListsOf P again
same_lists P lists again ports entries addresses holders volumes h = record {
  ports = subst (IsListOf port_order (λ r. P (row.Port r))) (sym ports) h.ports;
  entries = subst (IsListOf entry_order (λ r. P (row.Entry r))) (sym entries) h.entries;
  addresses = subst (IsListOf address_order (λ r. P (row.Address r))) (sym addresses) h.addresses;
  holders = subst (IsListOf holder_order (λ r. P (row.Holder r))) (sym holders) h.holders;
  volumes = subst (IsListOf volume_order (λ r. P (row.Volume r))) (sym volumes) h.volumes;
}

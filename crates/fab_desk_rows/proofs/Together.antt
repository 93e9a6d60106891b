-- The rows of inventories, configurations and paths that are moved, as those of the tables.
use Rattle.std.proofs.Common.{List}
use Rattle.fab_reach_base.specs.fab_lemmas.Lists.{IsListOf}
use Rattle.fab_reach_base.proofs.fab_lemmas.Filters.{list_as}
use Rattle.fab_store_rows.specs.declared.config_row.ConfigRow.{ConfigRow}
use Rattle.fab_store_rows.specs.declared.inventory_row.PortEntry.{PortEntry}
use Rattle.fab_store_rows.specs.declared.inventory_row.AddressRow.{AddressRow}
use Rattle.fab_store_rows.specs.declared.inventory_row.HolderRow.{HolderRow}
use Rattle.fab_store_rows.specs.declared.inventory_row.VolumeRow.{VolumeRow}
use Rattle.fab_store_rows.specs.declared.inventory_row.InventoryRow.TheVariants as row
use Rattle.fab_store_rows.specs.declared.record_row.PathRow.{PathRow}
use Rattle.fab_store_rows.specs.Differences.{StandsOnlyIn}
use Rattle.fab_store_rows.specs.RowOrder.{row_order}
use Rattle.fab_store_world.specs.Inventories.{IsKnownOnlyIn, entry_order, address_order, holder_order, volume_order}
use Rattle.fab_store_world.specs.Paths.{IsPathRowOnlyIn, path_row_order}
use Rattle.fab_world.specs.Worlds.{WorldRows, records_of}
use Rattle.fab_store_world.specs.Standing.{Lacking}
use Rattle.fab_store_world.specs.Tables.{IsPortRow, IsAddressRow, IsHolderRow, IsVolumeRow, IsConfigRow, IsRowOfPath}

module _ (w v : WorldRows) where
  pub ports_only : (xs : List PortEntry) → IsListOf entry_order (λ r. IsKnownOnlyIn w.inventory v.inventory (row.Entry r)) xs → IsListOf entry_order (Lacking IsPortRow v w) xs
  ports_only xs = list_as (λ r. IsKnownOnlyIn w.inventory v.inventory (row.Entry r)) (Lacking IsPortRow v w) xs (λ r h. (h.there, h.not_there)) (λ r h. record { there = h.0; not_there = h.1 })

  pub addresses_only : (xs : List AddressRow) → IsListOf address_order (λ r. IsKnownOnlyIn w.inventory v.inventory (row.Address r)) xs → IsListOf address_order (Lacking IsAddressRow v w) xs
  addresses_only xs = list_as (λ r. IsKnownOnlyIn w.inventory v.inventory (row.Address r)) (Lacking IsAddressRow v w) xs (λ r h. (h.there, h.not_there)) (λ r h. record { there = h.0; not_there = h.1 })

  pub holders_only : (xs : List HolderRow) → IsListOf holder_order (λ r. IsKnownOnlyIn w.inventory v.inventory (row.Holder r)) xs → IsListOf holder_order (Lacking IsHolderRow v w) xs
  holders_only xs = list_as (λ r. IsKnownOnlyIn w.inventory v.inventory (row.Holder r)) (Lacking IsHolderRow v w) xs (λ r h. (h.there, h.not_there)) (λ r h. record { there = h.0; not_there = h.1 })

  pub volumes_only : (xs : List VolumeRow) → IsListOf volume_order (λ r. IsKnownOnlyIn w.inventory v.inventory (row.Volume r)) xs → IsListOf volume_order (Lacking IsVolumeRow v w) xs
  volumes_only xs = list_as (λ r. IsKnownOnlyIn w.inventory v.inventory (row.Volume r)) (Lacking IsVolumeRow v w) xs (λ r h. (h.there, h.not_there)) (λ r h. record { there = h.0; not_there = h.1 })

  pub config_only : (xs : List ConfigRow) → IsListOf row_order (StandsOnlyIn w.config v.config) xs → IsListOf row_order (Lacking IsConfigRow v w) xs
  config_only xs = list_as (StandsOnlyIn w.config v.config) (Lacking IsConfigRow v w) xs (λ r h. (h.there, h.not_there)) (λ r h. record { there = h.0; not_there = h.1 })

  pub paths_only : (xs : List PathRow) → IsListOf path_row_order (IsPathRowOnlyIn (records_of w) (records_of v)) xs → IsListOf path_row_order (Lacking IsRowOfPath v w) xs
  paths_only xs = list_as (IsPathRowOnlyIn (records_of w) (records_of v)) (Lacking IsRowOfPath v w) xs (λ r h. (h.there, h.not_there)) (λ r h. record { there = h.0; not_there = h.1 })

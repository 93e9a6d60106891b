-- The order of keys is total, and tells keys apart.
use Rattle.std.proofs.Common.{◌≡◌, ap}
use Rattle.std.specs.declared.cmp.Ordering.TheVariants.{Equal}
use Rattle.std.specs.Cmp.{IsTotalOrder}
use Rattle.std.specs.FinSet as set
use Rattle.fab_reach_base.specs.fab_names.Orders.{fabric_cmp, name_cmp}
use Rattle.fab_reach_base.proofs.fab_names.OrderLaws.{both_equal, fabric_exact, greater_equal, less_equal, name_exact}
use Rattle.fab_store_rows.specs.declared.row_key.RowKey.{RowKey}
use Rattle.fab_store_rows.specs.declared.row_key.RowKey.TheVariants.{Alias, Zone, ZoneSet, ActiveSet, DefaultZone, HostGroup, StorageGroup}
use Rattle.fab_store_rows.specs.contracts.row_key.RowKeyOrd.TheImpl.Laws.{total-law}
use Rattle.fab_store_rows.specs.Keys.{key_cmp}

pub key_total : IsTotalOrder key_cmp
key_total = total-law

exact : (a b : RowKey) → key_cmp a b ≡ Equal → a ≡ b
exact (Alias f m) (Alias g n) e =
    let w = both_equal (fabric_cmp f g) (name_cmp m n) e in
    λ i. Alias (fabric_exact f g w.0 i) (name_exact m n w.1 i)
exact (Alias f m) (Zone g n) e = less_equal e
exact (Alias f m) (ZoneSet g n) e = less_equal e
exact (Alias f m) (ActiveSet g) e = less_equal e
exact (Alias f m) (DefaultZone g) e = less_equal e
exact (Alias f m) (HostGroup n) e = less_equal e
exact (Alias f m) (StorageGroup n) e = less_equal e
exact (Zone f m) (Alias g n) e = greater_equal e
exact (Zone f m) (Zone g n) e =
    let w = both_equal (fabric_cmp f g) (name_cmp m n) e in
    λ i. Zone (fabric_exact f g w.0 i) (name_exact m n w.1 i)
exact (Zone f m) (ZoneSet g n) e = less_equal e
exact (Zone f m) (ActiveSet g) e = less_equal e
exact (Zone f m) (DefaultZone g) e = less_equal e
exact (Zone f m) (HostGroup n) e = less_equal e
exact (Zone f m) (StorageGroup n) e = less_equal e
exact (ZoneSet f m) (Alias g n) e = greater_equal e
exact (ZoneSet f m) (Zone g n) e = greater_equal e
exact (ZoneSet f m) (ZoneSet g n) e =
    let w = both_equal (fabric_cmp f g) (name_cmp m n) e in
    λ i. ZoneSet (fabric_exact f g w.0 i) (name_exact m n w.1 i)
exact (ZoneSet f m) (ActiveSet g) e = less_equal e
exact (ZoneSet f m) (DefaultZone g) e = less_equal e
exact (ZoneSet f m) (HostGroup n) e = less_equal e
exact (ZoneSet f m) (StorageGroup n) e = less_equal e
exact (ActiveSet f) (Alias g n) e = greater_equal e
exact (ActiveSet f) (Zone g n) e = greater_equal e
exact (ActiveSet f) (ZoneSet g n) e = greater_equal e
exact (ActiveSet f) (ActiveSet g) e = ap ActiveSet (fabric_exact f g e)
exact (ActiveSet f) (DefaultZone g) e = less_equal e
exact (ActiveSet f) (HostGroup n) e = less_equal e
exact (ActiveSet f) (StorageGroup n) e = less_equal e
exact (DefaultZone f) (Alias g n) e = greater_equal e
exact (DefaultZone f) (Zone g n) e = greater_equal e
exact (DefaultZone f) (ZoneSet g n) e = greater_equal e
exact (DefaultZone f) (ActiveSet g) e = greater_equal e
exact (DefaultZone f) (DefaultZone g) e = ap DefaultZone (fabric_exact f g e)
exact (DefaultZone f) (HostGroup n) e = less_equal e
exact (DefaultZone f) (StorageGroup n) e = less_equal e
exact (HostGroup m) (Alias g n) e = greater_equal e
exact (HostGroup m) (Zone g n) e = greater_equal e
exact (HostGroup m) (ZoneSet g n) e = greater_equal e
exact (HostGroup m) (ActiveSet g) e = greater_equal e
exact (HostGroup m) (DefaultZone g) e = greater_equal e
exact (HostGroup m) (HostGroup n) e = ap HostGroup (name_exact m n e)
exact (HostGroup m) (StorageGroup n) e = less_equal e
exact (StorageGroup m) (Alias g n) e = greater_equal e
exact (StorageGroup m) (Zone g n) e = greater_equal e
exact (StorageGroup m) (ZoneSet g n) e = greater_equal e
exact (StorageGroup m) (ActiveSet g) e = greater_equal e
exact (StorageGroup m) (DefaultZone g) e = greater_equal e
exact (StorageGroup m) (HostGroup n) e = greater_equal e
exact (StorageGroup m) (StorageGroup n) e = ap StorageGroup (name_exact m n e)

pub key_exact : set.IsAntisymmetric key_cmp
key_exact = exact

-- The order of rows is total, tells rows apart, and is the one that is stated.
use Rattle.std.proofs.Common.{◌≡◌, None, Some, Bool, true, false, refl, sym, ap, ◌∙◌}
use Rattle.std.specs.declared.cmp.Ordering.{Ordering}
use Rattle.std.specs.declared.cmp.Ordering.TheVariants.{Less, Equal, Greater}
use Rattle.std.specs.Ordering.{nat_cmp, bool_cmp, ordering_then}
use Rattle.std.specs.Option.{option_cmp}
use Rattle.std.specs.Cmp.{IsTotalOrder}
use Rattle.std.specs.FinSet as set
use Rattle.fab_reach_base.specs.fab_names.declared.fabric.Fabric.{Fabric}
use Rattle.fab_reach_base.specs.fab_names.declared.member.Member.{Member}
use Rattle.fab_reach_base.specs.fab_names.Orders.{name_cmp, fabric_order, member_order}
use Rattle.fab_names.proofs.InOrder.{fabrics, members}
use Rattle.fab_names.proofs.OrderLaws as names
use Rattle.fab_names.proofs.OrderLaws.{both_equal, name_exact}
use Rattle.fab_store_rows.specs.declared.config_row.SettingRow.{SettingRow}
use Rattle.fab_store_rows.specs.declared.config_row.SettingRow.TheVariants.{ActiveSet, DefaultZone}
use Rattle.fab_store_rows.specs.declared.config_row.ZoningItem.{ZoningItem}
use Rattle.fab_store_rows.specs.declared.config_row.ZoningItem.TheVariants.{Alias, Zone, Set}
use Rattle.fab_store_rows.specs.declared.config_row.ZoningRow.{ZoningRow}
use Rattle.fab_store_rows.specs.declared.config_row.ActiveRow.{ActiveRow}
use Rattle.fab_store_rows.specs.declared.config_row.GroupRow.{GroupRow}
use Rattle.fab_store_rows.specs.declared.config_row.GroupRow.TheVariants as group
use Rattle.fab_store_rows.specs.declared.config_row.StoragePart.{StoragePart}
use Rattle.fab_store_rows.specs.declared.config_row.StoragePart.TheVariants.{HostGroup, Target, Unit}
use Rattle.fab_store_rows.specs.declared.config_row.PartRow.{PartRow}
use Rattle.fab_store_rows.specs.declared.config_row.PartRow.TheVariants as parts
use Rattle.fab_store_rows.specs.declared.config_row.ConfigRow.{ConfigRow}
use Rattle.fab_store_rows.specs.declared.config_row.ConfigRow.TheVariants.{Setting, Zoning, Active, Group, Part}
use Rattle.fab_store_rows.specs.contracts.config_row.SettingRowOrd.TheImpl as settings
use Rattle.fab_store_rows.specs.contracts.config_row.ZoningItemOrd.TheImpl as items
use Rattle.fab_store_rows.specs.contracts.config_row.GroupRowOrd.TheImpl as groups
use Rattle.fab_store_rows.specs.contracts.config_row.StoragePartOrd.TheImpl as storage_parts
use Rattle.fab_store_rows.specs.contracts.config_row.PartRowOrd.TheImpl as group_parts
use Rattle.fab_store_rows.specs.contracts.config_row.ConfigRowOrd.TheImpl.Laws.{total-law}
use Rattle.fab_store_rows.specs.RowOrder.{setting_order, item_order, zoning_order, active_order, group_order, storage_part_order, part_order, row_order, row_cmp}

pub row_total : IsTotalOrder row_cmp
row_total = total-law

-- ---- it is the one that is stated

setting_is : (a b : SettingRow) → settings.ghosts.cmp a b ≡ setting_order a b
setting_is (ActiveSet f m) (ActiveSet g n) = λ i. ordering_then (fabrics f g i) (option_cmp name_cmp m n)
setting_is (ActiveSet f m) (DefaultZone g q) = refl
setting_is (DefaultZone f p) (ActiveSet g n) = refl
setting_is (DefaultZone f p) (DefaultZone g q) = λ i. ordering_then (fabrics f g i) (bool_cmp p q)

item_is : (a b : ZoningItem) → items.ghosts.cmp a b ≡ item_order a b
item_is (Alias m x) (Alias n y) = λ i. ordering_then (name_cmp m n) (members x y i)
item_is (Alias m x) (Zone n y) = refl
item_is (Alias m x) (Set n z) = refl
item_is (Zone m x) (Alias n y) = refl
item_is (Zone m x) (Zone n y) = λ i. ordering_then (name_cmp m n) (members x y i)
item_is (Zone m x) (Set n z) = refl
item_is (Set m x) (Alias n y) = refl
item_is (Set m x) (Zone n y) = refl
item_is (Set m x) (Set n z) = refl

group_is : (a b : GroupRow) → groups.ghosts.cmp a b ≡ group_order a b
group_is (group.Host a) (group.Host b) = refl
group_is (group.Host a) (group.Storage b) = refl
group_is (group.Storage a) (group.Host b) = refl
group_is (group.Storage a) (group.Storage b) = refl

storage_part_is : (a b : StoragePart) → storage_parts.ghosts.cmp a b ≡ storage_part_order a b
storage_part_is (HostGroup a) (HostGroup b) = refl
storage_part_is (HostGroup a) (Target b) = refl
storage_part_is (HostGroup a) (Unit u w) = refl
storage_part_is (Target a) (HostGroup b) = refl
storage_part_is (Target a) (Target b) = refl
storage_part_is (Target a) (Unit u w) = refl
storage_part_is (Unit t v) (HostGroup b) = refl
storage_part_is (Unit t v) (Target b) = refl
storage_part_is (Unit t v) (Unit u w) = refl

part_is : (a b : PartRow) → group_parts.ghosts.cmp a b ≡ part_order a b
part_is (parts.Host m x) (parts.Host n y) = refl
part_is (parts.Host m x) (parts.Storage n q) = refl
part_is (parts.Storage m p) (parts.Host n y) = refl
part_is (parts.Storage m p) (parts.Storage n q) = λ i. ordering_then (name_cmp m n) (storage_part_is p q i)

pub in_order : (a b : ConfigRow) → row_cmp a b ≡ row_order a b
in_order (Setting a) (Setting b) = setting_is a b
in_order (Setting a) (Zoning b) = refl
in_order (Setting a) (Active b) = refl
in_order (Setting a) (Group b) = refl
in_order (Setting a) (Part b) = refl
in_order (Zoning a) (Setting b) = refl
in_order (Zoning a) (Zoning b) = λ i. ordering_then (fabrics a.fabric b.fabric i) (item_is a.item b.item i)
in_order (Zoning a) (Active b) = refl
in_order (Zoning a) (Group b) = refl
in_order (Zoning a) (Part b) = refl
in_order (Active a) (Setting b) = refl
in_order (Active a) (Zoning b) = refl
in_order (Active a) (Active b) = λ i. ordering_then (fabrics a.fabric b.fabric i) (ordering_then (name_cmp a.zone b.zone) (members a.member b.member i))
in_order (Active a) (Group b) = refl
in_order (Active a) (Part b) = refl
in_order (Group a) (Setting b) = refl
in_order (Group a) (Zoning b) = refl
in_order (Group a) (Active b) = refl
in_order (Group a) (Group b) = group_is a b
in_order (Group a) (Part b) = refl
in_order (Part a) (Setting b) = refl
in_order (Part a) (Zoning b) = refl
in_order (Part a) (Active b) = refl
in_order (Part a) (Group b) = refl
in_order (Part a) (Part b) = part_is a b

-- the two are one function
pub same_order : ◌≡◌ {A = ConfigRow → ConfigRow → Ordering} row_cmp row_order
same_order = λ i a b. in_order a b i

-- ---- it tells rows apart

fabric_exact : (f g : Fabric) → fabric_order f g ≡ Equal → f ≡ g
fabric_exact f g e = names.fabric_exact f g (fabrics f g ∙ e)

number_exact : set.IsAntisymmetric nat_cmp
number_exact = set.nat_cmp-IsAntisymmetric

member_exact : (m k : Member) → member_order m k ≡ Equal → m ≡ k
member_exact m k e = names.member_exact m k (members m k ∙ e)

bool_exact : (p q : Bool) → bool_cmp p q ≡ Equal → p ≡ q
bool_exact false false e = refl
bool_exact false true e = absurd cc
bool_exact true false e = absurd cc
bool_exact true true e = refl

setting_exact : (a b : SettingRow) → setting_order a b ≡ Equal → a ≡ b
setting_exact (ActiveSet f None) (ActiveSet g None) e = ap (λ x. ActiveSet x None) (fabric_exact f g (both_equal (fabric_order f g) Equal e).0)
setting_exact (ActiveSet f None) (ActiveSet g (Some n)) e = let w = both_equal (fabric_order f g) Less e in absurd cc
setting_exact (ActiveSet f (Some m)) (ActiveSet g None) e = let w = both_equal (fabric_order f g) Greater e in absurd cc
setting_exact (ActiveSet f (Some m)) (ActiveSet g (Some n)) e =
    let w = both_equal (fabric_order f g) (name_cmp m n) e in
    λ i. ActiveSet (fabric_exact f g w.0 i) (Some (name_exact m n w.1 i))
setting_exact (ActiveSet f m) (DefaultZone g q) e = absurd cc
setting_exact (DefaultZone f p) (ActiveSet g n) e = absurd cc
setting_exact (DefaultZone f p) (DefaultZone g q) e =
    let w = both_equal (fabric_order f g) (bool_cmp p q) e in
    λ i. DefaultZone (fabric_exact f g w.0 i) (bool_exact p q w.1 i)

item_exact : (a b : ZoningItem) → item_order a b ≡ Equal → a ≡ b
item_exact (Alias m x) (Alias n y) e =
    let w = both_equal (name_cmp m n) (member_order x y) e in
    λ i. Alias (name_exact m n w.0 i) (member_exact x y w.1 i)
item_exact (Alias m x) (Zone n y) e = absurd cc
item_exact (Alias m x) (Set n z) e = absurd cc
item_exact (Zone m x) (Alias n y) e = absurd cc
item_exact (Zone m x) (Zone n y) e =
    let w = both_equal (name_cmp m n) (member_order x y) e in
    λ i. Zone (name_exact m n w.0 i) (member_exact x y w.1 i)
item_exact (Zone m x) (Set n z) e = absurd cc
item_exact (Set m x) (Alias n y) e = absurd cc
item_exact (Set m x) (Zone n y) e = absurd cc
item_exact (Set m x) (Set n z) e =
    let w = both_equal (name_cmp m n) (name_cmp x z) e in
    λ i. Set (name_exact m n w.0 i) (name_exact x z w.1 i)

zoning_exact : (a b : ZoningRow) → zoning_order a b ≡ Equal → a ≡ b
zoning_exact a b e =
    let w = both_equal (fabric_order a.fabric b.fabric) (item_order a.item b.item) e in
    λ i. record { fabric = fabric_exact a.fabric b.fabric w.0 i; item = item_exact a.item b.item w.1 i }

active_exact : (a b : ActiveRow) → active_order a b ≡ Equal → a ≡ b
active_exact a b e =
    let f = both_equal (fabric_order a.fabric b.fabric) (ordering_then (name_cmp a.zone b.zone) (member_order a.member b.member)) e in
    let w = both_equal (name_cmp a.zone b.zone) (member_order a.member b.member) f.1 in
    λ i. record { fabric = fabric_exact a.fabric b.fabric f.0 i; zone = name_exact a.zone b.zone w.0 i; member = member_exact a.member b.member w.1 i }

group_exact : (a b : GroupRow) → group_order a b ≡ Equal → a ≡ b
group_exact (group.Host a) (group.Host b) e =
    let w = both_equal (name_cmp a.name b.name) (name_cmp a.tenant b.tenant) e in
    λ i. group.Host (record { name = name_exact a.name b.name w.0 i; tenant = name_exact a.tenant b.tenant w.1 i })
group_exact (group.Host a) (group.Storage b) e = absurd cc
group_exact (group.Storage a) (group.Host b) e = absurd cc
group_exact (group.Storage a) (group.Storage b) e =
    let n = both_equal (name_cmp a.name b.name) (ordering_then (name_cmp a.tenant b.tenant) (ordering_then (name_cmp a.array b.array) (bool_cmp a.exposed b.exposed))) e in
    let t = both_equal (name_cmp a.tenant b.tenant) (ordering_then (name_cmp a.array b.array) (bool_cmp a.exposed b.exposed)) n.1 in
    let r = both_equal (name_cmp a.array b.array) (bool_cmp a.exposed b.exposed) t.1 in
    λ i. group.Storage (record {
      name = name_exact a.name b.name n.0 i;
      tenant = name_exact a.tenant b.tenant t.0 i;
      array = name_exact a.array b.array r.0 i;
      exposed = bool_exact a.exposed b.exposed r.1 i;
    })

storage_part_exact : (a b : StoragePart) → storage_part_order a b ≡ Equal → a ≡ b
storage_part_exact (HostGroup a) (HostGroup b) e = ap HostGroup (name_exact a b e)
storage_part_exact (HostGroup a) (Target b) e = absurd cc
storage_part_exact (HostGroup a) (Unit u w) e = absurd cc
storage_part_exact (Target a) (HostGroup b) e = absurd cc
storage_part_exact (Target a) (Target b) e = ap Target (number_exact a b e)
storage_part_exact (Target a) (Unit u w) e = absurd cc
storage_part_exact (Unit t v) (HostGroup b) e = absurd cc
storage_part_exact (Unit t v) (Target b) e = absurd cc
storage_part_exact (Unit t v) (Unit u w) e =
    let k = both_equal (nat_cmp t u) (name_cmp v w) e in
    λ i. Unit (number_exact t u k.0 i) (name_exact v w k.1 i)

part_exact : (a b : PartRow) → part_order a b ≡ Equal → a ≡ b
part_exact (parts.Host m x) (parts.Host n y) e =
    let w = both_equal (name_cmp m n) (name_cmp x y) e in
    λ i. parts.Host (name_exact m n w.0 i) (name_exact x y w.1 i)
part_exact (parts.Host m x) (parts.Storage n q) e = absurd cc
part_exact (parts.Storage m p) (parts.Host n y) e = absurd cc
part_exact (parts.Storage m p) (parts.Storage n q) e =
    let w = both_equal (name_cmp m n) (storage_part_order p q) e in
    λ i. parts.Storage (name_exact m n w.0 i) (storage_part_exact p q w.1 i)

exact : (a b : ConfigRow) → row_order a b ≡ Equal → a ≡ b
exact (Setting a) (Setting b) e = ap Setting (setting_exact a b e)
exact (Setting a) (Zoning b) e = absurd cc
exact (Setting a) (Active b) e = absurd cc
exact (Setting a) (Group b) e = absurd cc
exact (Setting a) (Part b) e = absurd cc
exact (Zoning a) (Setting b) e = absurd cc
exact (Zoning a) (Zoning b) e = ap Zoning (zoning_exact a b e)
exact (Zoning a) (Active b) e = absurd cc
exact (Zoning a) (Group b) e = absurd cc
exact (Zoning a) (Part b) e = absurd cc
exact (Active a) (Setting b) e = absurd cc
exact (Active a) (Zoning b) e = absurd cc
exact (Active a) (Active b) e = ap Active (active_exact a b e)
exact (Active a) (Group b) e = absurd cc
exact (Active a) (Part b) e = absurd cc
exact (Group a) (Setting b) e = absurd cc
exact (Group a) (Zoning b) e = absurd cc
exact (Group a) (Active b) e = absurd cc
exact (Group a) (Group b) e = ap Group (group_exact a b e)
exact (Group a) (Part b) e = absurd cc
exact (Part a) (Setting b) e = absurd cc
exact (Part a) (Zoning b) e = absurd cc
exact (Part a) (Active b) e = absurd cc
exact (Part a) (Group b) e = absurd cc
exact (Part a) (Part b) e = ap Part (part_exact a b e)

pub row_exact : set.IsAntisymmetric row_cmp
row_exact a b e = exact a b (sym (in_order a b) ∙ e)

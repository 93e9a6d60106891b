-- A line of a configuration's tables, of approvals or of paths shows one row at most, and a row is
-- shown by one line.
use Rattle.std.proofs.Common.{ℕ, ◌≡◌, ◌∷◌, List, [], Option, None, Some, Bool, true, false, codes, get_or, refl, sym, ap, ◌∙◌, arith, lit<}
use mathlib.Core.Bool.{true≢false}
use Rattle.fab_names.specs.Names.{SpellsName}
use Rattle.fab_names.specs.declared.fabric.Fabric.{Fabric}
use Rattle.fab_names.specs.declared.fabric.Fabric.TheVariants.{A, B}
use Rattle.fab_names.proofs.Unique as unique
use Rattle.fab_store_rows.specs.declared.config_row.SettingRow.{SettingRow}
use Rattle.fab_store_rows.specs.declared.config_row.SettingRow.TheVariants.{ActiveSet, DefaultZone}
use Rattle.fab_store_rows.specs.declared.config_row.ZoningItem.{ZoningItem}
use Rattle.fab_store_rows.specs.declared.config_row.ZoningItem.TheVariants.{Alias, Zone, Set}
use Rattle.fab_store_rows.specs.declared.config_row.ZoningRow.{ZoningRow}
use Rattle.fab_store_rows.specs.declared.config_row.ActiveRow.{ActiveRow}
use Rattle.fab_store_rows.specs.declared.config_row.GroupRow.{GroupRow}
use Rattle.fab_store_rows.specs.declared.config_row.GroupRow.TheVariants as group
use Rattle.fab_store_rows.specs.declared.config_row.StoragePart.TheVariants as part
use Rattle.fab_store_rows.specs.declared.config_row.PartRow.{PartRow}
use Rattle.fab_store_rows.specs.declared.config_row.PartRow.TheVariants as parts
use Rattle.fab_store_columns.specs.declared.meta_lines.MetaRow.{MetaRow}
use Rattle.fab_store_columns.specs.declared.meta_lines.MetaRow.TheVariants.{Schema, Revision, Setting}
use Rattle.fab_store_rows.specs.declared.record_row.ApprovalRow.{ApprovalRow}
use Rattle.fab_store_rows.specs.declared.record_row.PathRow.{PathRow}
use Rattle.fab_store_columns.specs.MetaLines.{MetaColumns, setting_key, ShowsActiveName, permit_text, ShowsSettingValue, ShowsSetting, ShowsMeta}
use Rattle.fab_store_columns.specs.ZoningLines.{ZoningColumns, ShowsItem, ShowsItemAt, ShowsZoning, ActiveColumns, ShowsActive}
use Rattle.fab_store_columns.specs.GroupLines.{GroupColumns, ShowsArray, ShowsGroup, PartColumns, ShowsPartItem, ShowsPartVolume, ShowsPart}
use Rattle.fab_store_columns.specs.RecordLines.{ApprovalColumns, ShowsApproval, PathColumns, ShowsPath}
use Rattle.fab_store_columns.proofs.Unique.{one_name, same_name, one_number, one_decimal, one_flag}

-- texts that differ in a character
pub differ : (n : ℕ) (s t : List ℕ) → s ≡ t → get_or s n 0 ≡ get_or t n 0
differ n s t e = ap (λ (x : List ℕ). get_or x n 0) e

-- ---- meta

-- the empty text is no name
no_empty_name : (text n : List ℕ) → text ≡ [] → ¬ SpellsName text n
no_empty_name [] n e s = absurd (true≢false (sym s.1.first))
no_empty_name (c ∷ cs) n e s = absurd cc

one_active_name : (text : List ℕ) (m n : Option (List ℕ)) → ShowsActiveName text m → ShowsActiveName text n → m ≡ n
one_active_name text None None h k = refl
one_active_name text None (Some n) h k = absurd (no_empty_name text n h k)
one_active_name text (Some m) None h k = absurd (no_empty_name text m k h)
one_active_name text (Some m) (Some n) h k = ap Some (one_name text m n h k)

one_permit : (p q : Bool) → permit_text p ≡ permit_text q → p ≡ q
one_permit true true e = refl
one_permit true false e = absurd (omega (arith, differ 0 (codes "permit") (codes "deny") e))
one_permit false true e = absurd (omega (arith, differ 0 (codes "deny") (codes "permit") e))
one_permit false false e = refl

active_fabric : (f g : Fabric) (m n : Option (List ℕ)) → setting_key (ActiveSet f m) ≡ setting_key (ActiveSet g n) → f ≡ g
active_fabric A A m n e = refl
active_fabric A B m n e = absurd (omega (arith, differ 7 (codes "active.A") (codes "active.B") e))
active_fabric B A m n e = absurd (omega (arith, differ 7 (codes "active.B") (codes "active.A") e))
active_fabric B B m n e = refl

default_fabric : (f g : Fabric) (p q : Bool) → setting_key (DefaultZone f p) ≡ setting_key (DefaultZone g q) → f ≡ g
default_fabric A A p q e = refl
default_fabric A B p q e = absurd (omega (arith, differ 8 (codes "default.A") (codes "default.B") e))
default_fabric B A p q e = absurd (omega (arith, differ 8 (codes "default.B") (codes "default.A") e))
default_fabric B B p q e = refl

active_first : (f : Fabric) (m : Option (List ℕ)) → get_or (setting_key (ActiveSet f m)) 0 0 ≡ 97
active_first A m = refl
active_first B m = refl

default_first : (f : Fabric) (p : Bool) → get_or (setting_key (DefaultZone f p)) 0 0 ≡ 100
default_first A p = refl
default_first B p = refl

pub one_setting : (l : MetaColumns) (p q : SettingRow) → ShowsSetting l p → ShowsSetting l q → p ≡ q
one_setting l (ActiveSet f m) (ActiveSet g n) h k =
    let fabric = active_fabric f g m n (sym h.key ∙ k.key) in
    let name = one_active_name l.value m n h.value k.value in
    λ i. ActiveSet (fabric i) (name i)
one_setting l (ActiveSet f m) (DefaultZone g q) h k = absurd (omega (arith, differ 0 _ _ (sym h.key ∙ k.key), active_first f m, default_first g q))
one_setting l (DefaultZone f p) (ActiveSet g n) h k = absurd (omega (arith, differ 0 _ _ (sym h.key ∙ k.key), active_first g n, default_first f p))
one_setting l (DefaultZone f p) (DefaultZone g q) h k =
    let fabric = default_fabric f g p q (sym h.key ∙ k.key) in
    let permit = one_permit p q (sym h.value ∙ k.value) in
    λ i. DefaultZone (fabric i) (permit i)

not_schema : (r : SettingRow) → ¬ (codes "schema" ≡ setting_key r)
not_schema (ActiveSet f m) e = absurd (omega (arith, differ 0 _ _ e, active_first f m))
not_schema (DefaultZone f p) e = absurd (omega (arith, differ 0 _ _ e, default_first f p))

not_revision : (r : SettingRow) → ¬ (codes "revision" ≡ setting_key r)
not_revision (ActiveSet f m) e = absurd (omega (arith, differ 0 _ _ e, active_first f m))
not_revision (DefaultZone f p) e = absurd (omega (arith, differ 0 _ _ e, default_first f p))

pub one_meta : (l : MetaColumns) (p q : MetaRow) → ShowsMeta l p → ShowsMeta l q → p ≡ q
one_meta l (Schema n) (Schema m) h k = ap Schema (one_decimal _ (lit< tt) l.value n m h.1 k.1)
one_meta l (Schema n) (Revision m) h k = absurd (omega (arith, differ 0 (codes "schema") (codes "revision") (sym h.0 ∙ k.0)))
one_meta l (Schema n) (Setting r) h k = absurd (not_schema r (sym h.0 ∙ k.key))
one_meta l (Revision n) (Schema m) h k = absurd (omega (arith, differ 0 (codes "schema") (codes "revision") (sym k.0 ∙ h.0)))
one_meta l (Revision n) (Revision m) h k = ap Revision (one_decimal _ (lit< tt) l.value n m h.1 k.1)
one_meta l (Revision n) (Setting r) h k = absurd (not_revision r (sym h.0 ∙ k.key))
one_meta l (Setting p) (Schema m) h k = absurd (not_schema p (sym k.0 ∙ h.key))
one_meta l (Setting p) (Revision m) h k = absurd (not_revision p (sym k.0 ∙ h.key))
one_meta l (Setting p) (Setting q) h k = ap Setting (one_setting l p q h k)

same_value : (s t : List ℕ) (r : SettingRow) → ShowsSettingValue s r → ShowsSettingValue t r → s ≡ t
same_value s t (ActiveSet f None) h k = h ∙ sym k
same_value s t (ActiveSet f (Some n)) h k = same_name s t n h k
same_value s t (DefaultZone f p) h k = h ∙ sym k

pub one_setting_line : (l m : MetaColumns) (r : SettingRow) → ShowsSetting l r → ShowsSetting m r → l ≡ m
one_setting_line l m r h k =
    let key = h.key ∙ sym k.key in
    let value = same_value l.value m.value r h.value k.value in
    λ i. record { key = key i; value = value i }

pub one_meta_line : (l m : MetaColumns) (r : MetaRow) → ShowsMeta l r → ShowsMeta m r → l ≡ m
one_meta_line l m (Schema n) h k =
    let key = h.0 ∙ sym k.0 in
    let value = h.1.digits ∙ sym k.1.digits in
    λ i. record { key = key i; value = value i }
one_meta_line l m (Revision n) h k =
    let key = h.0 ∙ sym k.0 in
    let value = h.1.digits ∙ sym k.1.digits in
    λ i. record { key = key i; value = value i }
one_meta_line l m (Setting r) h k = one_setting_line l m r h k

-- ---- zoning and active

one_item : (word owner text : List ℕ) (p q : ZoningItem) → ShowsItemAt word owner text p → ShowsItemAt word owner text q → p ≡ q
one_item word owner text (Alias m x) (Alias n y) h k =
    let name = one_name owner m n h.name k.name in
    let member = unique.one_member text x y h.item.0 k.item.0 in
    λ i. Alias (name i) (member i)
one_item word owner text (Zone m x) (Zone n y) h k =
    let name = one_name owner m n h.name k.name in
    let member = unique.one_member text x y h.item.0 k.item.0 in
    λ i. Zone (name i) (member i)
one_item word owner text (Set m x) (Set n y) h k =
    let name = one_name owner m n h.name k.name in
    let zone = one_name text x y h.item k.item in
    λ i. Set (name i) (zone i)
one_item word owner text (Alias m x) (Zone n y) h k = absurd (omega (arith, differ 0 (codes "alias") (codes "zone") (sym h.kind ∙ k.kind)))
one_item word owner text (Alias m x) (Set n y) h k = absurd (omega (arith, differ 0 (codes "alias") (codes "set") (sym h.kind ∙ k.kind)))
one_item word owner text (Zone m x) (Alias n y) h k = absurd (omega (arith, differ 0 (codes "zone") (codes "alias") (sym h.kind ∙ k.kind)))
one_item word owner text (Zone m x) (Set n y) h k = absurd (omega (arith, differ 0 (codes "zone") (codes "set") (sym h.kind ∙ k.kind)))
one_item word owner text (Set m x) (Alias n y) h k = absurd (omega (arith, differ 0 (codes "set") (codes "alias") (sym h.kind ∙ k.kind)))
one_item word owner text (Set m x) (Zone n y) h k = absurd (omega (arith, differ 0 (codes "set") (codes "zone") (sym h.kind ∙ k.kind)))

pub one_zoning : (l : ZoningColumns) (p q : ZoningRow) → ShowsZoning l p → ShowsZoning l q → p ≡ q
one_zoning l p q h k =
    let fabric = unique.one_fabric l.fabric p.fabric q.fabric h.fabric k.fabric in
    let item = one_item l.kind l.name l.item p.item q.item h.item k.item in
    λ i. record { fabric = fabric i; item = item i }

same_item : (s t : List ℕ) (r : ZoningItem) → ShowsItem s r → ShowsItem t r → s ≡ t
same_item s t (Alias n x) h k = h.1 ∙ sym k.1
same_item s t (Zone n x) h k = h.1 ∙ sym k.1
same_item s t (Set n x) h k = same_name s t x h k

pub one_zoning_line : (l m : ZoningColumns) (r : ZoningRow) → ShowsZoning l r → ShowsZoning m r → l ≡ m
one_zoning_line l m r h k =
    let fabric = h.fabric ∙ sym k.fabric in
    let kind = h.item.kind ∙ sym k.item.kind in
    let name = same_name l.name m.name _ h.item.name k.item.name in
    let item = same_item l.item m.item r.item h.item.item k.item.item in
    λ i. record { fabric = fabric i; kind = kind i; name = name i; item = item i }

pub one_active : (l : ActiveColumns) (p q : ActiveRow) → ShowsActive l p → ShowsActive l q → p ≡ q
one_active l p q h k =
    let fabric = unique.one_fabric l.fabric p.fabric q.fabric h.fabric k.fabric in
    let zone = one_name l.zone p.zone q.zone h.zone k.zone in
    let member = unique.one_member l.member p.member q.member h.member.0 k.member.0 in
    λ i. record { fabric = fabric i; zone = zone i; member = member i }

pub one_active_line : (l m : ActiveColumns) (r : ActiveRow) → ShowsActive l r → ShowsActive m r → l ≡ m
one_active_line l m r h k =
    let fabric = h.fabric ∙ sym k.fabric in
    let zone = same_name l.zone m.zone r.zone h.zone k.zone in
    let member = h.member.1 ∙ sym k.member.1 in
    λ i. record { fabric = fabric i; zone = zone i; member = member i }

-- ---- groups and their parts

pub one_group : (l : GroupColumns) (p q : GroupRow) → ShowsGroup l p → ShowsGroup l q → p ≡ q
one_group l (group.Host a) (group.Host b) h k =
    let name = one_name l.name a.name b.name h.name k.name in
    let tenant = one_name l.tenant a.tenant b.tenant h.tenant k.tenant in
    λ i. group.Host (record { name = name i; tenant = tenant i })
one_group l (group.Storage a) (group.Storage b) h k =
    let name = one_name l.name a.name b.name h.name k.name in
    let tenant = one_name l.tenant a.tenant b.tenant h.tenant k.tenant in
    let array = one_name l.array a.array b.array h.array k.array in
    let exposed = one_flag a.exposed b.exposed (sym h.exposed ∙ k.exposed) in
    λ i. group.Storage (record { name = name i; tenant = tenant i; array = array i; exposed = exposed i })
one_group l (group.Host a) (group.Storage b) h k = absurd (omega (arith, differ 0 (codes "host") (codes "storage") (sym h.kind ∙ k.kind)))
one_group l (group.Storage a) (group.Host b) h k = absurd (omega (arith, differ 0 (codes "storage") (codes "host") (sym h.kind ∙ k.kind)))

same_array : (s t : List ℕ) (r : GroupRow) → ShowsArray s r → ShowsArray t r → s ≡ t
same_array s t (group.Host a) h k = h ∙ sym k
same_array s t (group.Storage a) h k = same_name s t a.array h k

pub one_group_line : (l m : GroupColumns) (r : GroupRow) → ShowsGroup l r → ShowsGroup m r → l ≡ m
one_group_line l m r h k =
    let kind = h.kind ∙ sym k.kind in
    let name = same_name l.name m.name _ h.name k.name in
    let tenant = same_name l.tenant m.tenant _ h.tenant k.tenant in
    let array = same_array l.array m.array r h.array k.array in
    let exposed = h.exposed ∙ sym k.exposed in
    λ i. record { kind = kind i; name = name i; tenant = tenant i; array = array i; exposed = exposed i }

pub one_part : (l : PartColumns) (p q : PartRow) → ShowsPart l p → ShowsPart l q → p ≡ q
one_part l (parts.Host m x) (parts.Host n y) h k =
    let name = one_name l.name m n h.name k.name in
    let host = one_name l.item x y h.part.item k.part.item in
    λ i. parts.Host (name i) (host i)
one_part l (parts.Storage m (part.HostGroup x)) (parts.Storage n (part.HostGroup y)) h k =
    let name = one_name l.name m n h.name k.name in
    let item = one_name l.item x y h.part.item k.part.item in
    λ i. parts.Storage (name i) (part.HostGroup (item i))
one_part l (parts.Storage m (part.Target x)) (parts.Storage n (part.Target y)) h k =
    let name = one_name l.name m n h.name k.name in
    let item = unique.one_wwn l.item x y h.part.item.0 k.part.item.0 in
    λ i. parts.Storage (name i) (part.Target (item i))
one_part l (parts.Storage m (part.Unit x v)) (parts.Storage n (part.Unit y w)) h k =
    let name = one_name l.name m n h.name k.name in
    let item = one_decimal _ (lit< tt) l.item x y h.part.item k.part.item in
    let volume = one_name l.volume v w h.part.volume k.part.volume in
    λ i. parts.Storage (name i) (part.Unit (item i) (volume i))
one_part l (parts.Host m x) (parts.Storage n q) h k = absurd (omega (arith, differ 0 (codes "host") (codes "storage") (sym h.kind ∙ k.kind)))
one_part l (parts.Storage m p) (parts.Host n y) h k = absurd (omega (arith, differ 0 (codes "storage") (codes "host") (sym h.kind ∙ k.kind)))
one_part l (parts.Storage m (part.HostGroup x)) (parts.Storage n (part.Target y)) h k = absurd (omega (arith, differ 0 (codes "hostgroup") (codes "target") (sym h.part.part ∙ k.part.part)))
one_part l (parts.Storage m (part.HostGroup x)) (parts.Storage n (part.Unit y w)) h k = absurd (omega (arith, differ 0 (codes "hostgroup") (codes "unit") (sym h.part.part ∙ k.part.part)))
one_part l (parts.Storage m (part.Target x)) (parts.Storage n (part.HostGroup y)) h k = absurd (omega (arith, differ 0 (codes "target") (codes "hostgroup") (sym h.part.part ∙ k.part.part)))
one_part l (parts.Storage m (part.Target x)) (parts.Storage n (part.Unit y w)) h k = absurd (omega (arith, differ 0 (codes "target") (codes "unit") (sym h.part.part ∙ k.part.part)))
one_part l (parts.Storage m (part.Unit x v)) (parts.Storage n (part.HostGroup y)) h k = absurd (omega (arith, differ 0 (codes "unit") (codes "hostgroup") (sym h.part.part ∙ k.part.part)))
one_part l (parts.Storage m (part.Unit x v)) (parts.Storage n (part.Target y)) h k = absurd (omega (arith, differ 0 (codes "unit") (codes "target") (sym h.part.part ∙ k.part.part)))

same_part_item : (s t : List ℕ) (r : PartRow) → ShowsPartItem s r → ShowsPartItem t r → s ≡ t
same_part_item s t (parts.Host n x) h k = same_name s t x h k
same_part_item s t (parts.Storage n (part.HostGroup x)) h k = same_name s t x h k
same_part_item s t (parts.Storage n (part.Target x)) h k = h.1 ∙ sym k.1
same_part_item s t (parts.Storage n (part.Unit x v)) h k = h.digits ∙ sym k.digits

same_part_volume : (s t : List ℕ) (r : PartRow) → ShowsPartVolume s r → ShowsPartVolume t r → s ≡ t
same_part_volume s t (parts.Host n x) h k = h ∙ sym k
same_part_volume s t (parts.Storage n (part.HostGroup x)) h k = h ∙ sym k
same_part_volume s t (parts.Storage n (part.Target x)) h k = h ∙ sym k
same_part_volume s t (parts.Storage n (part.Unit x v)) h k = same_name s t v h k

pub one_part_line : (l m : PartColumns) (r : PartRow) → ShowsPart l r → ShowsPart m r → l ≡ m
one_part_line l m r h k =
    let kind = h.kind ∙ sym k.kind in
    let name = same_name l.name m.name _ h.name k.name in
    let part = h.part.part ∙ sym k.part.part in
    let item = same_part_item l.item m.item r h.part.item k.part.item in
    let volume = same_part_volume l.volume m.volume r h.part.volume k.part.volume in
    λ i. record { kind = kind i; name = name i; part = part i; item = item i; volume = volume i }

-- ---- approvals and paths

pub one_approval : (l : ApprovalColumns) (p q : ApprovalRow) → ShowsApproval l p → ShowsApproval l q → p ≡ q
one_approval l p q h k =
    let plan = one_name l.plan p.plan q.plan h.plan k.plan in
    let caller = one_name l.caller p.caller q.caller h.caller k.caller in
    let revision = one_number _ _ l.revision p.revision q.revision h.revision k.revision in
    λ i. record { plan = plan i; caller = caller i; revision = revision i }

pub one_approval_line : (l m : ApprovalColumns) (r : ApprovalRow) → ShowsApproval l r → ShowsApproval m r → l ≡ m
one_approval_line l m r h k =
    let plan = same_name l.plan m.plan r.plan h.plan k.plan in
    let caller = same_name l.caller m.caller r.caller h.caller k.caller in
    let revision = h.revision.value ∙ sym k.revision.value in
    λ i. record { plan = plan i; caller = caller i; revision = revision i }

pub one_path : (l : PathColumns) (p q : PathRow) → ShowsPath l p → ShowsPath l q → p ≡ q
one_path l p q h k =
    let host = one_name l.host p.host q.host h.host k.host in
    let fabric = unique.one_fabric l.fabric p.path.fabric q.path.fabric h.fabric k.fabric in
    let initiator = unique.one_wwn l.initiator p.path.initiator q.path.initiator h.initiator.0 k.initiator.0 in
    let target = unique.one_wwn l.target p.path.target q.path.target h.target.0 k.target.0 in
    let volume = one_name l.volume p.path.volume q.path.volume h.volume k.volume in
    let unit = one_number _ _ l.lun p.path.unit q.path.unit h.lun k.lun in
    λ i. record { host = host i; path = record { fabric = fabric i; initiator = initiator i; target = target i; volume = volume i; unit = unit i } }

pub one_path_line : (l m : PathColumns) (r : PathRow) → ShowsPath l r → ShowsPath m r → l ≡ m
one_path_line l m r h k =
    let host = same_name l.host m.host r.host h.host k.host in
    let fabric = h.fabric ∙ sym k.fabric in
    let initiator = h.initiator.1 ∙ sym k.initiator.1 in
    let target = h.target.1 ∙ sym k.target.1 in
    let volume = same_name l.volume m.volume r.path.volume h.volume k.volume in
    let lun = h.lun.value ∙ sym k.lun.value in
    λ i. record { host = host i; fabric = fabric i; initiator = initiator i; target = target i; volume = volume i; lun = lun i }

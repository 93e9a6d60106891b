-- A row of settings, of an inventory, of groups, of plans or of approvals is told by its key.
use Rattle.std.proofs.Common.{ℕ, ◌≡◌, ◌<◌, inl, inr, List, Option, Some, codes, get_or, sym, ap, ◌∙◌, subst, arith}
use Rattle.fab_store_world.proofs.PlacedNames.{one_place, placed_name}
use Rattle.fab_store_world.specs.Positions.{IsPosition, IsOrder}
use Rattle.fab_store_world.specs.Standing.{IsPlanRow, IsApprovalRow}
use Rattle.fab_store_world.specs.Tables.{IsPortRow, IsAddressRow, IsHolderRow, IsVolumeRow, IsConfigRow}
use Rattle.fab_store_columns.proofs.Unique.{one_port_line, one_address_line, one_holder_line, one_volume_line}
use Rattle.fab_store_columns.proofs.UniqueConfig.{one_meta_line, one_group_line, one_approval_line, differ}
use Rattle.fab_store_columns.proofs.UniquePlan.{one_plan_line}
use Rattle.fab_store_columns.specs.GroupLines.{GroupColumns, ShowsGroup}
use Rattle.fab_store_columns.specs.InventoryLines.{PortColumns, ShowsPort, AddressColumns, ShowsAddress, HolderColumns, ShowsHolder, VolumeColumns, ShowsVolume}
use Rattle.fab_store_columns.specs.MetaLines.{MetaColumns, ShowsMeta, setting_key}
use Rattle.fab_store_columns.specs.PlanLines.{PlanColumns, ShowsPlan}
use Rattle.fab_store_columns.specs.RecordLines.{ApprovalColumns, ShowsApproval}
use Rattle.fab_store_columns.specs.declared.meta_lines.MetaRow.{MetaRow}
use Rattle.fab_store_columns.specs.declared.meta_lines.MetaRow.TheVariants as meta
use Rattle.fab_mapping_base.specs.Groups.{HostGroupRows, StorageGroupRows}
use Rattle.fab_names.proofs.Unique.{one_wwn}
use Rattle.fab_names.specs.Names.{SpellsName}
use Rattle.fab_names.specs.WorldWideNames.{SpellsPlain}
use Rattle.fab_names.specs.declared.fabric.Fabric.TheVariants.{A, B}
use Rattle.fab_store_rows.specs.PlanEntries.{PlanEntry}
use Rattle.fab_store_rows.specs.Standing.{IsSetting, entry_at, address_at, holder_of, volume_of}
use Rattle.fab_store_rows.specs.declared.config_row.ConfigRow.TheVariants as config
use Rattle.fab_store_rows.specs.declared.config_row.GroupRow.{GroupRow}
use Rattle.fab_store_rows.specs.declared.config_row.GroupRow.TheVariants as group
use Rattle.fab_store_rows.specs.declared.config_row.SettingRow.{SettingRow}
use Rattle.fab_store_rows.specs.declared.config_row.SettingRow.TheVariants.{ActiveSet, DefaultZone}
use Rattle.fab_store_rows.specs.declared.inventory_row.AddressRow.{AddressRow}
use Rattle.fab_store_rows.specs.declared.inventory_row.HolderRow.{HolderRow}
use Rattle.fab_store_rows.specs.declared.inventory_row.PortEntry.{PortEntry}
use Rattle.fab_store_rows.specs.declared.inventory_row.VolumeRow.{VolumeRow}
use Rattle.fab_store_rows.specs.declared.record_row.ApprovalRow.{ApprovalRow}
use Rattle.fab_plans_base.specs.Plans.{plan_text}
use Rattle.fab_store_base.specs.Worlds.{IsMetaRow}
use Rattle.fab_world.specs.PlanRecords.{PlanRecord}
use Rattle.fab_world.specs.Plans.{state_of}
use Rattle.fab_world.specs.Worlds.{WorldRows}
use Rattle.std.specs.FinMap as map

-- equal texts are of equal names
pub same_names : (s t n m : List ℕ) → SpellsName s n → SpellsName t m → s ≡ t → n ≡ m
same_names s t n m h k e = h.0 ∙ e ∙ sym k.0

same_ports : (s t : List ℕ) (n m : ℕ) → SpellsPlain s n → SpellsPlain t m → s ≡ t → n ≡ m
same_ports s t n m h k e = let there = subst (λ text. SpellsPlain text m) (sym e) k in one_wwn s n m h.0 there.0

-- what a look-up gives at equal keys
pub one_value : {Q X : Type 0} (at : Q → Option X) (p q : Q) (x y : X) → p ≡ q → at p ≡ Some x → at q ≡ Some y → x ≡ y
one_value {X = X} at p q x y same h k = let both : ◌≡◌ {A = Option X} (Some x) (Some y) = sym h ∙ ap at same ∙ k in cc

-- ---- settings

low_first : (r : SettingRow) → get_or (setting_key r) 0 0 < 105
low_first (ActiveSet A n) = omega arith
low_first (ActiveSet B n) = omega arith
low_first (DefaultZone A p) = omega arith
low_first (DefaultZone B p) = omega arith

module _ (w : WorldRows) where
  same_setting : (p q : SettingRow) → setting_key p ≡ setting_key q → IsSetting w.config p → IsSetting w.config q → p ≡ q
  same_setting (ActiveSet A m) (ActiveSet A n) e h k = ap (ActiveSet A) (sym h ∙ k)
  same_setting (ActiveSet A m) (ActiveSet B n) e h k = absurd (omega (arith, differ 7 (codes "active.A") (codes "active.B") e))
  same_setting (ActiveSet B m) (ActiveSet A n) e h k = absurd (omega (arith, differ 7 (codes "active.B") (codes "active.A") e))
  same_setting (ActiveSet B m) (ActiveSet B n) e h k = ap (ActiveSet B) (sym h ∙ k)
  same_setting (ActiveSet A m) (DefaultZone A q) e h k = absurd (omega (arith, differ 0 (codes "active.A") (codes "default.A") e))
  same_setting (ActiveSet A m) (DefaultZone B q) e h k = absurd (omega (arith, differ 0 (codes "active.A") (codes "default.B") e))
  same_setting (ActiveSet B m) (DefaultZone A q) e h k = absurd (omega (arith, differ 0 (codes "active.B") (codes "default.A") e))
  same_setting (ActiveSet B m) (DefaultZone B q) e h k = absurd (omega (arith, differ 0 (codes "active.B") (codes "default.B") e))
  same_setting (DefaultZone A p) (ActiveSet A n) e h k = absurd (omega (arith, differ 0 (codes "default.A") (codes "active.A") e))
  same_setting (DefaultZone A p) (ActiveSet B n) e h k = absurd (omega (arith, differ 0 (codes "default.A") (codes "active.B") e))
  same_setting (DefaultZone B p) (ActiveSet A n) e h k = absurd (omega (arith, differ 0 (codes "default.B") (codes "active.A") e))
  same_setting (DefaultZone B p) (ActiveSet B n) e h k = absurd (omega (arith, differ 0 (codes "default.B") (codes "active.B") e))
  same_setting (DefaultZone A p) (DefaultZone A q) e h k = ap (DefaultZone A) (sym h ∙ k)
  same_setting (DefaultZone A p) (DefaultZone B q) e h k = absurd (omega (arith, differ 8 (codes "default.A") (codes "default.B") e))
  same_setting (DefaultZone B p) (DefaultZone A q) e h k = absurd (omega (arith, differ 8 (codes "default.B") (codes "default.A") e))
  same_setting (DefaultZone B p) (DefaultZone B q) e h k = ap (DefaultZone B) (sym h ∙ k)

  same_meta : (l m : MetaColumns) (x y : MetaRow) → ShowsMeta l x → ShowsMeta m y → IsMetaRow w x → IsMetaRow w y → l.key ≡ m.key → x ≡ y
  same_meta l m (meta.Schema a) (meta.Schema b) h k p q e = ap meta.Schema (p ∙ sym q)
  same_meta l m (meta.Schema a) (meta.Revision b) h k p q e = absurd (omega (arith, differ 0 (codes "schema") (codes "revision") (sym h.0 ∙ e ∙ k.0)))
  same_meta l m (meta.Schema a) (meta.Setting s) h k p q e = absurd (omega (arith, differ 0 (codes "schema") (setting_key s) (sym h.0 ∙ e ∙ k.key), low_first s))
  same_meta l m (meta.Revision a) (meta.Schema b) h k p q e = absurd (omega (arith, differ 0 (codes "revision") (codes "schema") (sym h.0 ∙ e ∙ k.0)))
  same_meta l m (meta.Revision a) (meta.Revision b) h k p q e = ap meta.Revision (p ∙ sym q)
  same_meta l m (meta.Revision a) (meta.Setting s) h k p q e = absurd (omega (arith, differ 0 (codes "revision") (setting_key s) (sym h.0 ∙ e ∙ k.key), low_first s))
  same_meta l m (meta.Setting r) (meta.Schema b) h k p q e = absurd (omega (arith, differ 0 (setting_key r) (codes "schema") (sym h.key ∙ e ∙ k.0), low_first r))
  same_meta l m (meta.Setting r) (meta.Revision b) h k p q e = absurd (omega (arith, differ 0 (setting_key r) (codes "revision") (sym h.key ∙ e ∙ k.0), low_first r))
  same_meta l m (meta.Setting r) (meta.Setting s) h k p q e = ap meta.Setting (same_setting r s (sym h.key ∙ e ∙ k.key) p q)

  pub one_meta_key : (l m : MetaColumns) (x y : MetaRow) → ShowsMeta l x → ShowsMeta m y → IsMetaRow w x → IsMetaRow w y → l.key ≡ m.key → l ≡ m
  one_meta_key l m x y h k p q e = one_meta_line l m x h (subst (ShowsMeta m) (sym (same_meta l m x y h k p q e)) k)

  -- ---- an inventory

  pub one_port_key : (l m : PortColumns) (x y : PortEntry) → ShowsPort l x → ShowsPort m y → IsPortRow w x → IsPortRow w y → l.wwpn ≡ m.wwpn → l ≡ m
  one_port_key l m x y h k p q e =
      let same : x ≡ y = one_value (entry_at w.inventory.ports) x.name y.name x y (same_ports l.wwpn m.wwpn x.name y.name h.name k.name e) p q in
      one_port_line l m x h (subst (ShowsPort m) (sym same) k)

  pub one_address_key : (l m : AddressColumns) (x y : AddressRow) → ShowsAddress l x → ShowsAddress m y → IsAddressRow w x → IsAddressRow w y → l.wwpn ≡ m.wwpn → l ≡ m
  one_address_key l m x y h k p q e =
      let port = same_ports l.wwpn m.wwpn x.port y.port h.port k.port e in
      let address : x.address ≡ y.address = one_value (address_at w.inventory.ports) x.port y.port x.address y.address port p q in
      let same : x ≡ y = λ i. record { port = port i; address = address i } in
      one_address_line l m x h (subst (ShowsAddress m) (sym same) k)

  pub one_holder_key : (l m : HolderColumns) (x y : HolderRow) → ShowsHolder l x → ShowsHolder m y → IsHolderRow w x → IsHolderRow w y → l.name ≡ m.name → l ≡ m
  one_holder_key l m x y h k p q e =
      let name = same_names l.name m.name x.name y.name h.name k.name e in
      let holder : holder_of x ≡ holder_of y = one_value (map.get w.inventory.holders) x.name y.name (holder_of x) (holder_of y) name p q in
      let same : x ≡ y = λ i. record { name = name i; kind = (holder i).kind; tenant = (holder i).tenant } in
      one_holder_line l m x h (subst (ShowsHolder m) (sym same) k)

  pub one_volume_key : (l m : VolumeColumns) (x y : VolumeRow) → ShowsVolume l x → ShowsVolume m y → IsVolumeRow w x → IsVolumeRow w y → l.name ≡ m.name → l ≡ m
  one_volume_key l m x y h k p q e =
      let name = same_names l.name m.name x.name y.name h.name k.name e in
      let volume : volume_of x ≡ volume_of y = one_value (map.get w.inventory.volumes) x.name y.name (volume_of x) (volume_of y) name p q in
      let same : x ≡ y = λ i. record { name = name i; array = (volume i).array; tenant = (volume i).tenant; bytes = (volume i).bytes } in
      one_volume_line l m x h (subst (ShowsVolume m) (sym same) k)

  -- ---- groups

  same_group : (l m : GroupColumns) (x y : GroupRow) → ShowsGroup l x → ShowsGroup m y → IsConfigRow w (config.Group x) → IsConfigRow w (config.Group y) → l.kind ≡ m.kind → l.name ≡ m.name → x ≡ y
  same_group l m (group.Host r) (group.Host s) h k p q kinds names =
      let name = same_names l.name m.name r.name s.name h.name k.name names in
      let g : p.0 ≡ q.0 = one_value (map.get w.config.mapping.host_groups) r.name s.name p.0 q.0 name p.1 q.1 in
      let tenant : r.tenant ≡ s.tenant = sym p.2.tenant ∙ ap (λ (v : HostGroupRows). v.tenant) g ∙ q.2.tenant in
      λ i. group.Host (record { name = name i; tenant = tenant i })
  same_group l m (group.Host r) (group.Storage s) h k p q kinds names = absurd (omega (arith, differ 0 (codes "host") (codes "storage") (sym h.kind ∙ kinds ∙ k.kind)))
  same_group l m (group.Storage r) (group.Host s) h k p q kinds names = absurd (omega (arith, differ 0 (codes "storage") (codes "host") (sym h.kind ∙ kinds ∙ k.kind)))
  same_group l m (group.Storage r) (group.Storage s) h k p q kinds names =
      let name = same_names l.name m.name r.name s.name h.name k.name names in
      let g : p.0 ≡ q.0 = one_value (map.get w.config.mapping.groups) r.name s.name p.0 q.0 name p.1 q.1 in
      let tenant : r.tenant ≡ s.tenant = sym p.2.tenant ∙ ap (λ (v : StorageGroupRows). v.tenant) g ∙ q.2.tenant in
      let array : r.array ≡ s.array = sym p.2.array ∙ ap (λ (v : StorageGroupRows). v.array) g ∙ q.2.array in
      let exposed : r.exposed ≡ s.exposed = sym p.2.exposed ∙ ap (λ (v : StorageGroupRows). v.exposed) g ∙ q.2.exposed in
      λ i. group.Storage (record { name = name i; tenant = tenant i; array = array i; exposed = exposed i })

  pub one_group_key : (l m : GroupColumns) (x y : GroupRow) → ShowsGroup l x → ShowsGroup m y → IsConfigRow w (config.Group x) → IsConfigRow w (config.Group y) → l.kind ≡ m.kind → l.name ≡ m.name → l ≡ m
  one_group_key l m x y h k p q kinds names = one_group_line l m x h (subst (ShowsGroup m) (sym (same_group l m x y h k p q kinds names)) k)

  -- ---- plans

  one_position : IsOrder w.order → (n : List ℕ) (j k : ℕ) → IsPosition w.order n j → IsPosition w.order n k → j ≡ k
  one_position order n j k (inl p) (inl q) = one_place w.order order n j k p q
  one_position order n j k (inl p) (inr q) = absurd (q.1 (placed_name 1 w.order n j p))
  one_position order n j k (inr p) (inl q) = absurd (p.1 (placed_name 1 w.order n k q))
  one_position order n j k (inr p) (inr q) = p.0 ∙ sym q.0

  pub one_plan_key : IsOrder w.order → (l m : PlanColumns) (x y : PlanEntry) → ShowsPlan l x → ShowsPlan m y → IsPlanRow w x → IsPlanRow w y → l.name ≡ m.name → l ≡ m
  one_plan_key order l m x y h k p q e =
      let name = same_names l.name m.name x.name y.name h.name k.name e in
      let plan : p.plan.0 ≡ q.plan.0 = one_value (map.get w.plans) x.name y.name p.plan.0 q.plan.0 name p.plan.1 q.plan.1 in
      let author : x.author ≡ y.author = sym p.plan.2.author ∙ ap (λ (v : PlanRecord). v.author) plan ∙ q.plan.2.author in
      let text : x.text ≡ y.text = p.plan.2.text.printed ∙ ap (λ (v : PlanRecord). plan_text v.steps) plan ∙ sym q.plan.2.text.printed in
      let state : x.state ≡ y.state = sym p.plan.2.state ∙ ap (λ (v : PlanRecord). state_of v.standing) plan ∙ q.plan.2.state in
      let position : x.position ≡ y.position = one_position order x.name x.position y.position p.position (subst (λ n. IsPosition w.order n y.position) (sym name) q.position) in
      let same : x ≡ y = λ i. record { name = name i; author = author i; text = text i; state = state i; position = position i } in
      one_plan_line l m x h (subst (ShowsPlan m) (sym same) k)

  pub one_approval_key : (l m : ApprovalColumns) (x y : ApprovalRow) → ShowsApproval l x → ShowsApproval m y → IsApprovalRow w x → IsApprovalRow w y → l.plan ≡ m.plan → l.caller ≡ m.caller → l ≡ m
  one_approval_key l m x y h k p q plans callers =
      let plan = same_names l.plan m.plan x.plan y.plan h.plan k.plan plans in
      let caller = same_names l.caller m.caller x.caller y.caller h.caller k.caller callers in
      let record_of : p.0 ≡ q.0 = one_value (map.get w.plans) x.plan y.plan p.0 q.0 plan p.1 q.1 in
      let revision : x.revision ≡ y.revision = one_value (map.get p.0.approvals) x.caller y.caller x.revision y.revision caller p.2 (subst (λ (v : PlanRecord). map.get v.approvals y.caller ≡ Some y.revision) (sym record_of) q.2) in
      let same : x ≡ y = λ i. record { plan = plan i; caller = caller i; revision = revision i } in
      one_approval_line l m x h (subst (ShowsApproval m) (sym same) k)

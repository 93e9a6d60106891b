-- Whether a row of a table stands in a world.
use Rattle.std.proofs.Common.{ℕ, ◌≡◌, inl, inr, List, Contains, Option, None, Some, Bool, true, false, refl, subst}
use Rattle.std.specs.Coded.{Coded, code_by, coded×, coded_ℕ, coded_bool, coded_option, coded_list}
use Rattle.std.specs.FinMap as map
use Rattle.std.specs.FinSet as set
use Rattle.std.proofs.lemmas.List.Elements.{All-contains}
use Rattle.fab_names.specs.Codes.{name_code}
use Rattle.fab_inventory.specs.Codes.{known_code, holder_code, volume_code}
use Rattle.fab_inventory.specs.declared.port.Known.{Known}
use Rattle.fab_lemmas.specs.Firsts.{HasAt}
use Rattle.fab_lemmas.specs.MapsOfSets.{has}
use Rattle.fab_mapping_base.specs.Groups.{HostGroupRows, StorageGroupRows}
use Rattle.fab_mapping.specs.Mappings.{MappingRows}
use Rattle.fab_reach_base.specs.Records.{ConfigRows, zoning_at}
use Rattle.fab_reach_base.proofs.Reached.{path_of_told}
use Rattle.fab_reach_base.proofs.Telling.{Told, both, all_three, either, negated, as_told, same_by, in_list, at_key}
use Rattle.fab_store_rows.specs.PlanEntries.{PlanEntry}
use Rattle.fab_store_rows.specs.Standing.{IsSetting, HasItem, IsHostHead, IsStorageHead, IsGroup, HasPart, IsPart, entry_at, address_at, holder_of, volume_of}
use Rattle.fab_store_rows.specs.declared.config_row.ConfigRow.{ConfigRow}
use Rattle.fab_store_rows.specs.declared.config_row.ConfigRow.TheVariants as config
use Rattle.fab_store_rows.specs.declared.config_row.GroupRow.{GroupRow}
use Rattle.fab_store_rows.specs.declared.config_row.GroupRow.TheVariants as group
use Rattle.fab_store_rows.specs.declared.config_row.PartRow.{PartRow}
use Rattle.fab_store_rows.specs.declared.config_row.PartRow.TheVariants as parts
use Rattle.fab_store_rows.specs.declared.config_row.SettingRow.{SettingRow}
use Rattle.fab_store_rows.specs.declared.config_row.SettingRow.TheVariants.{ActiveSet, DefaultZone}
use Rattle.fab_store_rows.specs.declared.config_row.StoragePart.{StoragePart}
use Rattle.fab_store_rows.specs.declared.config_row.StoragePart.TheVariants as part
use Rattle.fab_store_rows.specs.declared.config_row.ZoningItem.{ZoningItem}
use Rattle.fab_store_rows.specs.declared.config_row.ZoningItem.TheVariants.{Alias, Zone, Set}
use Rattle.fab_store_rows.specs.declared.inventory_row.AddressRow.{AddressRow}
use Rattle.fab_store_rows.specs.declared.inventory_row.HolderRow.{HolderRow}
use Rattle.fab_store_rows.specs.declared.inventory_row.PortEntry.{PortEntry}
use Rattle.fab_store_rows.specs.declared.inventory_row.VolumeRow.{VolumeRow}
use Rattle.fab_store_rows.specs.declared.record_row.ApprovalRow.{ApprovalRow}
use Rattle.fab_store_rows.specs.declared.record_row.PathRow.{PathRow}
use Rattle.fab_store_rows.specs.declared.record_row.PlanState.{PlanState}
use Rattle.fab_store_rows.specs.declared.record_row.PlanState.TheVariants.{Staged, Active, RolledBack, Withdrawn}
use Rattle.fab_store_rows.specs.declared.record_row.Sign.{Sign}
use Rattle.fab_store_rows.specs.declared.record_row.Sign.TheVariants.{Taken, Added}
use Rattle.fab_store_rows.specs.declared.record_row.UndoRow.{UndoRow}
use Rattle.fab_store_rows.specs.declared.table_rows.TheConstants.{SCHEMA}
use Rattle.fab_zoning.specs.Zonings.{FabricZoning, permits}
use Rattle.fab_store_columns.specs.declared.meta_lines.MetaRow.{MetaRow}
use Rattle.fab_store_columns.specs.declared.meta_lines.MetaRow.TheVariants as meta
use Rattle.fab_plans_base.proofs.Unique.{one_plan}
use Rattle.fab_plans_base.specs.Plans.{Spells, plan_text}
use Rattle.fab_plans_base.specs.Steps.{PlanStep}
use Rattle.fab_plans_base.specs.Texts.{lines_of}
use Rattle.fab_store_world.specs.Orders.{numbered}
use Rattle.fab_plans_text.specs.KeptTexts.{IsTextOf}
use Rattle.fab_store_world.specs.PlanRows.{IsRowOf, IsApprovalOf, IsChanged}
use Rattle.fab_store_world.specs.Positions.{IsPosition}
use Rattle.fab_store_world.specs.Standing.{IsPlanRow, IsApprovalRow, IsUndoRow}
use Rattle.fab_store_world.specs.Tables.{IsPortRow, IsAddressRow, IsHolderRow, IsVolumeRow, IsConfigRow, IsRowOfPath}
use Rattle.fab_store_base.specs.Worlds.{IsMetaRow}
use Rattle.fab_plans_text.specs.Codes.{step_code}
use Rattle.fab_world.specs.Codes.{row_code}
use Rattle.fab_world.specs.PlanRecords.{Standing, staged, active, rolled_back, withdrawn, PlanRecord}
use Rattle.fab_world.specs.Plans.{state_of}
use Rattle.fab_world.specs.Worlds.{WorldRows, records_of}

-- what there is at a key has it
at_told : {Q X : Type 0} (at : Q → Option X) (P : X → Type 0) → ((x : X) → Told (P x)) → (q : Q) → Told (HasAt at P q)
at_told at P each q = at_key (at q) P each

-- a value is among those of a list
among_told : {X : Type 0} → Coded X → (xs : List X) (x : X) → Told (Contains xs x)
among_told code xs x =
    elim (in_list (λ y. y ≡ x) (λ y. same_by code y x) xs) [
      | inl w ↦ inl (subst (Contains xs) w.2 w.1)
      | inr none ↦ inr (λ there. All-contains (λ y. ¬ (y ≡ x)) xs x none there refl)
    ]

-- ---- the inventory

entry_code : Coded PortEntry
entry_code = code_by (ℕ × Known) (coded× coded_ℕ known_code) (λ p. (p.name, record { node = p.node; at = p.at; address = None; holder = p.holder })) (λ e. record { name = e.0; node = e.1.node; at = e.1.at; holder = e.1.holder }) (λ _. refl)

pub port_told : (w : WorldRows) (r : PortEntry) → Told (IsPortRow w r)
port_told w r = same_by (coded_option entry_code) (entry_at w.inventory.ports r.name) (Some r)

pub address_told : (w : WorldRows) (r : AddressRow) → Told (IsAddressRow w r)
address_told w r = same_by (coded_option coded_ℕ) (address_at w.inventory.ports r.port) (Some r.address)

pub holder_told : (w : WorldRows) (r : HolderRow) → Told (IsHolderRow w r)
holder_told w r = same_by (coded_option holder_code) (map.get w.inventory.holders r.name) (Some (holder_of r))

pub volume_told : (w : WorldRows) (r : VolumeRow) → Told (IsVolumeRow w r)
volume_told w r = same_by (coded_option volume_code) (map.get w.inventory.volumes r.name) (Some (volume_of r))

-- ---- the configuration

setting_told : (c : ConfigRows) (r : SettingRow) → Told (IsSetting c r)
setting_told c (ActiveSet fabric name) = same_by (coded_option name_code) (zoning_at c fabric).active name
setting_told c (DefaultZone fabric permit) = same_by coded_bool (permits (zoning_at c fabric).flag) permit

item_told : (v : FabricZoning) (r : ZoningItem) → Told (HasItem v r)
item_told v (Alias name m) = same_by coded_bool (has v.aliases name m) true
item_told v (Zone name m) = same_by coded_bool (has v.zones name m) true
item_told v (Set name zone) = same_by coded_bool (has v.sets name zone) true

group_told : (m : MappingRows) (r : GroupRow) → Told (IsGroup m r)
group_told m (group.Host r) = at_told (map.get m.host_groups) (IsHostHead r) (λ g. as_told (λ e. record { tenant = e }) (λ h. h.tenant) (same_by name_code g.tenant r.tenant)) r.name
group_told m (group.Storage r) = at_told (map.get m.groups) (IsStorageHead r) by r.name
  where
    by : (g : StorageGroupRows) → Told (IsStorageHead r g)
    by g =
        as_told (λ e. record { tenant = e.0; array = e.1; exposed = e.2 }) (λ h. (h.tenant, h.array, h.exposed))
        (all_three (same_by name_code g.tenant r.tenant) (same_by name_code g.array r.array) (same_by coded_bool g.exposed r.exposed))

storage_part_told : (p : StoragePart) (g : StorageGroupRows) → Told (HasPart p g)
storage_part_told (part.HostGroup hosts) g = same_by coded_bool (set.contains g.host_groups hosts) true
storage_part_told (part.Target target) g = same_by coded_bool (set.contains g.targets target) true
storage_part_told (part.Unit unit volume) g = same_by (coded_option name_code) (map.get g.units unit) (Some volume)

part_told : (m : MappingRows) (r : PartRow) → Told (IsPart m r)
part_told m (parts.Host name host) = at_told (map.get m.host_groups) (λ (g : HostGroupRows). set.contains g.hosts host ≡ true) (λ g. same_by coded_bool (set.contains g.hosts host) true) name
part_told m (parts.Storage name p) = at_told (map.get m.groups) (HasPart p) (storage_part_told p) name

pub config_told : (w : WorldRows) (r : ConfigRow) → Told (IsConfigRow w r)
config_told w (config.Setting r) = setting_told w.config r
config_told w (config.Zoning r) = item_told (zoning_at w.config r.fabric) r.item
config_told w (config.Active r) = same_by coded_bool (set.contains (zoning_at w.config r.fabric).rows (r.zone, r.member)) true
config_told w (config.Group r) = group_told w.config.mapping r
config_told w (config.Part r) = part_told w.config.mapping r

pub meta_told : (w : WorldRows) (r : MetaRow) → Told (IsMetaRow w r)
meta_told w (meta.Schema n) = same_by coded_ℕ n SCHEMA
meta_told w (meta.Revision n) = same_by coded_ℕ n w.revision
meta_told w (meta.Setting r) = setting_told w.config r

-- ---- plans

-- whether it was taken back, by its author or by a rollback, and whether it was activated
state_bits : PlanState → Bool × Bool
state_bits Staged = (false, false)
state_bits Withdrawn = (true, false)
state_bits Active = (false, true)
state_bits RolledBack = (true, true)

-- and back
state_by : Bool × Bool → PlanState
state_by (false, false) = Staged
state_by (true, false) = Withdrawn
state_by (false, true) = Active
state_by (true, true) = RolledBack

state_back : (s : PlanState) → state_by (state_bits s) ≡ s
unfolding state_bits state_by
state_back Staged = refl
state_back Withdrawn = refl
state_back Active = refl
state_back RolledBack = refl

state_code : Coded PlanState
state_code = code_by (Bool × Bool) (coded× coded_bool coded_bool) state_bits state_by state_back

-- of a text that spells steps
text_told : (text : List ℕ) (known steps : List PlanStep) → Spells text known → Told (IsTextOf text steps)
text_told text known steps spells =
    elim (same_by (coded_list step_code) known steps) [
      | inl same ↦ as_told (λ e. record { spells = subst (Spells text) same spells; printed = e }) (λ h. h.printed) (same_by name_code text (plan_text steps))
      | inr other ↦ inr (λ h. other (one_plan (lines_of text) known steps spells.lines h.spells.lines))
    ]

position_told : (order : List (List ℕ)) (name : List ℕ) (k : ℕ) → Told (IsPosition order name k)
position_told order name k = either (among_told (coded× coded_ℕ name_code) (numbered 1 order) (k, name)) (both (same_by coded_ℕ k 0) (negated (among_told name_code order name)))

-- a row whose text spells steps
pub plan_told : (w v : WorldRows) (r : PlanEntry) → IsPlanRow w r → Told (IsPlanRow v r)
plan_told w v r h =
    as_told (λ e. record { plan = e.0; position = e.1 }) (λ k. (k.plan, k.position))
    (both (at_told (map.get v.plans) (IsRowOf r) by r.name) (position_told v.order r.name r.position))
  where
    by : (p : PlanRecord) → Told (IsRowOf r p)
    by p =
        as_told (λ e. record { author = e.0; text = e.1; state = e.2 }) (λ k. (k.author, k.text, k.state))
        (all_three (same_by name_code p.author r.author) (text_told r.text h.plan.0.steps p.steps h.plan.2.text.spells) (same_by state_code (state_of p.standing) r.state))

pub approval_told : (w : WorldRows) (r : ApprovalRow) → Told (IsApprovalRow w r)
approval_told w r = at_told (map.get w.plans) (IsApprovalOf r) (λ p. same_by (coded_option coded_ℕ) (map.get p.approvals r.caller) (Some r.revision)) r.plan

changed_told : (s : Standing) (sign : Sign) (row : ConfigRow) → Told (IsChanged s sign row)
changed_told (active taken added) Taken row = among_told row_code taken row
changed_told (active taken added) Added row = among_told row_code added row
changed_told staged sign row = inr (λ h. h)
changed_told rolled_back sign row = inr (λ h. h)
changed_told withdrawn sign row = inr (λ h. h)

pub undo_told : (w : WorldRows) (r : UndoRow) → Told (IsUndoRow w r)
undo_told w r = at_told (map.get w.plans) (λ (p : PlanRecord). IsChanged p.standing r.sign r.row) (λ p. changed_told p.standing r.sign r.row) r.plan

-- ---- paths

pub path_told : (w : WorldRows) (r : PathRow) → Told (IsRowOfPath w r)
path_told w r = path_of_told (records_of w) r.host r.path

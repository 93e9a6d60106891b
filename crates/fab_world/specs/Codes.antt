-- How plans are stored in finite maps.
use Rattle.std.specs.Prelude.{ℕ, ◌≡◌, ◌⊎◌, List, Option, None, Some, Bool, true, false, refl}
use Rattle.std.specs.Coded.{Coded, code_by, coded×, coded⊎, coded_ℕ, coded_bool, coded_list, coded_option}
use Rattle.std.specs.FinMap as map
use mathlib.Core.Logic.{inl, inr}
use Rattle.fab_reach_base.specs.fab_names.Codes.{name_code, fabric_code, member_code}
use Rattle.fab_reach_base.specs.fab_names.Orders.{name_cmp}
use Rattle.fab_reach_base.specs.fab_names.declared.fabric.Fabric.{Fabric}
use Rattle.fab_reach_base.specs.fab_names.declared.member.Member.{Member}
use Rattle.fab_plans.specs.fab_plans_base.Steps.{PlanStep}
use Rattle.fab_plans.specs.fab_plans_text.Codes.{step_code}
use Rattle.fab_store_load.specs.fab_store_rows.declared.config_row.SettingRow.TheVariants.{ActiveSet, DefaultZone}
use Rattle.fab_store_load.specs.fab_store_rows.declared.config_row.ZoningItem.{ZoningItem}
use Rattle.fab_store_load.specs.fab_store_rows.declared.config_row.ZoningItem.TheVariants.{Alias, Zone, Set}
use Rattle.fab_store_load.specs.fab_store_rows.declared.config_row.GroupRow.TheVariants as group
use Rattle.fab_store_load.specs.fab_store_rows.declared.config_row.StoragePart.TheVariants as part
use Rattle.fab_store_load.specs.fab_store_rows.declared.config_row.PartRow.TheVariants as parts
use Rattle.fab_store_load.specs.fab_store_rows.declared.config_row.ConfigRow.{ConfigRow}
use Rattle.fab_store_load.specs.fab_store_rows.declared.config_row.ConfigRow.TheVariants as config
use Rattle.fab_world.specs.PlanRecords.{Standing, staged, active, rolled_back, withdrawn, PlanRecord}

abbrev pub Name : Type 0
Name = List ℕ

-- ---- rows

-- a row of a fabric: a setting, an item, or a member of an active zone
abbrev pub FabricParts : Type 0
FabricParts = Fabric × ((Option Name ⊎ Bool) ⊎ (((Bool × (Name × Member)) ⊎ (Name × Name)) ⊎ (Name × Member)))

-- a row of a group: its head, or a part of it
abbrev pub GroupParts : Type 0
GroupParts = ((Name × Name) ⊎ (Name × (Name × (Name × Bool)))) ⊎ ((Name × Name) ⊎ (Name × ((Name ⊎ ℕ) ⊎ (ℕ × Name))))

abbrev pub RowParts : Type 0
RowParts = FabricParts ⊎ GroupParts

abbrev pub item_parts : ZoningItem → (Bool × (Name × Member)) ⊎ (Name × Name)
item_parts (Alias n m) = inl (false, (n, m))
item_parts (Zone n m) = inl (true, (n, m))
item_parts (Set n z) = inr (n, z)

-- and back
abbrev pub item_from : (Bool × (Name × Member)) ⊎ (Name × Name) → ZoningItem
item_from (inl (false, (n, m))) = Alias n m
item_from (inl (true, (n, m))) = Zone n m
item_from (inr (n, z)) = Set n z

pub item_from-parts : (i : ZoningItem) → item_from (item_parts i) ≡ i
item_from-parts (Alias n m) = refl
item_from-parts (Zone n m) = refl
item_from-parts (Set n z) = refl

abbrev pub row_parts : ConfigRow → RowParts
row_parts (config.Setting (ActiveSet f n)) = inl (f, inl (inl n))
row_parts (config.Setting (DefaultZone f p)) = inl (f, inl (inr p))
row_parts (config.Zoning r) = inl (r.fabric, inr (inl (item_parts r.item)))
row_parts (config.Active r) = inl (r.fabric, inr (inr (r.zone, r.member)))
row_parts (config.Group (group.Host r)) = inr (inl (inl (r.name, r.tenant)))
row_parts (config.Group (group.Storage r)) = inr (inl (inr (r.name, (r.tenant, (r.array, r.exposed)))))
row_parts (config.Part (parts.Host n h)) = inr (inr (inl (n, h)))
row_parts (config.Part (parts.Storage n (part.HostGroup k))) = inr (inr (inr (n, inl (inl k))))
row_parts (config.Part (parts.Storage n (part.Target w))) = inr (inr (inr (n, inl (inr w))))
row_parts (config.Part (parts.Storage n (part.Unit u v))) = inr (inr (inr (n, inr (u, v))))

-- and back
abbrev pub row_from : RowParts → ConfigRow
row_from (inl (f, inl (inl n))) = config.Setting (ActiveSet f n)
row_from (inl (f, inl (inr p))) = config.Setting (DefaultZone f p)
row_from (inl (f, inr (inl i))) = config.Zoning (record { fabric = f; item = item_from i })
row_from (inl (f, inr (inr (z, m)))) = config.Active (record { fabric = f; zone = z; member = m })
row_from (inr (inl (inl (n, t)))) = config.Group (group.Host (record { name = n; tenant = t }))
row_from (inr (inl (inr (n, (t, (r, e)))))) = config.Group (group.Storage (record { name = n; tenant = t; array = r; exposed = e }))
row_from (inr (inr (inl (n, h)))) = config.Part (parts.Host n h)
row_from (inr (inr (inr (n, inl (inl k))))) = config.Part (parts.Storage n (part.HostGroup k))
row_from (inr (inr (inr (n, inl (inr w))))) = config.Part (parts.Storage n (part.Target w))
row_from (inr (inr (inr (n, inr (u, v))))) = config.Part (parts.Storage n (part.Unit u v))

pub row_from-parts : (r : ConfigRow) → row_from (row_parts r) ≡ r
row_from-parts (config.Setting (ActiveSet f n)) = refl
row_from-parts (config.Setting (DefaultZone f p)) = refl
row_from-parts (config.Zoning r) = λ i. config.Zoning (record { fabric = r.fabric; item = item_from-parts r.item i })
row_from-parts (config.Active r) = refl
row_from-parts (config.Group (group.Host r)) = refl
row_from-parts (config.Group (group.Storage r)) = refl
row_from-parts (config.Part (parts.Host n h)) = refl
row_from-parts (config.Part (parts.Storage n (part.HostGroup k))) = refl
row_from-parts (config.Part (parts.Storage n (part.Target w))) = refl
row_from-parts (config.Part (parts.Storage n (part.Unit u v))) = refl

abbrev pub fabric_parts_code : Coded FabricParts
fabric_parts_code =
    coded× fabric_code (coded⊎ (coded⊎ (coded_option name_code) coded_bool) (coded⊎ (coded⊎ (coded× coded_bool (coded× name_code member_code)) (coded× name_code name_code)) (coded× name_code member_code)))

abbrev pub group_parts_code : Coded GroupParts
group_parts_code =
    coded⊎ (coded⊎ (coded× name_code name_code) (coded× name_code (coded× name_code (coded× name_code coded_bool))))
    (coded⊎ (coded× name_code name_code) (coded× name_code (coded⊎ (coded⊎ name_code coded_ℕ) (coded× coded_ℕ name_code))))

abbrev pub row_code : Coded ConfigRow
row_code = code_by RowParts (coded⊎ fabric_parts_code group_parts_code) row_parts row_from row_from-parts

-- ---- plans

-- whether it was rolled back, for one that is staged or was; else what an active one changed, or
-- nothing for one that was withdrawn
abbrev pub StandingParts : Type 0
StandingParts = Bool ⊎ Option (List ConfigRow × List ConfigRow)

abbrev pub standing_parts : Standing → StandingParts
standing_parts staged = inl false
standing_parts (active taken added) = inr (Some (taken, added))
standing_parts rolled_back = inl true
standing_parts withdrawn = inr None

-- and back
abbrev pub standing_from : StandingParts → Standing
standing_from (inl false) = staged
standing_from (inr (Some (taken, added))) = active taken added
standing_from (inl true) = rolled_back
standing_from (inr None) = withdrawn

pub standing_from-parts : (s : Standing) → standing_from (standing_parts s) ≡ s
standing_from-parts staged = refl
standing_from-parts (active taken added) = refl
standing_from-parts rolled_back = refl
standing_from-parts withdrawn = refl

abbrev pub standing_code : Coded Standing
standing_code = code_by StandingParts (coded⊎ coded_bool (coded_option (coded× (coded_list row_code) (coded_list row_code)))) standing_parts standing_from standing_from-parts

abbrev pub PlanParts : Type 0
PlanParts = (Name × List PlanStep) × (map.FinMap name_cmp ℕ × Standing)

abbrev pub plan_code : Coded PlanRecord
plan_code =
    code_by PlanParts (coded× (coded× name_code (coded_list step_code)) (coded× (map.code name_code coded_ℕ) standing_code)) (λ p. ((p.author, p.steps), (p.approvals, p.standing)))
    (λ p. record { author = p.0.0; steps = p.0.1; approvals = p.1.0; standing = p.1.1 })
    (λ _. refl)

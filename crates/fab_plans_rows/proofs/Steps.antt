-- A step changes rows at its key alone.
use Rattle.std.proofs.Common.{ℕ, ◌≡◌, ◌↔◌, List, [], ◌∷◌, Option, None, Some, refl, sym, ap, subst}
use Rattle.std.specs.FinMap as map
use Rattle.std.specs.FinSet as set
use Rattle.fab_names.specs.declared.fabric.Fabric.{Fabric}
use Rattle.fab_names.specs.Orders.{name_cmp, member_cmp}
use Rattle.fab_names.proofs.OrderLaws.{name_total, name_exact}
use Rattle.fab_inventory.specs.Inventories.{InventoryRows}
use Rattle.fab_lemmas.specs.MapsOfSets.{in_set}
use Rattle.fab_zoning_rows.specs.Rows.{Rows}
use Rattle.fab_zoning.specs.Zonings.{FabricZoning, NamedSets}
use Rattle.fab_zoning.specs.declared.flag.DefaultFlag.{DefaultFlag}
use Rattle.fab_mapping_base.specs.Groups.{HostGroupRows, StorageGroupRows}
use Rattle.fab_mapping.specs.Mappings.{MappingRows, ChangesGroup}
use Rattle.fab_reach_base.specs.Records.{ConfigRows, zoning_at}
use Rattle.fab_store_rows.specs.Standing.{Stands}
use Rattle.fab_store_rows.specs.declared.config_row.ConfigRow.{ConfigRow}
use Rattle.fab_plans_base.specs.Steps.{PlanStep, alias_put, alias_drop, zone_put, zone_drop, set_put, set_drop, activate, deactivate, default_zone, host_group_put, host_group_drop, group_new, group_drop, group_host, group_unhost, group_target, group_untarget, group_map, group_unmap, group_expose, group_hide}
use Rattle.fab_plans.specs.Steps.{StepDone, with_zoning, with_mapping}
use Rattle.fab_plans.specs.Outcomes.{AllDone}
use Rattle.fab_store_rows.specs.declared.row_key.RowKey.{RowKey}
use Rattle.fab_store_rows.specs.declared.row_key.RowKey.TheVariants as key
use Rattle.fab_store_rows.specs.Keys.{key_of}
use Rattle.fab_plans_rows.specs.Keys.{step_key}
use Rattle.fab_plans_rows.proofs.Elsewhere.{AgreeBut, ZoningsAgreeBut, MappingsAgreeBut, zoning_agrees, mapping_agrees, inserted, removed}

-- ---- one part changed

module _ (f : Fabric) (v z : FabricZoning) where
  at_aliases : (n : List ℕ) (m : NamedSets member_cmp) → ((q : List ℕ) → ¬ (q ≡ n) → map.get v.aliases q ≡ map.get m q) → z ≡ record v { aliases = m } → ZoningsAgreeBut (key.Alias f n) f v z
  at_aliases n m e is = subst (ZoningsAgreeBut (key.Alias f n) f v) (sym is) (record { aliases = λ q x other. ap (λ a. in_set a x) (e q (λ same. other (ap (key.Alias f) same))); zones = λ _ _ _. refl; sets = λ _ _ _. refl; rows = λ _. refl; active = λ _. refl; flag = λ _. refl })

  at_zones : (n : List ℕ) (m : NamedSets member_cmp) → ((q : List ℕ) → ¬ (q ≡ n) → map.get v.zones q ≡ map.get m q) → z ≡ record v { zones = m } → ZoningsAgreeBut (key.Zone f n) f v z
  at_zones n m e is = subst (ZoningsAgreeBut (key.Zone f n) f v) (sym is) (record { aliases = λ _ _ _. refl; zones = λ q x other. ap (λ a. in_set a x) (e q (λ same. other (ap (key.Zone f) same))); sets = λ _ _ _. refl; rows = λ _. refl; active = λ _. refl; flag = λ _. refl })

  at_sets : (n : List ℕ) (m : NamedSets name_cmp) → ((q : List ℕ) → ¬ (q ≡ n) → map.get v.sets q ≡ map.get m q) → z ≡ record v { sets = m } → ZoningsAgreeBut (key.ZoneSet f n) f v z
  at_sets n m e is = subst (ZoningsAgreeBut (key.ZoneSet f n) f v) (sym is) (record { aliases = λ _ _ _. refl; zones = λ _ _ _. refl; sets = λ q x other. ap (λ a. in_set a x) (e q (λ same. other (ap (key.ZoneSet f) same))); rows = λ _. refl; active = λ _. refl; flag = λ _. refl })

  at_rows : (n : Option (List ℕ)) (rows : Rows) → z ≡ record v { active = n; rows = rows } → ZoningsAgreeBut (key.ActiveSet f) f v z
  at_rows n rows is = subst (ZoningsAgreeBut (key.ActiveSet f) f v) (sym is) (record { aliases = λ _ _ _. refl; zones = λ _ _ _. refl; sets = λ _ _ _. refl; rows = λ other. absurd (other refl); active = λ other. absurd (other refl); flag = λ _. refl })

  at_flag : (d : DefaultFlag) → z ≡ record v { flag = d } → ZoningsAgreeBut (key.DefaultZone f) f v z
  at_flag d is = subst (ZoningsAgreeBut (key.DefaultZone f) f v) (sym is) (record { aliases = λ _ _ _. refl; zones = λ _ _ _. refl; sets = λ _ _ _. refl; rows = λ _. refl; active = λ _. refl; flag = λ other. absurd (other refl) })

module _ (m n : MappingRows) (q : List ℕ) where
  at_host_groups : (h : map.FinMap name_cmp HostGroupRows) → ((p : List ℕ) → ¬ (p ≡ q) → map.get m.host_groups p ≡ map.get h p) → n ≡ record m { host_groups = h } → MappingsAgreeBut (key.HostGroup q) m n
  at_host_groups h e is = subst (MappingsAgreeBut (key.HostGroup q) m) (sym is) (record { hosts = λ p other. e p (λ same. other (ap key.HostGroup same)); groups = λ _ _. refl })

  at_groups : (g : map.FinMap name_cmp StorageGroupRows) → ((p : List ℕ) → ¬ (p ≡ q) → map.get m.groups p ≡ map.get g p) → n ≡ record m { groups = g } → MappingsAgreeBut (key.StorageGroup q) m n
  at_groups g e is = subst (MappingsAgreeBut (key.StorageGroup q) m) (sym is) (record { hosts = λ _ _. refl; groups = λ p other. e p (λ same. other (ap key.StorageGroup same)) })

  changed : (change : StorageGroupRows → StorageGroupRows) → ChangesGroup q change m n → MappingsAgreeBut (key.StorageGroup q) m n
  changed change c = at_groups (map.insert m.groups q (change c.group)) (inserted name_total name_exact m.groups q (change c.group)) c.after

-- ---- one step

module _ (c d : ConfigRows) where
  in_zoning : (k : RowKey) (f : Fabric) (z : FabricZoning) → d ≡ with_zoning f z c → ZoningsAgreeBut k f (zoning_at c f) z → AgreeBut k c d
  in_zoning k f z is e = subst (AgreeBut k c) (sym is) (zoning_agrees k c f z e)

  in_mapping : (k : RowKey) (m : MappingRows) → d ≡ with_mapping m c → MappingsAgreeBut k c.mapping m → AgreeBut k c d
  in_mapping k m is e = subst (AgreeBut k c) (sym is) (mapping_agrees k c m e)

  pub one_key : (v : InventoryRows) (step : PlanStep) → StepDone v step c d → AgreeBut (step_key step) c d
  one_key v (alias_put f n ms) x = in_zoning (key.Alias f n) f x.0 x.2 (at_aliases f (zoning_at c f) x.0 n (map.insert (zoning_at c f).aliases n (set.from_list ms)) (inserted name_total name_exact (zoning_at c f).aliases n (set.from_list ms)) x.1.makes)
  one_key v (alias_drop f n) x = in_zoning (key.Alias f n) f x.0 x.2 (at_aliases f (zoning_at c f) x.0 n (map.remove (zoning_at c f).aliases n) (removed name_total name_exact (zoning_at c f).aliases n) x.1.makes)
  one_key v (zone_put f n ms) x = in_zoning (key.Zone f n) f x.0 x.2 (at_zones f (zoning_at c f) x.0 n (map.insert (zoning_at c f).zones n (set.from_list ms)) (inserted name_total name_exact (zoning_at c f).zones n (set.from_list ms)) x.1.makes)
  one_key v (zone_drop f n) x = in_zoning (key.Zone f n) f x.0 x.2 (at_zones f (zoning_at c f) x.0 n (map.remove (zoning_at c f).zones n) (removed name_total name_exact (zoning_at c f).zones n) x.1.makes)
  one_key v (set_put f n zs) x = in_zoning (key.ZoneSet f n) f x.0 x.2 (at_sets f (zoning_at c f) x.0 n (map.insert (zoning_at c f).sets n (set.from_list zs)) (inserted name_total name_exact (zoning_at c f).sets n (set.from_list zs)) x.1.makes)
  one_key v (set_drop f n) x = in_zoning (key.ZoneSet f n) f x.0 x.2 (at_sets f (zoning_at c f) x.0 n (map.remove (zoning_at c f).sets n) (removed name_total name_exact (zoning_at c f).sets n) x.1.makes)
  one_key v (activate f s) x = in_zoning (key.ActiveSet f) f x.0 x.2 (at_rows f (zoning_at c f) x.0 (Some s) x.0.rows x.1.makes.1)
  one_key v (deactivate f) x = in_zoning (key.ActiveSet f) f x.0 x.2 (at_rows f (zoning_at c f) x.0 None set.empty x.1.makes)
  one_key v (default_zone f p) x = in_zoning (key.DefaultZone f) f x.0 x.2 (at_flag f (zoning_at c f) x.0 p x.1.makes)
  one_key v (host_group_put n t hs) x = in_mapping (key.HostGroup n) x.0 x.2 (at_host_groups c.mapping x.0 n (map.insert c.mapping.host_groups n _) (inserted name_total name_exact c.mapping.host_groups n _) x.1.makes)
  one_key v (host_group_drop n) x = in_mapping (key.HostGroup n) x.0 x.2 (at_host_groups c.mapping x.0 n (map.remove c.mapping.host_groups n) (removed name_total name_exact c.mapping.host_groups n) x.1.makes)
  one_key v (group_new n t r) x = in_mapping (key.StorageGroup n) x.0 x.2 (at_groups c.mapping x.0 n (map.insert c.mapping.groups n _) (inserted name_total name_exact c.mapping.groups n _) x.1.makes)
  one_key v (group_drop n) x = in_mapping (key.StorageGroup n) x.0 x.2 (at_groups c.mapping x.0 n (map.remove c.mapping.groups n) (removed name_total name_exact c.mapping.groups n) x.1.makes)
  one_key v (group_host n k) x = in_mapping (key.StorageGroup n) x.0 x.2 (changed c.mapping x.0 n _ x.1.makes)
  one_key v (group_unhost n k) x = in_mapping (key.StorageGroup n) x.0 x.2 (changed c.mapping x.0 n _ x.1.makes)
  one_key v (group_target n w) x = in_mapping (key.StorageGroup n) x.0 x.2 (changed c.mapping x.0 n _ x.1.makes)
  one_key v (group_untarget n w) x = in_mapping (key.StorageGroup n) x.0 x.2 (changed c.mapping x.0 n _ x.1.makes)
  one_key v (group_map n u y) x = in_mapping (key.StorageGroup n) x.0 x.2 (changed c.mapping x.0 n _ x.1.makes)
  one_key v (group_unmap n u) x = in_mapping (key.StorageGroup n) x.0 x.2 (changed c.mapping x.0 n _ x.1.makes)
  one_key v (group_expose n) x = in_mapping (key.StorageGroup n) x.0 x.2 (changed c.mapping x.0 n _ x.1.makes)
  one_key v (group_hide n) x = in_mapping (key.StorageGroup n) x.0 x.2 (changed c.mapping x.0 n _ x.1.makes)

-- ---- all steps

-- the row stands at the key of no step
abbrev pub IsElsewhere : List PlanStep → ConfigRow → Type 0
IsElsewhere [] r = Unit {0}
IsElsewhere (step ∷ steps) r = (¬ (key_of r ≡ step_key step)) × IsElsewhere steps r

pub no_key : (v : InventoryRows) (steps : List PlanStep) (c d : ConfigRows) → AllDone v steps c d → (r : ConfigRow) → IsElsewhere steps r → Stands c r ↔ Stands d r
no_key v [] c d is r other = (subst (λ x. Stands x r) (sym is), subst (λ x. Stands x r) is)
no_key v (step ∷ steps) c d done r other =
    let first = one_key c done.0 v step done.1 r other.0 in
    let rest = no_key v steps done.0 d done.2 r other.1 in
    (λ h. rest.0 (first.0 h), λ h. first.1 (rest.1 h))

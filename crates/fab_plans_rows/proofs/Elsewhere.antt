-- Parts that agree but at a key have the same rows but at it.
use Rattle.std.proofs.Common.{ℕ, ◌≡◌, ◌↔◌, List, Option, None, Some, Bool, true, false, cond, refl, sym, ap, ◌∙◌}
use Rattle.std.specs.declared.cmp.Ordering.{Ordering}
use Rattle.std.specs.Ordering.{eq_by_cmp}
use Rattle.std.specs.Cmp.{IsTotalOrder, Equal-is}
use Rattle.std.specs.FinMap as map
use Rattle.std.specs.FinSet as set
use Rattle.fab_names.specs.declared.fabric.Fabric.{Fabric}
use Rattle.fab_names.specs.declared.fabric.Fabric.TheVariants.{A, B}
use Rattle.fab_names.specs.declared.member.Member.{Member}
use Rattle.fab_lemmas.specs.MapsOfSets.{has}
use Rattle.fab_zoning.specs.Zonings.{FabricZoning, permits}
use Rattle.fab_mapping.specs.Mappings.{MappingRows}
use Rattle.fab_reach_base.specs.Records.{ConfigRows, zoning_at}
use Rattle.fab_plans.specs.Steps.{with_zoning, with_mapping}
use Rattle.fab_store_rows.specs.Standing.{Stands, HasItem}
use Rattle.fab_store_rows.specs.declared.config_row.ConfigRow.{ConfigRow}
use Rattle.fab_store_rows.specs.declared.config_row.ConfigRow.TheVariants as config
use Rattle.fab_store_rows.specs.declared.config_row.SettingRow.TheVariants.{ActiveSet, DefaultZone}
use Rattle.fab_store_rows.specs.declared.config_row.ZoningItem.{ZoningItem}
use Rattle.fab_store_rows.specs.declared.config_row.ZoningItem.TheVariants.{Alias, Zone, Set}
use Rattle.fab_store_rows.specs.declared.config_row.GroupRow.TheVariants as group
use Rattle.fab_store_rows.specs.declared.config_row.PartRow.TheVariants as parts
use Rattle.fab_store_rows.specs.declared.row_key.RowKey.{RowKey}
use Rattle.fab_store_rows.specs.declared.row_key.RowKey.TheVariants as key
use Rattle.fab_store_rows.specs.Keys.{item_key, key_of}

-- the same rows stand in both, but at the key
abbrev pub AgreeBut : RowKey → ConfigRows → ConfigRows → Type 0
AgreeBut k c d = (r : ConfigRow) → ¬ (key_of r ≡ k) → Stands c r ↔ Stands d r

-- the same of the zoning of a fabric, part by part
pub record ZoningsAgreeBut (k : RowKey) (f : Fabric) (v z : FabricZoning) : Type 0 where
  pub aliases : (n : List ℕ) (m : Member) → ¬ (key.Alias f n ≡ k) → has v.aliases n m ≡ has z.aliases n m
  pub zones : (n : List ℕ) (m : Member) → ¬ (key.Zone f n ≡ k) → has v.zones n m ≡ has z.zones n m
  pub sets : (n y : List ℕ) → ¬ (key.ZoneSet f n ≡ k) → has v.sets n y ≡ has z.sets n y
  pub rows : ¬ (key.ActiveSet f ≡ k) → v.rows ≡ z.rows
  pub active : ¬ (key.ActiveSet f ≡ k) → v.active ≡ z.active
  pub flag : ¬ (key.DefaultZone f ≡ k) → v.flag ≡ z.flag

-- and of the mapping
pub record MappingsAgreeBut (k : RowKey) (m n : MappingRows) : Type 0 where
  pub hosts : (q : List ℕ) → ¬ (key.HostGroup q ≡ k) → map.get m.host_groups q ≡ map.get n.host_groups q
  pub groups : (q : List ℕ) → ¬ (key.StorageGroup q ≡ k) → map.get m.groups q ≡ map.get n.groups q

itself : {P : Type 0} → P ↔ P
itself = (λ h. h, λ h. h)

-- the same test
tests : {a b : Bool} → a ≡ b → (a ≡ true) ↔ (b ≡ true)
tests e = (λ h. sym e ∙ h, λ h. e ∙ h)

-- the same found
founds : {X : Type 0} (P : X → Type 0) {a b : Option X} → a ≡ b → ((x : X) × (a ≡ Some x) × P x) ↔ ((x : X) × (b ≡ Some x) × P x)
founds P e = (λ h. (h.0, sym e ∙ h.1, h.2), λ h. (h.0, e ∙ h.1, h.2))

module _ (k : RowKey) (c : ConfigRows) where
  items : (f : Fabric) (v z : FabricZoning) → ZoningsAgreeBut k f v z → (i : ZoningItem) → ¬ (item_key f i ≡ k) → HasItem v i ↔ HasItem z i
  items f v z e (Alias n m) other = tests (e.aliases n m other)
  items f v z e (Zone n m) other = tests (e.zones n m other)
  items f v z e (Set n y) other = tests (e.sets n y other)

  pub zoning_agrees : (f : Fabric) (z : FabricZoning) → ZoningsAgreeBut k f (zoning_at c f) z → AgreeBut k c (with_zoning f z c)
  zoning_agrees A z e (config.Setting (ActiveSet A n)) other = let s = e.active other in (λ h. sym s ∙ h, λ h. s ∙ h)
  zoning_agrees A z e (config.Setting (ActiveSet B n)) other = itself
  zoning_agrees B z e (config.Setting (ActiveSet A n)) other = itself
  zoning_agrees B z e (config.Setting (ActiveSet B n)) other = let s = e.active other in (λ h. sym s ∙ h, λ h. s ∙ h)
  zoning_agrees A z e (config.Setting (DefaultZone A p)) other = let s = ap permits (e.flag other) in (λ h. sym s ∙ h, λ h. s ∙ h)
  zoning_agrees A z e (config.Setting (DefaultZone B p)) other = itself
  zoning_agrees B z e (config.Setting (DefaultZone A p)) other = itself
  zoning_agrees B z e (config.Setting (DefaultZone B p)) other = let s = ap permits (e.flag other) in (λ h. sym s ∙ h, λ h. s ∙ h)
  zoning_agrees f z e (config.Zoning r) other = by f r.fabric e other
    where
      by : (f g : Fabric) → ZoningsAgreeBut k f (zoning_at c f) z → ¬ (item_key g r.item ≡ k) → HasItem (zoning_at c g) r.item ↔ HasItem (zoning_at (with_zoning f z c) g) r.item
      by A A e other = items A c.a z e r.item other
      by A B e other = itself
      by B A e other = itself
      by B B e other = items B c.b z e r.item other
  zoning_agrees f z e (config.Active r) other = by f r.fabric e other
    where
      by : (f g : Fabric) → ZoningsAgreeBut k f (zoning_at c f) z → ¬ (key.ActiveSet g ≡ k) → (set.contains (zoning_at c g).rows (r.zone, r.member) ≡ true) ↔ (set.contains (zoning_at (with_zoning f z c) g).rows (r.zone, r.member) ≡ true)
      by A A e other = tests (ap (λ s. set.contains s (r.zone, r.member)) (e.rows other))
      by A B e other = itself
      by B A e other = itself
      by B B e other = tests (ap (λ s. set.contains s (r.zone, r.member)) (e.rows other))
  zoning_agrees A z e (config.Group r) other = itself
  zoning_agrees B z e (config.Group r) other = itself
  zoning_agrees A z e (config.Part r) other = itself
  zoning_agrees B z e (config.Part r) other = itself

  pub mapping_agrees : (m : MappingRows) → MappingsAgreeBut k c.mapping m → AgreeBut k c (with_mapping m c)
  mapping_agrees m e (config.Setting (ActiveSet A n)) other = itself
  mapping_agrees m e (config.Setting (ActiveSet B n)) other = itself
  mapping_agrees m e (config.Setting (DefaultZone A n)) other = itself
  mapping_agrees m e (config.Setting (DefaultZone B n)) other = itself
  mapping_agrees m e (config.Zoning r) other = by r.fabric
    where
      by : (g : Fabric) → HasItem (zoning_at c g) r.item ↔ HasItem (zoning_at (with_mapping m c) g) r.item
      by A = itself
      by B = itself
  mapping_agrees m e (config.Active r) other = by r.fabric
    where
      by : (g : Fabric) → (set.contains (zoning_at c g).rows (r.zone, r.member) ≡ true) ↔ (set.contains (zoning_at (with_mapping m c) g).rows (r.zone, r.member) ≡ true)
      by A = itself
      by B = itself
  mapping_agrees m e (config.Group (group.Host r)) other = founds _ (e.hosts r.name other)
  mapping_agrees m e (config.Group (group.Storage r)) other = founds _ (e.groups r.name other)
  mapping_agrees m e (config.Part (parts.Host n h)) other = founds _ (e.hosts n other)
  mapping_agrees m e (config.Part (parts.Storage n p)) other = founds _ (e.groups n other)

-- ---- maps changed at one key

module _ {K X : Type 0} {R : K → K → Ordering} (o : IsTotalOrder R) (exact : set.IsAntisymmetric R) (m : map.FinMap R X) (n : K) where
  pub inserted : (x : X) (q : K) → ¬ (q ≡ n) → map.get m q ≡ map.get (map.insert m n x) q
  inserted x q other = by (eq_by_cmp R q n) refl (map.get-insert o m n x q)
    where
      by : (b : Bool) → eq_by_cmp R q n ≡ b → map.get (map.insert m n x) q ≡ cond b (Some x) (map.get m q) → map.get m q ≡ map.get (map.insert m n x) q
      by true is e = absurd (other (exact q n ((Equal-is (R q n)).0 is)))
      by false is e = sym e

  pub removed : (q : K) → ¬ (q ≡ n) → map.get m q ≡ map.get (map.remove m n) q
  removed q other = by (eq_by_cmp R q n) refl (map.get-remove o m n q)
    where
      by : (b : Bool) → eq_by_cmp R q n ≡ b → map.get (map.remove m n) q ≡ cond b None (map.get m q) → map.get m q ≡ map.get (map.remove m n) q
      by true is e = absurd (other (exact q n ((Equal-is (R q n)).0 is)))
      by false is e = sym e

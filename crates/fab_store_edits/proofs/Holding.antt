-- Sole rows that go and can not: settings, and heads of groups that have parts.
use Rattle.std.proofs.Common.{ℕ, ◌≡◌, inl, inr, List, Option, None, Some, Bool, true, false, refl, sym, ap, ◌∙◌}
use mathlib.Core.Bool.{true≢false}
use Rattle.std.specs.FinMap as map
use Rattle.std.specs.FinSet as set
use Rattle.fab_reach_base.specs.fab_names.declared.fabric.Fabric.{Fabric}
use Rattle.fab_reach_base.specs.fab_mapping_base.Groups.{HostGroupRows, StorageGroupRows}
use Rattle.fab_reach_base.specs.fab_mapping_base.Bare.{HasNoPart}
use Rattle.fab_reach_base.specs.Records.{ConfigRows}
use Rattle.fab_store_rows.specs.declared.config_row.SettingRow.TheVariants.{ActiveSet, DefaultZone}
use Rattle.fab_store_rows.specs.declared.config_row.HostGroupRow.{HostGroupRow}
use Rattle.fab_store_rows.specs.declared.config_row.StorageGroupRow.{StorageGroupRow}
use Rattle.fab_store_rows.specs.declared.config_row.GroupRow.{GroupRow}
use Rattle.fab_store_rows.specs.declared.config_row.GroupRow.TheVariants as group
use Rattle.fab_store_rows.specs.declared.config_row.StoragePart.{StoragePart}
use Rattle.fab_store_rows.specs.declared.config_row.StoragePart.TheVariants as part
use Rattle.fab_store_rows.specs.declared.config_row.ConfigRow.{ConfigRow}
use Rattle.fab_store_rows.specs.declared.config_row.ConfigRow.TheVariants as config
use Rattle.fab_store_rows.specs.Standing.{HasPart, Stands}
use Rattle.fab_store_edits.specs.Rows.{host_head, host_row, part_row, name_row, flag_row, storage_row}
use Rattle.fab_store_edits.specs.Inner.Edits.{is_sole, IsOrApart, IsHeld}
use Rattle.fab_store_edits.proofs.GroupMoves.{some_is}
use Rattle.fab_store_edits.proofs.RowTests.{row_or}

-- a row that is not the other is apart from it, where the two would be one if they stood together
or_apart : (q r : ConfigRow) → ((b : ConfigRows) → Stands b q → Stands b r → q ≡ r) → IsOrApart r q
or_apart q r same = elim (row_or q r) [ inl e ↦ inl e | inr differ ↦ inr (λ b s t. differ (same b s t)) ]

pub name_held : (c : ConfigRows) (f : Fabric) (n : Option (List ℕ)) → IsHeld c (config.Setting (ActiveSet f n))
name_held c f n b keep none = none (name_row f b) refl (or_apart (name_row f b) (config.Setting (ActiveSet f n)) (λ e s t. ap (λ (x : Option (List ℕ)). config.Setting (ActiveSet f x)) (sym s ∙ t)))

pub flag_held : (c : ConfigRows) (f : Fabric) (p : Bool) → IsHeld c (config.Setting (DefaultZone f p))
flag_held c f p b keep none = none (flag_row f b) refl (or_apart (flag_row f b) (config.Setting (DefaultZone f p)) (λ e s t. ap (λ (x : Bool). config.Setting (DefaultZone f x)) (sym s ∙ t)))

-- a sole row is a setting, if it is no head
pub setting_held : (c : ConfigRows) (r : ConfigRow) → is_sole r ≡ true → ((g : GroupRow) → ¬ (r ≡ config.Group g)) → IsHeld c r
setting_held c (config.Setting (ActiveSet f n)) e not = name_held c f n
setting_held c (config.Setting (DefaultZone f p)) e not = flag_held c f p
setting_held c (config.Zoning r) e not = absurd (true≢false (sym e))
setting_held c (config.Active r) e not = absurd (true≢false (sym e))
setting_held c (config.Group g) e not = absurd (not g refl)
setting_held c (config.Part r) e not = absurd (true≢false (sym e))

is_false : (b : Bool) → ¬ (b ≡ true) → b ≡ false
is_false true h = absurd (h refl)
is_false false h = refl

is_none : {X : Type 0} (o : Option X) → ((x : X) → ¬ (o ≡ Some x)) → o ≡ None
is_none None h = refl
is_none (Some x) h = absurd (h x refl)

pub hosts_held : (c : ConfigRows) (r : HostGroupRow) (g : HostGroupRows) → map.get c.mapping.host_groups r.name ≡ Some g → ¬ ((h : List ℕ) → set.contains g.hosts h ≡ false) → IsHeld c (config.Group (group.Host r))
hosts_held c r g at some b keep none = some (λ h. is_false (set.contains g.hosts h) (λ e.
    let s = keep (host_row r.name h) (g, at, e) refl in
    none (host_head r.name s.0.tenant) (s.0, s.1, record { tenant = refl }) (or_apart (host_head r.name s.0.tenant) (config.Group (group.Host r)) (λ d q k. one d s.0.tenant q k))))
  where
    one : (d : ConfigRows) (t : List ℕ) → Stands d (host_head r.name t) → Stands d (config.Group (group.Host r)) → host_head r.name t ≡ config.Group (group.Host r)
    one d t q k =
        let same : q.0 ≡ k.0 = some_is q.0 k.0 (sym q.1 ∙ k.1) in
        let tenant : t ≡ r.tenant = sym q.2.tenant ∙ ap (λ (x : HostGroupRows). x.tenant) same ∙ k.2.tenant in
        λ i. config.Group (group.Host (record { name = r.name; tenant = tenant i }))

pub storage_held : (c : ConfigRows) (r : StorageGroupRow) (g : StorageGroupRows) → map.get c.mapping.groups r.name ≡ Some g → ¬ HasNoPart g → IsHeld c (config.Group (group.Storage r))
storage_held c r g at some b keep none = some (record {
  host_groups = λ k. is_false (set.contains g.host_groups k) (no_part (part.HostGroup k));
  targets = λ q. is_false (set.contains g.targets q) (no_part (part.Target q));
  units = λ u. is_none (map.get g.units u) (λ v. no_part (part.Unit u v));
})
  where
    one : (d : ConfigRows) (x : StorageGroupRows) → Stands d (storage_row r.name x) → Stands d (config.Group (group.Storage r)) → storage_row r.name x ≡ config.Group (group.Storage r)
    one d x q k =
        let same : q.0 ≡ k.0 = some_is q.0 k.0 (sym q.1 ∙ k.1) in
        let tenant : x.tenant ≡ r.tenant = sym q.2.tenant ∙ ap (λ (y : StorageGroupRows). y.tenant) same ∙ k.2.tenant in
        let array : x.array ≡ r.array = sym q.2.array ∙ ap (λ (y : StorageGroupRows). y.array) same ∙ k.2.array in
        let exposed : x.exposed ≡ r.exposed = sym q.2.exposed ∙ ap (λ (y : StorageGroupRows). y.exposed) same ∙ k.2.exposed in
        λ i. config.Group (group.Storage (record { name = r.name; tenant = tenant i; array = array i; exposed = exposed i }))

    no_part : (d : StoragePart) → ¬ HasPart d g
    no_part d h =
        let s = keep (part_row r.name d) (g, at, h) refl in
        none (storage_row r.name s.0) (s.0, s.1, record { tenant = refl; array = refl; exposed = refl }) (or_apart (storage_row r.name s.0) (config.Group (group.Storage r)) (λ e q k. one e s.0 q k))

-- a group with no part has none
pub bare_part : (g : StorageGroupRows) → HasNoPart g → (d : StoragePart) → ¬ HasPart d g
bare_part g none (part.HostGroup k) h = true≢false (sym h ∙ none.host_groups k)
bare_part g none (part.Target q) h = true≢false (sym h ∙ none.targets q)
bare_part g none (part.Unit u v) h = let e : ◌≡◌ {A = Option (List ℕ)} None (Some v) = sym (none.units u) ∙ h in absurd cc

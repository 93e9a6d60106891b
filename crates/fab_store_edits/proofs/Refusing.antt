-- Settings put in, what refuses a row, and what is put in another's place.
use Rattle.std.proofs.Common.{ℕ, ◌≡◌, ◌⊎◌, inl, inr, List, Option, None, Some, Bool, true, false, Result, Ok, Err, IfOk, refl, sym, ap, ◌∙◌, subst}
use Rattle.std.specs.FinMap as map
use Rattle.fab_reach_base.specs.fab_names.declared.fabric.Fabric.{Fabric}
use Rattle.fab_reach_base.specs.fab_lemmas.Firsts.{HasAt}
use Rattle.fab_reach_base.specs.fab_zoning.Zonings.{FabricZoning, permits, flag_of}
use Rattle.fab_reach_base.specs.fab_mapping_base.Groups.{HostGroupRows, StorageGroupRows}
use Rattle.fab_reach_base.specs.Records.{ConfigRows, zoning_at}
use Rattle.fab_store_rows.specs.declared.config_row.SettingRow.TheVariants.{ActiveSet, DefaultZone}
use Rattle.fab_store_rows.specs.declared.config_row.HostGroupRow.{HostGroupRow}
use Rattle.fab_store_rows.specs.declared.config_row.StorageGroupRow.{StorageGroupRow}
use Rattle.fab_store_rows.specs.declared.config_row.GroupRow.TheVariants as group
use Rattle.fab_store_rows.specs.declared.config_row.StoragePart.{StoragePart}
use Rattle.fab_store_rows.specs.declared.config_row.StoragePart.TheVariants as part
use Rattle.fab_store_rows.specs.declared.config_row.ConfigRow.{ConfigRow}
use Rattle.fab_store_rows.specs.declared.config_row.ConfigRow.TheVariants as config
use Rattle.fab_store_rows.specs.Standing.{IsGroup, IsHostHead, IsStorageHead}
use Rattle.fab_store_edits.specs.Rows.{host_head, host_row, part_row, name_row, flag_row, storage_row}
use Rattle.fab_store_rows.specs.Tidy.{HasNoEmptySet}
use Rattle.fab_store_edits.specs.Inner.Edits.{Is, IsPut, HasRival, IsOrphan, IsRefused}
use Rattle.fab_store_edits.specs.Inner.MappingEdits.{IsTakenUnit}
use Rattle.fab_store_edits.specs.Inner.ZoningEdits.{with_zoning}
use Rattle.fab_store_edits.proofs.ZoningMoves.{zoning_now, moved, moved_back}
use Rattle.fab_store_edits.proofs.GroupMoves.{some_is, here_none}

pub if_ok : {X E : Type 0} {P Q : X → Type 0} (r : Result X E) → ((x : X) → P x → Q x) → IfOk r P → IfOk r Q
if_ok (Ok x) f h = f x h
if_ok (Err e) f h = h

-- ---- settings
module _ (c : ConfigRows) (f : Fabric) where
  pub name_put : (n : Option (List ℕ)) (w : FabricZoning) → w ≡ record (zoning_at c f) { active = n } → IsPut (Is (name_row f c)) (config.Setting (ActiveSet f n)) c (with_zoning f w c)
  name_put n w made = subst (λ (u : FabricZoning). IsPut (Is (name_row f c)) (config.Setting (ActiveSet f n)) c (with_zoning f u c)) (sym made) (
      let u : FabricZoning = record (zoning_at c f) { active = n } in record {
        there = ap (λ (v : FabricZoning). v.active) (zoning_now c u f);
        kept = moved_back c u (Is (config.Setting (ActiveSet f n))) f (record { name = λ k h. inr (ap (λ (x : Option (List ℕ)). config.Setting (ActiveSet f x)) (sym h)); flag = λ p h. inl h; items = λ i h. inl h; rows = λ z m h. inl h });
        left = moved c u (Is (name_row f c)) f (record { name = λ k h. inr (ap (λ (x : Option (List ℕ)). config.Setting (ActiveSet f x)) (sym h)); flag = λ p h. inl h; items = λ i h. inl h; rows = λ z m h. inl h });
      })

  permits_flag : (p : Bool) → permits (flag_of p) ≡ p
  permits_flag true = refl
  permits_flag false = refl

  pub flag_put : (p : Bool) (w : FabricZoning) → w ≡ record (zoning_at c f) { flag = flag_of p } → IsPut (Is (flag_row f c)) (config.Setting (DefaultZone f p)) c (with_zoning f w c)
  flag_put p w made = subst (λ (u : FabricZoning). IsPut (Is (flag_row f c)) (config.Setting (DefaultZone f p)) c (with_zoning f u c)) (sym made) (
      let u : FabricZoning = record (zoning_at c f) { flag = flag_of p } in record {
        there = ap (λ (v : FabricZoning). permits v.flag) (zoning_now c u f) ∙ permits_flag p;
        kept = moved_back c u (Is (config.Setting (DefaultZone f p))) f (record { name = λ k h. inl h; flag = λ q h. inr (ap (λ (x : Bool). config.Setting (DefaultZone f x)) (sym h ∙ permits_flag p)); items = λ i h. inl h; rows = λ z m h. inl h });
        left = moved c u (Is (flag_row f c)) f (record { name = λ k h. inl h; flag = λ q h. inr (ap (λ (x : Bool). config.Setting (DefaultZone f x)) (sym h)); items = λ i h. inl h; rows = λ z m h. inl h });
      })

pub name_tidy : (v w : FabricZoning) (n : Option (List ℕ)) → w ≡ record v { active = n } → (w.fabric ≡ v.fabric) × (HasNoEmptySet v → HasNoEmptySet w)
name_tidy v w n made = (ap (λ (u : FabricZoning). u.fabric) made, λ h. subst HasNoEmptySet (sym made) (record { aliases = h.aliases; zones = h.zones; sets = h.sets }))

-- ---- what refuses a head, or a part
module _ (Goes : ConfigRow → Type 0) (c : ConfigRows) where
  pub hosts_rival : (r : HostGroupRow) → ¬ IsGroup c.mapping (group.Host r) → (g : HostGroupRows) → map.get c.mapping.host_groups r.name ≡ Some g → ¬ Goes (host_head r.name g.tenant) → HasRival Goes c (config.Group (group.Host r))
  hosts_rival r fresh g at stays = record {
    rival = host_head r.name g.tenant;
    stands = (g, at, record { tenant = refl });
    stays = λ k. absurd (stays k);
    apart = λ b q k. fresh (g, at, record { tenant = let same : q.0 ≡ k.0 = some_is q.0 k.0 (sym q.1 ∙ k.1) in sym q.2.tenant ∙ ap (λ (x : HostGroupRows). x.tenant) same ∙ k.2.tenant });
  }

  pub storage_rival : (r : StorageGroupRow) → ¬ IsGroup c.mapping (group.Storage r) → (g : StorageGroupRows) → map.get c.mapping.groups r.name ≡ Some g → ¬ Goes (storage_row r.name g) → HasRival Goes c (config.Group (group.Storage r))
  storage_rival r fresh g at stays = record {
    rival = storage_row r.name g;
    stands = (g, at, record { tenant = refl; array = refl; exposed = refl });
    stays = λ k. absurd (stays k);
    apart = λ b q k. let same : q.0 ≡ k.0 = some_is q.0 k.0 (sym q.1 ∙ k.1) in fresh (
      g,
      at,
      record {
        tenant = sym q.2.tenant ∙ ap (λ (x : StorageGroupRows). x.tenant) same ∙ k.2.tenant;
        array = sym q.2.array ∙ ap (λ (x : StorageGroupRows). x.array) same ∙ k.2.array;
        exposed = sym q.2.exposed ∙ ap (λ (x : StorageGroupRows). x.exposed) same ∙ k.2.exposed;
      },
    );
  }

  pub host_orphan : (n h : List ℕ) → map.get c.mapping.host_groups n ≡ None → IsOrphan c (host_row n h)
  host_orphan n h none = record {
    part = refl;
    head = λ b k. (group.Host (record { name = n; tenant = k.0.tenant }), (k.0, k.1, record { tenant = refl }), here_none (map.get c.mapping.host_groups) n (IsHostHead (record { name = n; tenant = k.0.tenant })) none);
  }

  part_orphan : (n : List ℕ) (d : StoragePart) → map.get c.mapping.groups n ≡ None → IsOrphan c (part_row n d)
  part_orphan n d none = record {
    part = refl;
    head = λ b k. let r : StorageGroupRow = record { name = n; tenant = k.0.tenant; array = k.0.array; exposed = k.0.exposed } in
        (group.Storage r, (k.0, k.1, record { tenant = refl; array = refl; exposed = refl }), here_none (map.get c.mapping.groups) n (IsStorageHead r) none);
  }

  unit_rival : (n : List ℕ) (d : StoragePart) → HasAt (map.get c.mapping.groups) (IsTakenUnit d) n → HasRival Goes c (part_row n d)
  unit_rival n (part.HostGroup k) h = absurd h.2
  unit_rival n (part.Target q) h = absurd h.2
  unit_rival n (part.Unit u v) h = record {
    rival = part_row n (part.Unit u h.2.0);
    stands = (h.0, h.1, h.2.1);
    stays = λ g. refl;
    apart = λ b q k. let same : q.0 ≡ k.0 = some_is q.0 k.0 (sym q.1 ∙ k.1) in h.2.2 (some_is h.2.0 v (sym q.2 ∙ ap (λ (x : StorageGroupRows). map.get x.units u) same ∙ k.2));
  }

  pub part_refused : (n : List ℕ) (d : StoragePart) → (map.get c.mapping.groups n ≡ None) ⊎ HasAt (map.get c.mapping.groups) (IsTakenUnit d) n → IsRefused Goes c (part_row n d)
  part_refused n d (inl none) = inr (part_orphan n d none)
  part_refused n d (inr taken) = inl (unit_rival n d taken)

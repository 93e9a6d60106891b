-- A part of a group is told by its group and itself: a unit has one volume.
use Rattle.std.proofs.Common.{ℕ, ◌≡◌, ◌⊎◌, inl, inr, List, [], Some, codes, sym, ◌∙◌, subst, arith, lit<}
use Rattle.std.specs.FinMap as map
use Rattle.fab_store_world.specs.Tables.{IsConfigRow}
use Rattle.fab_store_columns.proofs.Unique.{one_decimal, same_name}
use Rattle.fab_store_columns.specs.GroupLines.{PartColumns, ShowsPart}
use Rattle.fab_store_columns_base.specs.Columns.{ShowsDecimal}
use Rattle.fab_mapping_base.specs.Groups.{StorageGroupRows}
use Rattle.fab_mapping_base.specs.declared.limits.TheConstants.{LAST_UNIT}
use Rattle.fab_names.specs.Names.{SpellsName}
use Rattle.fab_store_rows.specs.declared.config_row.ConfigRow.TheVariants as config
use Rattle.fab_store_rows.specs.declared.config_row.PartRow.{PartRow}
use Rattle.fab_store_rows.specs.declared.config_row.PartRow.TheVariants as parts
use Rattle.fab_store_rows.specs.declared.config_row.StoragePart.TheVariants as part
use Rattle.fab_store_base.proofs.KeysOfRows.{same_names, one_value}
use Rattle.fab_store_columns.proofs.UniqueConfig.{differ}
use Rattle.fab_world.specs.Worlds.{WorldRows}

-- a part that is no unit
record IsNoUnit (l : PartColumns) : Type 0 where
  volume : l.volume ≡ []
  word : ¬ (l.part ≡ codes "unit")

-- a unit of a storage group
record IsUnit (l : PartColumns) (w : WorldRows) : Type 0 where
  name : List ℕ
  unit : ℕ
  volume : List ℕ
  named : SpellsName l.name name
  word : l.part ≡ codes "unit"
  item : ShowsDecimal LAST_UNIT l.item unit
  shown : SpellsName l.volume volume
  stands : IsConfigRow w (config.Part (parts.Storage name (part.Unit unit volume)))

module _ (w : WorldRows) where
  no_unit_or_unit : (l : PartColumns) (x : PartRow) → ShowsPart l x → IsConfigRow w (config.Part x) → IsNoUnit l ⊎ IsUnit l w
  no_unit_or_unit l (parts.Host n o) h p = inl (record { volume = h.part.volume; word = λ e. absurd (omega (arith, differ 0 (codes "host") (codes "unit") (sym h.part.part ∙ e))) })
  no_unit_or_unit l (parts.Storage n (part.HostGroup o)) h p = inl (record { volume = h.part.volume; word = λ e. absurd (omega (arith, differ 0 (codes "hostgroup") (codes "unit") (sym h.part.part ∙ e))) })
  no_unit_or_unit l (parts.Storage n (part.Target t)) h p = inl (record { volume = h.part.volume; word = λ e. absurd (omega (arith, differ 0 (codes "target") (codes "unit") (sym h.part.part ∙ e))) })
  no_unit_or_unit l (parts.Storage n (part.Unit u v)) h p = inr (record { name = n; unit = u; volume = v; named = h.name; word = h.part.part; item = h.part.item; shown = h.part.volume; stands = p })

  -- a unit has one volume
  one_unit : (l m : PartColumns) → IsUnit l w → IsUnit m w → l.name ≡ m.name → l.item ≡ m.item → l.volume ≡ m.volume
  one_unit l m h k names items =
      let name = same_names l.name m.name h.name k.name h.named k.named names in
      let unit = one_decimal LAST_UNIT (lit< tt) l.item h.unit k.unit h.item (subst (λ text. ShowsDecimal LAST_UNIT text k.unit) (sym items) k.item) in
      let g : h.stands.0 ≡ k.stands.0 = one_value (map.get w.config.mapping.groups) h.name k.name h.stands.0 k.stands.0 name h.stands.1 k.stands.1 in
      let volume : h.volume ≡ k.volume = one_value (map.get h.stands.0.units) h.unit k.unit h.volume k.volume unit h.stands.2 (subst (λ (v : StorageGroupRows). map.get v.units k.unit ≡ Some k.volume) (sym g) k.stands.2) in
      same_name l.volume m.volume h.volume h.shown (subst (SpellsName m.volume) (sym volume) k.shown)

  one_volume : (l m : PartColumns) → IsNoUnit l ⊎ IsUnit l w → IsNoUnit m ⊎ IsUnit m w → l.name ≡ m.name → l.part ≡ m.part → l.item ≡ m.item → l.volume ≡ m.volume
  one_volume l m (inl h) (inl k) names words items = h.volume ∙ sym k.volume
  one_volume l m (inl h) (inr k) names words items = absurd (h.word (words ∙ k.word))
  one_volume l m (inr h) (inl k) names words items = absurd (k.word (sym words ∙ h.word))
  one_volume l m (inr h) (inr k) names words items = one_unit l m h k names items

  pub one_part_key : (l m : PartColumns) (x y : PartRow) → ShowsPart l x → ShowsPart m y → IsConfigRow w (config.Part x) → IsConfigRow w (config.Part y) → l.kind ≡ m.kind → l.name ≡ m.name → l.part ≡ m.part → l.item ≡ m.item → l ≡ m
  one_part_key l m x y h k p q kinds names words items =
      let volumes = one_volume l m (no_unit_or_unit l x h p) (no_unit_or_unit m y k q) names words items in
      λ i. record { kind = kinds i; name = names i; part = words i; item = items i; volume = volumes i }

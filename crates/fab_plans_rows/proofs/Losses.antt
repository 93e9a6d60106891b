-- What rows that came tell is all that can be gone.
use Rattle.std.proofs.Common.{ℕ, ◌≡◌, List, Option, None, Some, Contains, ◌⊎◌, inl, inr, true, refl, sym, ap, ◌∙◌, subst}
use mathlib.Core.Bool.{true≢false}
use Rattle.std.specs.FinMap as map
use Rattle.std.specs.FinSet as set
use Rattle.fab_inventory.specs.Inventories.{InventoryRows, IsArray}
use Rattle.fab_lemmas.specs.Firsts.{IsFirstOf}
use Rattle.fab_lemmas.proofs.Leasts.{least_as}
use Rattle.fab_reach_base.specs.Records.{ConfigRows}
use Rattle.fab_reach_base.proofs.Same.{same_some}
use Rattle.fab_mapping_base.specs.Groups.{StorageGroupRows}
use Rattle.fab_mapping_base.specs.Fitting.{IsPortOf, IsVolumeOn, LacksHost, LacksArray, LacksTarget, LacksVolume}
use Rattle.fab_mapping.specs.Gone.{IsLacking, IsFirstGone}
use Rattle.fab_mapping.specs.Soundness.{Fits}
use Rattle.fab_mapping.proofs.Lacking.{hosts_there, groups_there}
use Rattle.fab_store_rows.specs.declared.config_row.ConfigRow.{ConfigRow}
use Rattle.fab_store_rows.specs.declared.config_row.ConfigRow.TheVariants as config
use Rattle.fab_store_rows.specs.declared.config_row.GroupRow.TheVariants as group
use Rattle.fab_store_rows.specs.declared.config_row.PartRow.TheVariants as parts
use Rattle.fab_store_rows.specs.declared.config_row.StoragePart.TheVariants as part
use Rattle.fab_store_rows.specs.Standing.{Stands}
use Rattle.fab_store_edits.specs.Led.{IsLed}
use Rattle.fab_store_edits.specs.Rows.{host_row, part_row, storage_row}
use Rattle.fab_plans_rows.specs.declared.lost.Lost.{Lost}
use Rattle.fab_plans_rows.specs.declared.lost.Lost.TheVariants.{Host, Array, Target, Volume}
use Rattle.fab_plans_rows.specs.Inner.Losses.{lost_cmp, told, RowLacks, Among}

module _ (inventory : InventoryRows) (c d : ConfigRows) (go come : List ConfigRow) (fits : Fits inventory c.mapping) (led : IsLed c d go come) where
  -- what some group lacks
  abbrev AnyLacks : Lost → Type 0
  AnyLacks (Host x) = IsLacking (map.get d.mapping.host_groups) (LacksHost inventory) x
  AnyLacks (Array x) = IsLacking (map.get d.mapping.groups) (LacksArray inventory) x
  AnyLacks (Target x) = IsLacking (map.get d.mapping.groups) (LacksTarget inventory) x
  AnyLacks (Volume x) = IsLacking (map.get d.mapping.groups) (LacksVolume inventory) x

  abbrev RowsLack : Lost → Type 0
  RowsLack = Among (RowLacks inventory (map.get d.mapping.groups)) come

  -- ---- what a row tells, some group lacks
  of_row : (r : ConfigRow) (x : Lost) → Stands d r → RowLacks inventory (map.get d.mapping.groups) r x → AnyLacks x
  of_row (config.Setting r) x s e = absurd e
  of_row (config.Zoning r) x s e = absurd e
  of_row (config.Active r) x s e = absurd e
  of_row (config.Group (group.Host r)) x s e = absurd e
  of_row (config.Group (group.Storage r)) (Host x) s e = absurd e.2
  of_row (config.Group (group.Storage r)) (Array x) s e = (r.name, e)
  of_row (config.Group (group.Storage r)) (Target x) s e = (r.name, e)
  of_row (config.Group (group.Storage r)) (Volume x) s e = (r.name, e)
  of_row (config.Part (parts.Host k h)) (Host x) s e = (k, (s.0, s.1, (ap (set.contains s.0.hosts) e.0 ∙ s.2, e.1)))
  of_row (config.Part (parts.Host k h)) (Array x) s e = absurd e
  of_row (config.Part (parts.Host k h)) (Target x) s e = absurd e
  of_row (config.Part (parts.Host k h)) (Volume x) s e = absurd e
  of_row (config.Part (parts.Storage n (part.HostGroup k))) x s e = absurd e.2
  of_row (config.Part (parts.Storage n (part.Target t))) (Host x) s e = absurd e.2
  of_row (config.Part (parts.Storage n (part.Target t))) (Array x) s e = absurd e.2
  of_row (config.Part (parts.Storage n (part.Target t))) (Target x) s e =
      let same : s.0 ≡ e.0 = same_some s.1 e.1 in
      (n, (e.0, e.1, (ap (set.contains e.0.targets) e.2.0 ∙ subst (λ (g : StorageGroupRows). set.contains g.targets t ≡ true) same s.2, e.2.1)))
  of_row (config.Part (parts.Storage n (part.Target t))) (Volume x) s e = absurd e.2
  of_row (config.Part (parts.Storage n (part.Unit u w))) (Host x) s e = absurd e.2
  of_row (config.Part (parts.Storage n (part.Unit u w))) (Array x) s e = absurd e.2
  of_row (config.Part (parts.Storage n (part.Unit u w))) (Target x) s e = absurd e.2
  of_row (config.Part (parts.Storage n (part.Unit u w))) (Volume x) s e =
      let same : s.0 ≡ e.0 = same_some s.1 e.1 in
      (n, (e.0, e.1, ((u, subst (λ (g : StorageGroupRows). map.get g.units u ≡ Some w) same s.2 ∙ ap Some (sym e.2.0)), e.2.1)))

  -- ---- what some group lacks, a row that came tells

  -- the head of a group came, or the group of its name was there and on the same array
  head_or : (n : List ℕ) (g : StorageGroupRows) → map.get d.mapping.groups n ≡ Some g → Contains come (storage_row n g) ⊎ ((h : StorageGroupRows) × (map.get c.mapping.groups n ≡ Some h) × (h.array ≡ g.array))
  head_or n g at = elim (led.kept (storage_row n g) (g, at, record { tenant = refl; array = refl; exposed = refl })) [ inl s ↦ inr (s.0, s.1, s.2.array) | inr came ↦ inl came ]

  to_row : (x : Lost) → AnyLacks x → RowsLack x
  to_row (Host x) w = elim (led.kept (host_row w.0 x) (w.1.0, w.1.1, w.1.2.0)) [
    | inl s ↦ absurd (w.1.2.1 (fits.host_groups w.0 s.0 s.1 x s.2))
    | inr came ↦ (host_row w.0 x, came, (refl, w.1.2.1))
  ]
  to_row (Array x) w = elim (head_or w.0 w.1.0 w.1.1) [
    | inl came ↦ (storage_row w.0 w.1.0, came, w.1)
    | inr was ↦ absurd (w.1.2.1 (subst (IsArray inventory.holders) (was.2 ∙ sym w.1.2.0) (fits.groups w.0 was.0 was.1).on_array))
  ]
  to_row (Target x) w = elim (head_or w.0 w.1.0 w.1.1) [
    | inl came ↦ (storage_row w.0 w.1.0, came, w.1)
    | inr was ↦ elim (led.kept (part_row w.0 (part.Target x)) (w.1.0, w.1.1, w.1.2.0)) [
      | inl s ↦ absurd (w.1.2.1 (subst (λ (a : List ℕ). IsPortOf inventory a x) was.2 ((fits.groups w.0 was.0 was.1).targets x (subst (λ (h : StorageGroupRows). set.contains h.targets x ≡ true) (same_some s.1 was.1) s.2))))
      | inr came ↦ (part_row w.0 (part.Target x), came, (w.1.0, w.1.1, (refl, w.1.2.1)))
    ]
  ]
  to_row (Volume x) w = elim (head_or w.0 w.1.0 w.1.1) [
    | inl came ↦ (storage_row w.0 w.1.0, came, w.1)
    | inr was ↦
        let u : ℕ = w.1.2.0.0 in
        elim (led.kept (part_row w.0 (part.Unit u x)) (w.1.0, w.1.1, w.1.2.0.1)) [
          | inl s ↦ absurd (w.1.2.1 (subst (λ (a : List ℕ). IsVolumeOn inventory a x) was.2 ((fits.groups w.0 was.0 was.1).volumes u x (subst (λ (h : StorageGroupRows). map.get h.units u ≡ Some x) (same_some s.1 was.1) s.2))))
          | inr came ↦ (part_row w.0 (part.Unit u x), came, (w.1.0, w.1.1, (refl, w.1.2.1)))
        ]
  ]

  -- ---- so the first of them is the first that is gone
  first_of_all : (o : Option Lost) → IsFirstOf lost_cmp RowsLack o → IsFirstOf lost_cmp AnyLacks o
  first_of_all o = least_as lost_cmp RowsLack AnyLacks o (λ x w. of_row w.0 x (led.came w.0 w.1) w.2) to_row

  pub none_gone : ((x : Lost) → ¬ RowsLack x) → Fits inventory d.mapping
  none_gone none =
      let h = first_of_all None none in
      record { host_groups = hosts_there inventory (map.get d.mapping.host_groups) (λ x. h (Host x)); groups = groups_there inventory (map.get d.mapping.groups) (λ x. h (Array x)) (λ x. h (Target x)) (λ x. h (Volume x)) }

  pub first_gone : (x : Lost) → IsFirstOf lost_cmp RowsLack (Some x) → IsFirstGone inventory d.mapping (told x)
  first_gone x first = by x (first_of_all (Some x) first)
    where
      by : (y : Lost) → IsFirstOf lost_cmp AnyLacks (Some y) → IsFirstGone inventory d.mapping (told y)
      by (Host y) h = (h.0, λ q w. h.1 (Host q) w)
      by (Array y) h = (λ q w. true≢false (h.1 (Host q) w), (h.0, λ q w. h.1 (Array q) w))
      by (Target y) h = (λ q w. true≢false (h.1 (Host q) w), λ q w. true≢false (h.1 (Array q) w), (h.0, λ q w. h.1 (Target q) w))
      by (Volume y) h = (λ q w. true≢false (h.1 (Host q) w), λ q w. true≢false (h.1 (Array q) w), λ q w. true≢false (h.1 (Target q) w), (h.0, λ q w. h.1 (Volume q) w))

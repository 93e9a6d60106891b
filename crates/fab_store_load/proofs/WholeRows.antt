-- A configuration by all its rows.
use Rattle.std.proofs.Common.{ℕ, ◌≡◌, ◌↔◌, List, Contains}
use Rattle.fab_names.specs.declared.fabric.Fabric.{Fabric}
use Rattle.fab_names.specs.declared.fabric.Fabric.TheVariants.{A, B}
use Rattle.fab_names.specs.declared.member.Member.{Member}
use Rattle.fab_reach_base.specs.fab_zoning.Soundness as zonings
use Rattle.fab_reach_base.specs.fab_mapping.Mappings.{HasNoClash}
use Rattle.fab_reach_base.specs.fab_mapping.Soundness as mappings
use Rattle.fab_reach_base.specs.Records.{ConfigRows, zoning_at}
use Rattle.fab_reach_base.specs.Soundness.{IsSoundAlone}
use Rattle.fab_store_rows.specs.declared.config_row.SettingRow.TheVariants.{ActiveSet, DefaultZone}
use Rattle.fab_store_rows.specs.declared.config_row.ZoningItem.{ZoningItem}
use Rattle.fab_store_rows.specs.declared.config_row.ZoningItem.TheVariants.{Alias, Zone, Set}
use Rattle.fab_store_rows.specs.declared.config_row.GroupRow.TheVariants as group
use Rattle.fab_store_rows.specs.declared.config_row.StoragePart.TheVariants as part
use Rattle.fab_store_rows.specs.declared.config_row.PartRow.TheVariants as parts
use Rattle.fab_store_rows.specs.declared.config_row.ConfigRow.{ConfigRow}
use Rattle.fab_store_rows.specs.declared.config_row.ConfigRow.TheVariants as config
use Rattle.fab_store_rows.specs.Standing.{Stands, HasItem}
use Rattle.fab_store_load.specs.declared.fault.LoadFault.{LoadFault}
use Rattle.fab_store_load.specs.declared.fault.LoadFault.TheVariants.{Damaged, Memory}
use Rattle.fab_store_load.specs.declared.fault.Table.{Table}
use Rattle.fab_store_load.specs.declared.fault.Table.TheVariants as table
use Rattle.fab_store_load.specs.Rows.{AreRows}
use Rattle.fab_store_load.specs.Faults.{OfTable}
use Rattle.fab_store_load.specs.Kinds.{item_row, active_row}
use Rattle.fab_store_load.specs.Configs.{AreConfigRows, ConfigPartIsSound, SettingSays, ZoningSays, HostGroupsSay, StorageGroupsSay}

-- both directions of what rows say
both_ways : {E R : Type 0} (row_of : E → R) (rows : List R) (P : E → Type 0) → AreRows row_of rows P → (e : E) → Contains rows (row_of e) ↔ P e
both_ways row_of rows P h e = (h.sound e, h.complete e)

module _ (rows : List ConfigRow) (c : ConfigRows) (setting_a : SettingSays A rows c.a.active c.a.flag) (setting_b : SettingSays B rows c.b.active c.b.flag) (a : ZoningSays A rows c.a) (b : ZoningSays B rows c.b)
    (host_groups : HostGroupsSay rows c.mapping.host_groups) (groups : StorageGroupsSay rows c.mapping.groups) where
  item_is : (f : Fabric) (i : ZoningItem) → Contains rows (item_row f i) ↔ HasItem (zoning_at c f) i
  item_is A (Alias n m) = both_ways _ rows _ a.aliases_are (n, m)
  item_is A (Zone n m) = both_ways _ rows _ a.zones_are (n, m)
  item_is A (Set n z) = both_ways _ rows _ a.sets_are (n, z)
  item_is B (Alias n m) = both_ways _ rows _ b.aliases_are (n, m)
  item_is B (Zone n m) = both_ways _ rows _ b.zones_are (n, m)
  item_is B (Set n z) = both_ways _ rows _ b.sets_are (n, z)

  active_is : (f : Fabric) (m : Member) (z : List ℕ) → Contains rows (active_row f (m, z)) ↔ Stands c (active_row f (m, z))
  active_is A m z = both_ways _ rows _ a.active_are (m, z)
  active_is B m z = both_ways _ rows _ b.active_are (m, z)

  -- the rows that the parts of the configuration say are its rows
  pub whole_rows : AreConfigRows rows c
  whole_rows (config.Setting (ActiveSet A n)) = setting_a.name_is n
  whole_rows (config.Setting (ActiveSet B n)) = setting_b.name_is n
  whole_rows (config.Setting (DefaultZone A p)) = setting_a.flag_is p
  whole_rows (config.Setting (DefaultZone B p)) = setting_b.flag_is p
  whole_rows (config.Zoning r) = item_is r.fabric r.item
  whole_rows (config.Active r) = active_is r.fabric r.member r.zone
  whole_rows (config.Group (group.Host r)) = both_ways _ rows _ host_groups.heads_are (r.name, r.tenant)
  whole_rows (config.Group (group.Storage r)) = both_ways _ rows _ groups.heads_are (r.name, record { tenant = r.tenant; array = r.array; exposed = r.exposed })
  whole_rows (config.Part (parts.Host n h)) = both_ways _ rows _ host_groups.hosts_are (n, h)
  whole_rows (config.Part (parts.Storage n (part.HostGroup k))) = both_ways _ rows _ groups.served_are (n, k)
  whole_rows (config.Part (parts.Storage n (part.Target w))) = both_ways _ rows _ groups.targets_are (n, w)
  whole_rows (config.Part (parts.Storage n (part.Unit u v))) = both_ways _ rows _ groups.units_are ((n, u), v)

-- a configuration of sound parts, with no unit clash, is sound
pub sound_whole : (c : ConfigRows) → (c.a.fabric ≡ A) × (c.b.fabric ≡ B) → zonings.IsSound c.a × zonings.IsSound c.b → mappings.IsSound c.mapping × HasNoClash c.mapping → IsSoundAlone c
sound_whole c own sound mapping = record {
  parts = record { zonings = record { fabrics = fabrics; sound = each }; mapping = mapping.0 };
  no_clash = mapping.1;
}
  where
    fabrics : (f : Fabric) → (zoning_at c f).fabric ≡ f
    fabrics A = own.0
    fabrics B = own.1

    each : (f : Fabric) → zonings.IsSound (zoning_at c f)
    each A = sound.0
    each B = sound.1

-- a sound configuration is sound so far as each table tells it
pub sound_part : (t : Table) (c : ConfigRows) → IsSoundAlone c → ConfigPartIsSound t c
sound_part table.Meta c s = tt
sound_part table.Ports c s = tt
sound_part table.Addresses c s = tt
sound_part table.Holders c s = tt
sound_part table.Volumes c s = tt
sound_part table.Zoning c s = ((s.parts.zonings.sound A).definitions, (s.parts.zonings.sound B).definitions)
sound_part table.Active c s = ((s.parts.zonings.sound A).active, (s.parts.zonings.sound B).active)
sound_part table.Groups c s = record { few_host_groups = s.parts.mapping.few_host_groups; few_groups = s.parts.mapping.few_groups }
sound_part table.GroupParts c s = (s.parts.mapping, s.no_clash)
sound_part table.Plans c s = tt
sound_part table.Approvals c s = tt
sound_part table.Undo c s = tt
sound_part table.Paths c s = tt

-- so rows that are no configuration's whose part is sound are no sound configuration's
pub fault_is_exact : (rows : List ConfigRow) (fault : LoadFault) → OfTable (λ t. (c : ConfigRows) → AreConfigRows rows c → ¬ ConfigPartIsSound t c) fault → OfTable (λ t. (c : ConfigRows) → AreConfigRows rows c → ¬ IsSoundAlone c) fault
fault_is_exact rows (Damaged t) h = λ c all sound. h c all (sound_part t c sound)
fault_is_exact rows Memory h = tt

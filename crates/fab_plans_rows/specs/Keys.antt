-- At which key a step of a plan changes rows.
use Rattle.std.specs.Prelude.{List, Contains}
use Rattle.std.specs.BTreeSet.{BTreeSet}
use Rattle.fab_plans_base.specs.Steps.{PlanStep, alias_put, alias_drop, zone_put, zone_drop, set_put, set_drop, activate, deactivate, default_zone, host_group_put, host_group_drop, group_new, group_drop, group_host, group_unhost, group_target, group_untarget, group_map, group_unmap, group_expose, group_hide}
use Rattle.fab_store_rows.specs.declared.row_key.RowKey.{RowKey}
use Rattle.fab_store_rows.specs.declared.row_key.RowKey.TheVariants.{Alias, Zone, ZoneSet, ActiveSet, DefaultZone, HostGroup, StorageGroup}
use Rattle.fab_store_rows.specs.Keys.{HasKey}

-- the key at which a step changes rows
abbrev pub step_key : PlanStep → RowKey
step_key (alias_put f n ms) = Alias f n
step_key (alias_drop f n) = Alias f n
step_key (zone_put f n ms) = Zone f n
step_key (zone_drop f n) = Zone f n
step_key (set_put f n zs) = ZoneSet f n
step_key (set_drop f n) = ZoneSet f n
step_key (activate f s) = ActiveSet f
step_key (deactivate f) = ActiveSet f
step_key (default_zone f d) = DefaultZone f
step_key (host_group_put n t hs) = HostGroup n
step_key (host_group_drop n) = HostGroup n
step_key (group_new n t r) = StorageGroup n
step_key (group_drop n) = StorageGroup n
step_key (group_host n k) = StorageGroup n
step_key (group_unhost n k) = StorageGroup n
step_key (group_target n w) = StorageGroup n
step_key (group_untarget n w) = StorageGroup n
step_key (group_map n u v) = StorageGroup n
step_key (group_unmap n u) = StorageGroup n
step_key (group_expose n) = StorageGroup n
step_key (group_hide n) = StorageGroup n

-- the set has the key of each step
abbrev pub HasKeys : BTreeSet RowKey → List PlanStep → Type 0
HasKeys s steps = (step : PlanStep) → Contains steps step → HasKey s (step_key step)

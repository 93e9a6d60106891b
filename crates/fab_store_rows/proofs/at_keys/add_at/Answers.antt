use Rattle.std.specs.Option.{option_copied}
use Rattle.fab_store_rows.specs.Gathering.{Has}
use Rattle.fab_store_rows.proofs.KeysTold.{alias_rows, zone_rows, set_rows, host_group_rows, storage_group_rows}
use Rattle.fab_store_rows.proofs.at_keys.add_at.Goals as goal

pub returns-in_ok-add_named-in-Alias : goal.returns-in_ok-add_named-in-Alias
returns-in_ok-add_named-in-Alias g c =
    alias_rows c.args.config.now (option_copied c.args.without) c.in-Alias.fabric c.in-Alias.name (option_copied c.alias-items.result) c.zoning.result.now c.args.key.now (Has c.args.rows.now) (Has c.add_named.new.rows)
    c.in-Alias.is c.zoning.ensures c.alias-items.ensures c.in_ok-add_named-in-Alias.ensures

pub returns-in_ok-add_named-in-Zone : goal.returns-in_ok-add_named-in-Zone
returns-in_ok-add_named-in-Zone g c =
    zone_rows c.args.config.now (option_copied c.args.without) c.in-Zone.fabric c.in-Zone.name (option_copied c.zone-items.result) c.zoning-in-Zone.result.now c.args.key.now (Has c.args.rows.now) (Has c.add_named-in-Zone.new.rows)
    c.in-Zone.is c.zoning-in-Zone.ensures c.zone-items.ensures c.in_ok-add_named-in-Zone.ensures

pub returns-in_ok-add_named-in-ZoneSet : goal.returns-in_ok-add_named-in-ZoneSet
returns-in_ok-add_named-in-ZoneSet g c =
    set_rows c.args.config.now (option_copied c.args.without) c.in-ZoneSet.fabric c.in-ZoneSet.name (option_copied c.zone_set-items.result) c.zoning-in-ZoneSet.result.now c.args.key.now (Has c.args.rows.now) (Has c.add_named-in-ZoneSet.new.rows)
    c.in-ZoneSet.is c.zoning-in-ZoneSet.ensures c.zone_set-items.ensures c.in_ok-add_named-in-ZoneSet.ensures

pub returns-in_ok-add_host_group_at-in-HostGroup : goal.returns-in_ok-add_host_group_at-in-HostGroup
returns-in_ok-add_host_group_at-in-HostGroup g c =
    host_group_rows c.args.config.now (option_copied c.args.without) c.in-HostGroup.name c.mapping.result.now c.args.key.now (Has c.args.rows.now) (Has c.add_host_group_at.new.rows)
    c.in-HostGroup.is c.mapping.ensures c.in_ok-add_host_group_at-in-HostGroup.ensures

pub returns-in_ok-add_group_at-in-StorageGroup : goal.returns-in_ok-add_group_at-in-StorageGroup
returns-in_ok-add_group_at-in-StorageGroup g c =
    storage_group_rows c.args.config.now (option_copied c.args.without) c.in-StorageGroup.name c.mapping-in-StorageGroup.result.now c.args.key.now (Has c.args.rows.now) (Has c.add_group_at.new.rows)
    c.in-StorageGroup.is c.mapping-in-StorageGroup.ensures c.in_ok-add_group_at-in-StorageGroup.ensures

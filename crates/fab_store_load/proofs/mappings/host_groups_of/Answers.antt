use Rattle.std.proofs.Common.{sym, ◌∙◌}
use mathlib.Core.Bool.{true≢false}
use Rattle.std.specs.BTreeMap.{get}
use Rattle.std.specs.FinMap as map
use Rattle.fab_names.specs.Orders.{name_cmp}
use Rattle.fab_store_load.specs.Assembled.{host_group_at}
use Rattle.fab_store_load.proofs.MappingRows.{hosts_are_known, made_host_groups, only_host_groups, made_seen}
use Rattle.fab_store_load.proofs.mappings.host_groups_of.Goals as goal

pub returns-then-not-are_known-clause-only : goal.returns-then-not-are_known-clause-only
returns-then-not-are_known-clause-only g c m says =
    true≢false (sym (hosts_are_known c.args.rows.now c.args.tenants.now c.requires c.in_ok-hosts.hosts c.in_ok-hosts.ensures.rows c.in_ok-hosts.ensures.some m says) ∙ (sym c.are_known.ensures ∙ c.if-not-are_known.true))

pub returns-clause-rows : goal.returns-clause-rows
returns-clause-rows g c =
    made_host_groups c.args.rows.now c.args.tenants.now c.requires c.in_ok-hosts.hosts c.in_ok-hosts.ensures.rows (map.from_entries c.in_ok-groups.groups.entries)
    (made_seen c.in_ok-groups.groups (host_group_at c.in_ok-hosts.hosts) (get name_cmp c.args.tenants.now) c.in_ok-groups.ensures) (sym c.are_known.ensures ∙ c.if-not-are_known.false)

pub returns-clause-only : goal.returns-clause-only
returns-clause-only g c =
    only_host_groups c.args.rows.now c.args.tenants.now c.requires c.in_ok-hosts.hosts c.in_ok-hosts.ensures.rows (map.from_entries c.in_ok-groups.groups.entries)
    (made_seen c.in_ok-groups.groups (host_group_at c.in_ok-hosts.hosts) (get name_cmp c.args.tenants.now) c.in_ok-groups.ensures)

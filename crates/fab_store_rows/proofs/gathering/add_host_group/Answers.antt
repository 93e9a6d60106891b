use Rattle.std.specs.Option.{option_copied}
use Rattle.fab_store_rows.specs.Gathering.{Has}
use Rattle.fab_store_rows.proofs.TablesTold.{host_group_told}
use Rattle.fab_store_rows.proofs.gathering.add_host_group.Goals as goal

pub returns : goal.returns
returns g c =
    host_group_told (option_copied c.args.without) c.args.name.now c.args.group.now c.tenant.result c.hosts.result (Has c.args.rows.now) (Has c.add_row.new.rows) (Has c.add_set.new.rows) c.tenant.ensures c.hosts.ensures.hosts c.in_ok-add_row.ensures c.in_ok-add_set.ensures

use Rattle.std.specs.Option.{option_copied}
use Rattle.fab_reach_base.specs.fab_names.declared.fabric.Fabric.TheVariants.{A, B}
use Rattle.fab_store_rows.specs.Gathering.{Has}
use Rattle.fab_store_rows.proofs.TablesTold.{fabric_of, host_groups_of, groups_of, all_told}
use Rattle.fab_store_rows.proofs.gathering.add_all.Goals as goal

pub returns : goal.returns
returns g c =
    let o = option_copied c.args.without in
    let config = c.args.config.now in
    all_told config o (Has c.args.rows.now) (Has c.add_fabric.new.rows) (Has c.add_fabric-2.new.rows) (Has c.add_host_groups.new.rows) (Has c.add_groups.new.rows)
    (fabric_of o A c.zoning.result.now config.a (Has c.args.rows.now) (Has c.add_fabric.new.rows) c.zoning.ensures c.in_ok-add_fabric.ensures)
    (fabric_of o B c.zoning-2.result.now config.b (Has c.add_fabric.new.rows) (Has c.add_fabric-2.new.rows) c.zoning-2.ensures c.in_ok-add_fabric-2.ensures)
    (host_groups_of o c.mapping.result.now config.mapping (Has c.add_fabric-2.new.rows) (Has c.add_host_groups.new.rows) c.mapping.ensures c.in_ok-add_host_groups.ensures)
    (groups_of o c.mapping-2.result.now config.mapping (Has c.add_host_groups.new.rows) (Has c.add_groups.new.rows) c.mapping-2.ensures c.in_ok-add_groups.ensures)

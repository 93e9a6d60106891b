use Rattle.std.specs.Option.{option_copied}
use Rattle.fab_store_rows.specs.Gathering.{Has}
use Rattle.fab_store_rows.proofs.TablesTold.{fabric_told}
use Rattle.fab_store_rows.proofs.gathering.add_fabric.Goals as goal

pub returns : goal.returns
returns g c =
    fabric_told (option_copied c.args.without) c.args.fabric c.args.zoning.now (Has c.args.rows.now) (Has c.add_definitions.new.rows) (Has c.add_active.new.rows) (Has c.add_settings.new.rows)
    c.in_ok-add_definitions.ensures c.in_ok-add_active.ensures c.in_ok-add_settings.ensures

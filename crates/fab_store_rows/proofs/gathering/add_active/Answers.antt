use Rattle.std.specs.Option.{option_copied}
use Rattle.fab_store_rows.specs.Gathering.{Has}
use Rattle.fab_store_rows.proofs.TablesTold.{active_told}
use Rattle.fab_store_rows.proofs.gathering.add_active.Goals as goal

pub returns : goal.returns
returns g c = active_told (option_copied c.args.without) c.args.fabric c.args.zoning.now c.active_zones.result (Has c.args.rows.now) (Has c.add_sets.new.rows) c.active_zones.ensures.rows c.in_ok-add_sets.ensures

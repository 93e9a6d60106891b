use Rattle.std.specs.Option.{option_copied}
use Rattle.fab_reach_base.proofs.fab_names.OrderLaws.{name_total, name_exact, member_total, member_exact}
use Rattle.fab_store_rows.specs.Gathering.{Has, alias_row, zone_row, set_row}
use Rattle.fab_store_rows.proofs.TablesTold.{sets_told, definitions_told}
use Rattle.fab_store_rows.proofs.gathering.add_definitions.Goals as goal

pub returns : goal.returns
returns g c =
    let o = option_copied c.args.without in
    let f = c.args.fabric in
    let v = c.args.zoning.now in
    definitions_told o f v (Has c.args.rows.now) (Has c.add_sets.new.rows) (Has c.add_sets-2.new.rows) (Has c.add_sets-3.new.rows)
    (sets_told name_total name_exact member_total member_exact (λ n m. alias_row f (n, m)) o c.aliases.result v.aliases (Has c.args.rows.now) (Has c.add_sets.new.rows) c.aliases.ensures.aliases c.aliases.ensures.ordered c.in_ok-add_sets.ensures)
    (sets_told name_total name_exact member_total member_exact (λ n m. zone_row f (n, m)) o c.zones.result v.zones (Has c.add_sets.new.rows) (Has c.add_sets-2.new.rows) c.zones.ensures.zones c.zones.ensures.ordered c.in_ok-add_sets-2.ensures)
    (sets_told name_total name_exact name_total name_exact (λ n z. set_row f (n, z)) o c.zone_sets.result v.sets (Has c.add_sets-2.new.rows) (Has c.add_sets-3.new.rows) c.zone_sets.ensures.sets c.zone_sets.ensures.ordered c.in_ok-add_sets-3.ensures)

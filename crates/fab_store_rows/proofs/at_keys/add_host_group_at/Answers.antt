use Rattle.std.proofs.Common.{sym, ap, ◌∙◌}
use Rattle.std.specs.FinMap as map
use Rattle.std.specs.Option.{option_copied}
use Rattle.fab_store_rows.specs.Gathering.{Has, IsHostGroupRow}
use Rattle.fab_store_rows.proofs.KeysTold.{found_told}
use Rattle.fab_store_rows.proofs.at_keys.add_host_group_at.Goals as goal

pub returns-in_ok-add_host_group_lacking : goal.returns-in_ok-add_host_group_lacking
returns-in_ok-add_host_group_lacking g c =
    let n = c.args.name.now in
    found_told (IsHostGroupRow n) (option_copied c.args.without) (map.get c.args.mapping.now.host_groups n) c.in-Some.group.now (Has c.args.rows.now) (Has c.add_host_group_lacking.new.rows)
    (sym c.host_group.ensures ∙ ap option_copied c.in-Some.is) c.in_ok-add_host_group_lacking.ensures

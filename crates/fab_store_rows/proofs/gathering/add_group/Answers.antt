use Rattle.std.proofs.Common.{◌≡◌}
use Rattle.std.specs.Cmp.{nat_cmp_total}
use Rattle.std.specs.FinSet as set
use Rattle.std.specs.Option.{option_copied}
use Rattle.fab_reach_base.proofs.fab_names.OrderLaws.{name_total, name_exact}
use Rattle.fab_store_rows.specs.Gathering.{Has, host_group_row, target_row, unit_row}
use Rattle.fab_store_rows.proofs.TablesTold.{group_told, items_told, entries_told}
use Rattle.fab_store_rows.proofs.gathering.add_group.Goals as goal

pub returns : goal.returns
returns g c =
    let o = option_copied c.args.without in
    let n = c.args.name.now in
    let group = c.args.group.now in
    group_told o n group (Has c.args.rows.now) (Has c.add_head.new.rows) (Has c.add_set.new.rows) (Has c.add_set-2.new.rows) (Has c.add_units.new.rows) c.in_ok-add_head.ensures
    (items_told name_total name_exact (λ k. host_group_row (n, k)) o c.host_groups.result group.host_groups (Has c.add_head.new.rows) (Has c.add_set.new.rows) c.host_groups.ensures.host_groups c.in_ok-add_set.ensures)
    (items_told nat_cmp_total set.nat_cmp-IsAntisymmetric (λ q. target_row (n, q)) o c.targets.result group.targets (Has c.add_set.new.rows) (Has c.add_set-2.new.rows) c.targets.ensures.targets c.in_ok-add_set-2.ensures)
    (entries_told nat_cmp_total set.nat_cmp-IsAntisymmetric (λ e r. r ≡ unit_row n e) o c.units.result group.units (Has c.add_set-2.new.rows) (Has c.add_units.new.rows) c.units.ensures c.in_ok-add_units.ensures)

use Rattle.std.proofs.Common.{ℕ}
use Rattle.std.specs.Option.{option_copied}
use Rattle.std.specs.Ordering.{nat_cmp}
use Rattle.fab_lemmas.specs.MapsOfSets.{in_tree}
use Rattle.fab_names.specs.Orders.{name_cmp}
use Rattle.fab_reach_base.specs.Views.{seen}
use Rattle.fab_reach_books.specs.Inner.Sets.{HasPortIn}
use Rattle.fab_reach_books.proofs.SetLoops.{from_nothing}
use Rattle.fab_reach_books.specs.Rows.{Stands}
use Rattle.fab_reach_moves.specs.Inner.Listing.{target_row}
use Rattle.fab_reach_moves.proofs.ListsAfter.{said_at, rows_after}
use Rattle.fab_reach_moves.proofs.lists_after.targets_after.Goals as goal

pub returns : goal.returns
returns g c v t =
    let n = c.args.name.now in
    let gone = option_copied c.get.result in
    let come = option_copied c.get-2.result in
    from_nothing (λ (q : ℕ). Stands v (target_row n q)) c.new-ports.result c.add_some_ports.new.ports c.new-ports.ensures.empty
    (rows_after (seen c.args.before.now) v t.gone t.come t.diff (target_row n) (λ (q : ℕ). in_tree nat_cmp gone q) (λ (q : ℕ). in_tree nat_cmp come q) (HasPortIn c.new-ports.result) (HasPortIn c.add_targets_before.new.ports) (HasPortIn c.add_some_ports.new.ports)
    (said_at name_cmp nat_cmp t.gone target_row c.args.told.now.gone.targets t.left.targets n gone c.get.ensures.value)
    (said_at name_cmp nat_cmp t.come target_row c.args.told.now.come.targets t.new.targets n come c.get-2.ensures.value)
    c.in_ok-add_targets_before.ensures c.in_ok-add_some_ports.ensures)

use Rattle.std.proofs.Common.{ℕ}
use Rattle.std.specs.BTreeSet.{contains}
use Rattle.std.specs.Ordering.{nat_cmp}
use Rattle.fab_reach_base.specs.Views.{seen}
use Rattle.fab_reach_books.specs.Inner.Sets.{HasPortIn}
use Rattle.fab_reach_books.proofs.SetLoops.{from_nothing}
use Rattle.fab_reach_books.specs.Rows.{Stands}
use Rattle.fab_reach_moves.specs.Inner.Listing.{target_row}
use Rattle.fab_reach_moves.proofs.ListsAfter.{all_left, no_ports}
use Rattle.fab_reach_moves.proofs.lists_after.targets_before.Goals as goal

pub returns : goal.returns
returns g c =
    from_nothing (λ (q : ℕ). Stands (seen c.args.before.now) (target_row c.args.name.now q)) c.new-ports.result c.add_targets_before.new.ports c.new-ports.ensures.empty
    (all_left (λ (q : ℕ). Stands (seen c.args.before.now) (target_row c.args.name.now q)) (contains nat_cmp c.new-none.result) (HasPortIn c.new-ports.result) (HasPortIn c.add_targets_before.new.ports) (no_ports c.new-none.result c.new-none.ensures.empty) c.in_ok-add_targets_before.ensures)

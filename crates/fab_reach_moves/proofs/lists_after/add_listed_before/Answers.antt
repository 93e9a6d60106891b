use Rattle.std.proofs.Common.{ℕ, List}
use Rattle.std.specs.BTreeSet.{contains}
use Rattle.fab_names.specs.Orders.{name_cmp}
use Rattle.fab_reach_base.specs.Views.{seen}
use Rattle.fab_reach_books.specs.Inner.Sets.{HasName}
use Rattle.fab_reach_books.specs.Rows.{Stands}
use Rattle.fab_reach_moves.specs.Inner.Listing.{name_row}
use Rattle.fab_reach_moves.proofs.ListsAfter.{all_left, no_names}
use Rattle.fab_reach_moves.proofs.lists_after.add_listed_before.Goals as goal

pub returns : goal.returns
returns g c = all_left (λ (x : List ℕ). Stands (seen c.args.before.now) (name_row c.args.listed.now x)) (contains name_cmp c.new-none.result) (HasName c.args.names.now) (HasName c.add_listed_but.new.names) (no_names c.new-none.result c.new-none.ensures.empty) c.in_ok-add_listed_but.ensures

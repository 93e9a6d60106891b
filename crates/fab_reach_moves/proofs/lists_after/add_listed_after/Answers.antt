use Rattle.std.proofs.Common.{ℕ, List}
use Rattle.std.specs.Option.{option_copied}
use Rattle.fab_lemmas.specs.MapsOfSets.{in_tree}
use Rattle.fab_names.specs.Orders.{name_cmp}
use Rattle.fab_reach_base.specs.Views.{seen}
use Rattle.fab_reach_books.specs.Inner.Sets.{HasName}
use Rattle.fab_reach_moves.specs.Inner.Listing.{name_row}
use Rattle.fab_reach_moves.proofs.ListsAfter.{rows_after}
use Rattle.fab_reach_moves.proofs.lists_after.add_listed_after.Goals as goal

pub returns : goal.returns
returns g c v t =
    rows_after (seen c.args.before.now) v t.gone t.come t.diff (name_row c.args.listed.now) (λ (x : List ℕ). in_tree name_cmp (option_copied c.said_names-gone.result) x) (λ (x : List ℕ). in_tree name_cmp (option_copied c.said_names-come.result) x)
    (HasName c.args.names.now) (HasName c.add_listed_but.new.names) (HasName c.add_some_names.new.names) (c.said_names-gone.ensures t.gone t.left) (c.said_names-come.ensures t.come t.new) c.in_ok-add_listed_but.ensures c.in_ok-add_some_names.ensures

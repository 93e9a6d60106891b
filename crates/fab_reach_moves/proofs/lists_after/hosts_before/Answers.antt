use Rattle.std.proofs.Common.{ℕ, List}
use Rattle.fab_reach_base.specs.Views.{seen}
use Rattle.fab_reach_books.specs.Inner.Sets.{HasName}
use Rattle.fab_reach_books.proofs.SetLoops.{names_from_nothing}
use Rattle.fab_reach_books.specs.Rows.{Stands}
use Rattle.fab_reach_moves.specs.Inner.Listing.{name_row}
use Rattle.fab_reach_moves.specs.declared.lists_after.Listed.TheVariants.{Hosts}
use Rattle.fab_reach_moves.proofs.ListsAfter.{hosts_are}
use Rattle.fab_reach_moves.proofs.lists_after.hosts_before.Goals as goal

pub returns : goal.returns
returns g c =
    let w = seen c.args.before.now in
    hosts_are w c.args.name.now c.in_ok-groups.groups c.add_hosts_before.new.hosts c.in_ok-groups.ensures
    (names_from_nothing (λ (h : List ℕ). (k : List ℕ) × HasName c.in_ok-groups.groups k × Stands w (name_row (Hosts k) h)) c.new-hosts.result c.add_hosts_before.new.hosts c.new-hosts.ensures.empty c.in_ok-add_hosts_before.ensures)

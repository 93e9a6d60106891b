use Rattle.std.proofs.Common.{ℕ, List}
use Rattle.fab_reach_books.specs.Rows.{Stands}
use Rattle.fab_reach_moves.specs.declared.lists_after.Listed.TheVariants.{Hosts}
use Rattle.fab_reach_books.specs.Inner.Sets.{HasName}
use Rattle.fab_reach_moves.specs.Inner.Listing.{name_row}
use Rattle.fab_reach_books.proofs.SetLoops.{names_from_nothing}
use Rattle.fab_reach_moves.proofs.ListsAfter.{hosts_are}
use Rattle.fab_reach_moves.proofs.lists_after.hosts_after.Goals as goal

pub returns : goal.returns
returns g c v d = hosts_are v c.args.name.now c.in_ok-groups.groups c.add_hosts_after.new.hosts (c.in_ok-groups.ensures v d)
    (names_from_nothing (λ (h : List ℕ). (k : List ℕ) × HasName c.in_ok-groups.groups k × Stands v (name_row (Hosts k) h)) c.new-hosts.result c.add_hosts_after.new.hosts c.new-hosts.ensures.empty (c.in_ok-add_hosts_after.ensures v d))

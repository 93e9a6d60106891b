use Rattle.std.proofs.Common.{◌≡◌, Contains, true, sym, subst}
use Rattle.std.specs.Option.{option_copied}
use Rattle.fab_lemmas.specs.MapsOfSets.{in_tree}
use Rattle.fab_names.specs.Orders.{name_cmp}
use Rattle.fab_reach_moves.specs.Inner.Listing.{name_row}
use Rattle.fab_reach_moves.specs.declared.lists_after.Listed.{Listed}
use Rattle.fab_reach_moves.specs.declared.lists_after.Listed.TheVariants.{HostGroups, Hosts}
use Rattle.fab_reach_moves.proofs.ListsAfter.{said_at}
use Rattle.fab_reach_moves.proofs.lists_after.said_names.Goals as goal

pub returns-in-HostGroups : goal.returns-in-HostGroups
returns-in-HostGroups g c rows s x =
    let names = option_copied c.get.result in
    subst (λ (l : Listed). (in_tree name_cmp names x ≡ true → Contains rows (name_row l x)) × (Contains rows (name_row l x) → in_tree name_cmp names x ≡ true)) (sym c.in-HostGroups.is)
    (said_at name_cmp name_cmp rows (λ k h. name_row (HostGroups k) h) c.args.side.now.host_groups s.host_groups c.in-HostGroups.name names c.get.ensures.value x)

pub returns-in-Hosts : goal.returns-in-Hosts
returns-in-Hosts g c rows s x =
    let names = option_copied c.get-in-Hosts.result in
    subst (λ (l : Listed). (in_tree name_cmp names x ≡ true → Contains rows (name_row l x)) × (Contains rows (name_row l x) → in_tree name_cmp names x ≡ true)) (sym c.in-Hosts.is)
    (said_at name_cmp name_cmp rows (λ k h. name_row (Hosts k) h) c.args.side.now.hosts s.hosts c.in-Hosts.name names c.get-in-Hosts.ensures.value x)

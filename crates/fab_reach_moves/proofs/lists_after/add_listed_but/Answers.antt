use Rattle.std.proofs.Common.{◌≡◌, ℕ, List, true, false, sym, ap, ◌∙◌, subst}
use Rattle.std.specs.FinMap as map
use Rattle.std.specs.FinSet as set
use Rattle.std.specs.Option.{option_copied}
use Rattle.fab_lemmas.specs.MapsOfSets.{in_tree}
use Rattle.fab_mapping.specs.Mappings.{MappingRows}
use Rattle.fab_names.specs.Orders.{name_cmp}
use Rattle.fab_reach_base.specs.Adding.{Adds}
use Rattle.fab_reach_base.specs.Views.{seen}
use Rattle.fab_reach_books.specs.Inner.Sets.{HasName}
use Rattle.fab_reach_books.specs.Rows.{Stands}
use Rattle.fab_reach_moves.specs.Inner.Listing.{name_row}
use Rattle.fab_reach_moves.specs.declared.lists_after.Listed.{Listed}
use Rattle.fab_reach_moves.specs.declared.lists_after.Listed.TheVariants.{HostGroups, Hosts}
use Rattle.fab_reach_moves.proofs.ListsAfter.{stand_left, host_groups_stand, hosts_stand}
use Rattle.fab_reach_moves.proofs.lists_after.add_listed_but.Goals as goal

pub returns-in_ok-add_host_groups_but-in-HostGroups : goal.returns-in_ok-add_host_groups_but-in-HostGroups
returns-in_ok-add_host_groups_but-in-HostGroups g c =
    let gone = λ (x : List ℕ). in_tree name_cmp (option_copied c.args.gone) x in
    subst (λ (l : Listed). Adds (λ (x : List ℕ). Stands (seen c.args.before.now) (name_row l x) × (gone x ≡ false)) (HasName c.args.names.now) (HasName c.add_host_groups_but.new.names)) (sym c.in-HostGroups.is)
    (stand_left gone (λ x. set.contains c.in-Some.group.now.host_groups x ≡ true) (λ x. Stands (seen c.args.before.now) (name_row (HostGroups c.in-HostGroups.name) x)) (HasName c.args.names.now) (HasName c.add_host_groups_but.new.names)
    (host_groups_stand (seen c.args.before.now) c.in-HostGroups.name c.in-Some.group.now (ap (λ (m : MappingRows). map.get m.groups c.in-HostGroups.name) (sym c.mapping.ensures) ∙ sym c.in-Some.ensures)) c.in_ok-add_host_groups_but-in-HostGroups.ensures)

pub returns-in_ok-add_hosts_but-in-Hosts : goal.returns-in_ok-add_hosts_but-in-Hosts
returns-in_ok-add_hosts_but-in-Hosts g c =
    let gone = λ (x : List ℕ). in_tree name_cmp (option_copied c.args.gone) x in
    subst (λ (l : Listed). Adds (λ (x : List ℕ). Stands (seen c.args.before.now) (name_row l x) × (gone x ≡ false)) (HasName c.args.names.now) (HasName c.add_hosts_but.new.names)) (sym c.in-Hosts.is)
    (stand_left gone (λ x. set.contains c.in-Some-host_group.group.now.hosts x ≡ true) (λ x. Stands (seen c.args.before.now) (name_row (Hosts c.in-Hosts.name) x)) (HasName c.args.names.now) (HasName c.add_hosts_but.new.names)
    (hosts_stand (seen c.args.before.now) c.in-Hosts.name c.in-Some-host_group.group.now (ap (λ (m : MappingRows). map.get m.host_groups c.in-Hosts.name) (sym c.mapping-in-Hosts.ensures) ∙ sym c.in-Some-host_group.ensures)) c.in_ok-add_hosts_but-in-Hosts.ensures)

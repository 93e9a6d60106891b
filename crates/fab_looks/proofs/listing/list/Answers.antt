use Rattle.std.proofs.Common.{IfOk, refl, sym, subst}
use Rattle.fab_reach_base.specs.Records.{zoning_at}
use Rattle.fab_looks.specs.Lists.{IsListing}
use Rattle.fab_looks.specs.declared.listing.Kind.{Kind}
use Rattle.fab_looks.specs.declared.listing.Kind.TheVariants as kinds
use Rattle.fab_looks.proofs.Opens.{listing_of, host_there, array_there, volume_there, host_group_there, group_there}
use Rattle.fab_looks.proofs.listing.list.Goals as goal

pub returns-in-Hosts : goal.returns-in-Hosts
returns-in-Hosts g c =
    let w = c.args.world.now in
    listing_of c.args.policy.now w c.args.id c.args.kind kinds.Hosts w.inventory.holders c.holders_of.result c.open_names.result c.in-Hosts.is c.holders_of.ensures (host_there c.args.policy.now w c.args.id) c.open_names.ensures

pub returns-in-Arrays : goal.returns-in-Arrays
returns-in-Arrays g c =
    let w = c.args.world.now in
    listing_of c.args.policy.now w c.args.id c.args.kind kinds.Arrays w.inventory.holders c.holders_of-in-Arrays.result c.open_names-in-Arrays.result c.in-Arrays.is c.holders_of-in-Arrays.ensures (array_there c.args.policy.now w c.args.id) c.open_names-in-Arrays.ensures

pub returns-in-Volumes : goal.returns-in-Volumes
returns-in-Volumes g c =
    let w = c.args.world.now in
    listing_of c.args.policy.now w c.args.id c.args.kind kinds.Volumes w.inventory.volumes c.volumes_of.result c.open_names-in-Volumes.result c.in-Volumes.is c.volumes_of.ensures (volume_there c.args.policy.now w c.args.id) c.open_names-in-Volumes.ensures

pub returns-in-HostGroups : goal.returns-in-HostGroups
returns-in-HostGroups g c =
    let w = c.args.world.now in
    listing_of c.args.policy.now w c.args.id c.args.kind kinds.HostGroups w.config.mapping.host_groups c.host_groups_of.result c.open_names-in-HostGroups.result c.in-HostGroups.is c.host_groups_of.ensures (host_group_there c.args.policy.now w c.args.id) c.open_names-in-HostGroups.ensures

pub returns-in-Groups : goal.returns-in-Groups
returns-in-Groups g c =
    let w = c.args.world.now in
    listing_of c.args.policy.now w c.args.id c.args.kind kinds.Groups w.config.mapping.groups c.groups_of.result c.open_names-in-Groups.result c.in-Groups.is c.groups_of.ensures (group_there c.args.policy.now w c.args.id) c.open_names-in-Groups.ensures

pub returns-in-Plans : goal.returns-in-Plans
returns-in-Plans g c =
    let w = c.args.world.now in
    listing_of c.args.policy.now w c.args.id c.args.kind kinds.Plans w.plans c.plans_of.result c.open_names-in-Plans.result c.in-Plans.is c.plans_of.ensures (λ _ h. h) c.open_names-in-Plans.ensures

pub returns-in-Aliases : goal.returns-in-Aliases
returns-in-Aliases g c =
    let w = c.args.world.now in
    let kind = kinds.Aliases c.in-Aliases.fabric in
    subst (λ (k : Kind). IfOk c.open_names-in-Aliases.result (IsListing c.args.policy.now w c.args.id k)) (sym c.in-Aliases.is)
    (listing_of c.args.policy.now w c.args.id kind kind (zoning_at w.config c.in-Aliases.fabric).aliases c.aliases_of.result c.open_names-in-Aliases.result refl c.aliases_of.ensures (λ _ h. h) c.open_names-in-Aliases.ensures)

pub returns-in-Zones : goal.returns-in-Zones
returns-in-Zones g c =
    let w = c.args.world.now in
    let kind = kinds.Zones c.in-Zones.fabric in
    subst (λ (k : Kind). IfOk c.open_names-in-Zones.result (IsListing c.args.policy.now w c.args.id k)) (sym c.in-Zones.is)
    (listing_of c.args.policy.now w c.args.id kind kind (zoning_at w.config c.in-Zones.fabric).zones c.zones_of.result c.open_names-in-Zones.result refl c.zones_of.ensures (λ _ h. h) c.open_names-in-Zones.ensures)

pub returns-in-Sets : goal.returns-in-Sets
returns-in-Sets g c =
    let w = c.args.world.now in
    let kind = kinds.Sets c.in-Sets.fabric in
    subst (λ (k : Kind). IfOk c.open_names-in-Sets.result (IsListing c.args.policy.now w c.args.id k)) (sym c.in-Sets.is)
    (listing_of c.args.policy.now w c.args.id kind kind (zoning_at w.config c.in-Sets.fabric).sets c.sets_of.result c.open_names-in-Sets.result refl c.sets_of.ensures (λ _ h. h) c.open_names-in-Sets.ensures)

use Rattle.std.proofs.Common.{◌≡◌, Some, refl, sym, subst}
use Rattle.std.specs.FinMap as map
use Rattle.fab_reach_base.proofs.fab_names.OrderLaws.{name_total, name_exact}
use Rattle.fab_reach_base.specs.fab_mapping_base.Groups.{HostGroupRows}
use Rattle.fab_reach_base.specs.fab_mapping.Mappings.{MappingRows}
use Rattle.fab_desk_base.proofs.SetItems.{keys_listed}
use Rattle.fab_desk_base.proofs.groups.host_group_shown.Goals as goal

pub returns : goal.returns
returns g c =
    let group : HostGroupRows = c.in-Some.group.now in
    let there : map.get c.args.world.now.config.mapping.host_groups c.args.name.now ≡ Some group = subst (λ (m : MappingRows). map.get m.host_groups c.args.name.now ≡ Some group) c.mapping_in-mapping.ensures (sym c.in-Some.ensures) in
    let hosts = keys_listed name_total name_exact c.hosts.result c.in_ok-hosts.hosts.items group.hosts c.hosts.ensures.hosts c.hosts.ensures.ordered c.in_ok-hosts.ensures in
    ((group.tenant, (group, there, refl)), (group, there, refl, c.tenant.ensures, hosts))

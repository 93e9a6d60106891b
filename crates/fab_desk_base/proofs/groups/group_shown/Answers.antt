use Rattle.std.proofs.Common.{◌≡◌, Some, refl, sym, ◌∙◌, subst}
use Rattle.std.specs.Cmp.{nat_cmp_total}
use Rattle.std.specs.FinMap as map
use Rattle.std.specs.FinSet as set
use Rattle.fab_reach_base.proofs.fab_names.OrderLaws.{name_total, name_exact}
use Rattle.fab_reach_base.specs.fab_mapping_base.Groups.{StorageGroupRows}
use Rattle.fab_reach_base.specs.fab_mapping.Mappings.{MappingRows}
use Rattle.fab_desk_base.specs.Showing.{AreParts}
use Rattle.fab_desk_base.proofs.SetItems.{keys_listed}
use Rattle.fab_desk_base.proofs.groups.group_shown.Goals as goal

pub returns : goal.returns
returns g c =
    let group : StorageGroupRows = c.in-Some.group.now in
    let there : map.get c.args.world.now.config.mapping.groups c.args.name.now ≡ Some group = subst (λ (m : MappingRows). map.get m.groups c.args.name.now ≡ Some group) c.mapping_in-mapping.ensures (sym c.in-Some.ensures) in
    let parts : AreParts group c.in_ok-host_groups.host_groups.items c.in_ok-targets.targets.items c.in_ok-units.units.items = record {
      host_groups_are = keys_listed name_total name_exact c.host_groups.result c.in_ok-host_groups.host_groups.items group.host_groups c.host_groups.ensures.host_groups c.host_groups.ensures.ordered c.in_ok-host_groups.ensures;
      targets_are = keys_listed nat_cmp_total set.nat_cmp-IsAntisymmetric c.targets.result c.in_ok-targets.targets.items group.targets c.targets.ensures.targets c.targets.ensures.ordered c.in_ok-targets.ensures;
      units_are = c.in_ok-units.ensures ∙ c.units.ensures;
    } in
    ((group.tenant, (group, there, refl)), (group, there, refl, c.tenant.ensures, c.array.ensures, c.is_exposed.ensures, parts))

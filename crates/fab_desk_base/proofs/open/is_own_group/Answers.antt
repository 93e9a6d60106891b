use Rattle.std.proofs.Common.{◌≡◌, Some, refl, sym, ap, ◌∙◌, subst}
use Rattle.std.specs.FinMap as map
use Rattle.fab_reach_base.specs.fab_mapping_base.Groups.{StorageGroupRows}
use Rattle.fab_reach_base.specs.fab_mapping.Mappings.{MappingRows}
use Rattle.fab_policy.specs.fab_policy_base.Callers.{sees}
use Rattle.fab_reach_base.proofs.Same.{same_some}
use Rattle.fab_desk_base.proofs.open.is_own_group.Goals as goal

pub returns : goal.returns
returns g c =
    let group : StorageGroupRows = c.in-Some.group.now in
    let is_seen = sees c.args.policy.now c.args.id in
    let there : map.get c.args.world.now.config.mapping.groups c.args.name.now ≡ Some group = subst (λ (m : MappingRows). map.get m.groups c.args.name.now ≡ Some group) c.mapping_in.ensures (sym c.in-Some.ensures) in
    let seen : c.has_tenant.result ≡ is_seen group.tenant = c.has_tenant.ensures ∙ ap is_seen c.tenant.ensures in (
      λ t. (group.tenant, (group, there, refl), sym seen ∙ t),
      λ h. seen ∙ ap (λ (x : StorageGroupRows). is_seen x.tenant) (same_some there h.1.1) ∙ ap is_seen h.1.2 ∙ h.2,
    )

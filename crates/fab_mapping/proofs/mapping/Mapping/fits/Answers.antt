use Rattle.std.proofs.Common.{sym, ap, ◌∙◌, subst}
use mathlib.Core.Bool.{true≢false}
use Rattle.fab_mapping_base.proofs.fab_names.OrderLaws.{name_total}
use Rattle.fab_mapping_base.proofs.fab_lemmas.SeenMaps.{same_look_ups}
use Rattle.fab_mapping.specs.Mappings.{MappingRows}
use Rattle.fab_mapping.specs.Soundness.{Each, HasHosts, GroupFits}
use Rattle.fab_mapping.proofs.mapping.Mapping.fits.Goals as goal

pub returns-then-not-have_hosts : goal.returns-then-not-have_hosts
returns-then-not-have_hosts g c =
    let host_groups = same_look_ups name_total c.self.inside.host_groups c.args.self.now.host_groups (ap (λ (v : MappingRows). v.host_groups) c.self.view_is) in
    (λ t. absurd (true≢false (sym t)), λ h. absurd (true≢false (sym (c.have_hosts.ensures.1 (subst (λ at. Each at (HasHosts c.args.inventory.now)) (sym host_groups) h.host_groups)) ∙ c.if-not-have_hosts.true)))

pub returns : goal.returns
returns g c =
    let host_groups = same_look_ups name_total c.self.inside.host_groups c.args.self.now.host_groups (ap (λ (v : MappingRows). v.host_groups) c.self.view_is) in
    let groups = same_look_ups name_total c.self.inside.groups c.args.self.now.groups (ap (λ (v : MappingRows). v.groups) c.self.view_is) in (
      λ t. record {
        host_groups = subst (λ at. Each at (HasHosts c.args.inventory.now)) host_groups (c.have_hosts.ensures.0 c.if-not-have_hosts.false);
        groups = subst (λ at. Each at (GroupFits c.args.inventory.now)) groups (c.groups_fit.ensures.0 t);
      },
      λ h. c.groups_fit.ensures.1 (subst (λ at. Each at (GroupFits c.args.inventory.now)) (sym groups) h.groups),
    )

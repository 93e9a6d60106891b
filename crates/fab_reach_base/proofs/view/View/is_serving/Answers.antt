use Rattle.std.proofs.Common.{◌≡◌, sym, ◌∙◌, subst}
use mathlib.Core.Bool.{true≢false}
use Rattle.fab_mapping.specs.fab_mapping_base.fab_names.declared.fabric.Fabric.{Fabric}
use Rattle.fab_mapping.specs.fab_mapping_base.fab_names.declared.fabric.Fabric.TheVariants.{A, B}
use Rattle.fab_mapping.specs.Mappings.{MappingRows}
use Rattle.fab_reach_base.specs.Records.{ConfigRows, zoning_at}
use Rattle.fab_reach_base.specs.Serving.{HaveHosts, HaveTargets}
use Rattle.fab_reach_base.specs.Views.{seen}
use Rattle.fab_reach_base.proofs.view.View.is_serving.Goals as goal

pub returns-then-not-is_own : goal.returns-then-not-is_own
returns-then-not-is_own g c = (λ t. absurd (true≢false (sym t)), λ h. absurd (true≢false (sym (c.is_own.ensures.1 (h.fabrics A)) ∙ c.if-not-is_own.true)))

pub returns-then-not-is_own-2 : goal.returns-then-not-is_own-2
returns-then-not-is_own-2 g c = (λ t. absurd (true≢false (sym t)), λ h. absurd (true≢false (sym (c.is_own-2.ensures.1 (h.fabrics B)) ∙ c.if-not-is_own-2.true)))

pub returns-then-not-have_hosts : goal.returns-then-not-have_hosts
returns-then-not-have_hosts g c = (
  λ t. absurd (true≢false (sym t)),
  λ h. absurd (true≢false (sym (c.have_hosts.ensures.1 (subst (λ (m : MappingRows). HaveHosts (seen c.args.self.now).inventory m) (sym c.mapping-mapping.ensures) h.hosts)) ∙ c.if-not-have_hosts.true)),
)

both : (config : ConfigRows) → (zoning_at config A).fabric ≡ A → (zoning_at config B).fabric ≡ B → (f : Fabric) → (zoning_at config f).fabric ≡ f
both config a b A = a
both config a b B = b

pub returns : goal.returns
returns g c = (
  λ t. record {
    fabrics = both (seen c.args.self.now).config (c.is_own.ensures.0 c.if-not-is_own.false) (c.is_own-2.ensures.0 c.if-not-is_own-2.false);
    hosts = subst (λ (m : MappingRows). HaveHosts (seen c.args.self.now).inventory m) c.mapping-mapping.ensures (c.have_hosts.ensures.0 c.if-not-have_hosts.false);
    targets = subst (λ (m : MappingRows). HaveTargets (seen c.args.self.now).inventory m) c.mapping-mapping.ensures (c.have_targets.ensures.0 t);
  },
  λ h. c.have_targets.ensures.1 (subst (λ (m : MappingRows). HaveTargets (seen c.args.self.now).inventory m) (sym c.mapping-mapping.ensures) h.targets),
)

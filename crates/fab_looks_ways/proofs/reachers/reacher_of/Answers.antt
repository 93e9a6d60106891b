use Rattle.std.proofs.Common.{ℕ, List, ap, ◌∙◌, subst, refl}
use Rattle.std.specs.Ordering.{nat_cmp}
use Rattle.fab_reach_base.specs.fab_lemmas.Lists.{IsListOf}
use Rattle.fab_reach_base.specs.fab_mapping.Mappings.{MappingRows}
use Rattle.fab_reach_base.specs.fab_names.Orders.{name_cmp}
use Rattle.fab_world.specs.Worlds.{WorldRows}
use Rattle.fab_looks_ways.specs.Inner.Offers.{IsOfferOf}
use Rattle.fab_looks_ways.specs.Offers.{IsUnitOfSome}
use Rattle.fab_looks_ways.proofs.reachers.reacher_of.Goals as goal

pub returns : goal.returns
returns g c =
    let there = c.mapping-mapping.ensures ∙ ap (λ (v : WorldRows). v.config.mapping) c.world.view_is in
    let groups = c.in_ok-groups.groups.items in
    let units = c.in_ok-units.units.items in
    record {
      host_is = refl;
      tenant_is = c.tenant_of.ensures;
      counts_are = refl;
      groups_are = subst (λ (m : MappingRows). IsListOf name_cmp (IsOfferOf m c.args.groups.now c.args.host.now) groups) there c.in_ok-groups.ensures;
      units_are = subst (λ (m : MappingRows). IsListOf nat_cmp (IsUnitOfSome m c.args.volume.now groups) units) there (subst (λ (ns : List (List ℕ)). IsListOf nat_cmp (IsUnitOfSome c.mapping-mapping.result.now c.args.volume.now ns) units) c.deref.ensures.value c.in_ok-units.ensures);
    }

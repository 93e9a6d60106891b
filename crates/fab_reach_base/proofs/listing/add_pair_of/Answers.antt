use Rattle.std.proofs.Common.{◌∷◌, [], ◌++◌, ap, ◌∙◌, subst}
use Rattle.std.specs.Option.{option_copied}
use Rattle.fab_mapping.proofs.fab_mapping_base.fab_lemmas.Walks.{walked, walk_end}
use Rattle.fab_mapping.specs.Mappings.{MappingRows}
use Rattle.fab_reach_base.specs.Adding.{Adds}
use Rattle.fab_reach_base.specs.Orders.{Has}
use Rattle.fab_reach_base.specs.Views.{seen}
use Rattle.fab_reach_base.specs.Gathering.{GroupPath}
use Rattle.fab_reach_base.proofs.Adding.{before_more}
use Rattle.fab_reach_base.proofs.Gathering.{not_served, pair_added}
use Rattle.fab_reach_base.proofs.listing.add_pair_of.Goals as goal

pub returns-in_default-groups : goal.returns-in_default-groups
returns-in_default-groups g c =
    not_served (seen c.args.view.now) (option_copied c.args.groups) c.args.host.now c.requires.groups c.args.p.now c.args.q.now c.requires.p c.requires.q c.requires.host (Has c.args.paths.now) (ap option_copied c.in_default-groups.is)

pub loop-name-preserved : goal.loop-name-preserved
loop-name-preserved g c =
    let i = c.loop-name.invariant in (
      i.0 ++ c.in-Some-name.name.now ∷ [],
      walked c.into_iter-name-iterator.result i.0 c.loop-name.name-iterator c.next.new.self c.in-Some-name.name.now i.1 c.in-Some-name.ensures.steps,
      before_more (GroupPath (seen c.args.view.now).config.mapping c.in-Some.fabric c.args.p.now.name c.args.q.now.name) i.0 c.in-Some-name.name.now (Has c.args.paths.now) (Has c.loop-name.paths) (Has c.add_group.new.paths) i.2
          (subst (λ (m : MappingRows). Adds (GroupPath m c.in-Some.fabric c.args.p.now.name c.args.q.now.name c.in-Some-name.name.now) (Has c.loop-name.paths) (Has c.add_group.new.paths)) c.mapping.ensures c.in_ok-add_group.ensures),
    )

pub returns : goal.returns
returns g c =
    let i = c.loop-name.invariant in
    pair_added (seen c.args.view.now) (option_copied c.args.groups) c.args.host.now c.requires.groups c.args.p.now c.args.q.now c.requires.p c.requires.q c.requires.host c.in-Some.fabric c.in-Some-groups.groups.now i.0 (Has c.args.paths.now) (Has c.loop-name.paths)
    c.in-Some.ensures (ap option_copied c.in-Some-groups.is) (walk_end c.into_iter-name-iterator.result i.0 c.loop-name.name-iterator i.1 c.in-None.ensures.steps.0 ∙ c.into_iter-name-iterator.ensures.into_iter_gives.0) i.2

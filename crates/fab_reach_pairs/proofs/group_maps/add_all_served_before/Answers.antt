use Rattle.std.proofs.Common.{◌∷◌, [], ◌++◌, ◌∙◌, refl}
use Rattle.fab_lemmas.proofs.Walks.{walked, walk_end}
use Rattle.fab_names.specs.Orders.{name_cmp}
use Rattle.fab_zoning.specs.Edits.{IsIn}
use Rattle.fab_reach_base.specs.Views.{seen}
use Rattle.fab_reach_base.proofs.Adding.{before_none, before_more}
use Rattle.fab_reach_pairs.proofs.GroupsGathered.{OfServed, all_served}
use Rattle.fab_reach_pairs.proofs.group_maps.add_all_served_before.Goals as goal

pub loop-name-init : goal.loop-name-init
loop-name-init g c = ([], refl, before_none (OfServed (seen c.args.before.now)) (IsIn name_cmp name_cmp c.args.groups.now))

pub loop-name-preserved : goal.loop-name-preserved
loop-name-preserved g c =
    let i = c.loop-name.invariant in (
      i.0 ++ c.in-Some.name.now ∷ [],
      walked c.into_iter-name-iterator.result i.0 c.loop-name.name-iterator c.next.new.self c.in-Some.name.now i.1 c.in-Some.ensures.steps,
      before_more (OfServed (seen c.args.before.now)) i.0 c.in-Some.name.now (IsIn name_cmp name_cmp c.args.groups.now) (IsIn name_cmp name_cmp c.loop-name.groups) (IsIn name_cmp name_cmp c.add_served_before.new.groups) i.2 c.in_ok-add_served_before.ensures,
    )

pub returns : goal.returns
returns g c =
    let i = c.loop-name.invariant in
    all_served (seen c.args.before.now) c.args.names.now i.0 (IsIn name_cmp name_cmp c.args.groups.now) (IsIn name_cmp name_cmp c.loop-name.groups)
    (walk_end c.into_iter-name-iterator.result i.0 c.loop-name.name-iterator i.1 c.in-None.ensures.steps.0 ∙ c.into_iter-name-iterator.ensures.into_iter_gives.0) i.2

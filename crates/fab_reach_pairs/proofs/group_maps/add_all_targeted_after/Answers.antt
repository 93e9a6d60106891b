use Rattle.std.proofs.Common.{◌∷◌, [], ◌++◌, ◌∙◌, refl}
use Rattle.std.specs.Ordering.{nat_cmp}
use Rattle.fab_lemmas.proofs.Walks.{walked, walk_end}
use Rattle.fab_names.specs.Orders.{name_cmp}
use Rattle.fab_zoning.specs.Edits.{IsIn}
use Rattle.fab_reach_base.proofs.Adding.{before_none, before_more}
use Rattle.fab_reach_pairs.proofs.GroupsGathered.{OfTargeted, all_targeted}
use Rattle.fab_reach_pairs.proofs.group_maps.add_all_targeted_after.Goals as goal

pub loop-name-init : goal.loop-name-init
loop-name-init g c = ([], refl, λ v t. before_none (OfTargeted v) (IsIn nat_cmp name_cmp c.args.groups.now))

pub loop-name-preserved : goal.loop-name-preserved
loop-name-preserved g c =
    let i = c.loop-name.invariant in (
      i.0 ++ c.in-Some.name.now ∷ [],
      walked c.into_iter-name-iterator.result i.0 c.loop-name.name-iterator c.next.new.self c.in-Some.name.now i.1 c.in-Some.ensures.steps,
      λ v t. before_more (OfTargeted v) i.0 c.in-Some.name.now (IsIn nat_cmp name_cmp c.args.groups.now) (IsIn nat_cmp name_cmp c.loop-name.groups) (IsIn nat_cmp name_cmp c.add_targeted_after.new.groups) (i.2 v t) (c.in_ok-add_targeted_after.ensures v t),
    )

pub returns : goal.returns
returns g c v t =
    let i = c.loop-name.invariant in
    all_targeted v c.args.names.now i.0 (IsIn nat_cmp name_cmp c.args.groups.now) (IsIn nat_cmp name_cmp c.loop-name.groups)
    (walk_end c.into_iter-name-iterator.result i.0 c.loop-name.name-iterator i.1 c.in-None.ensures.steps.0 ∙ c.into_iter-name-iterator.ensures.into_iter_gives.0) (i.2 v t)

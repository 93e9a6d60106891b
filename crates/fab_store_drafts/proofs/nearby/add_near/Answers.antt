use Rattle.std.proofs.Common.{◌∷◌, [], ◌++◌, sym, ap, ◌∙◌}
use Rattle.std.specs.BTreeSet.{contains}
use Rattle.std.specs.FinSet as set
use Rattle.std.specs.Map.Iter.{deref}
use Rattle.std.proofs.lemmas.Map.Iter.{rest_more, rest_all}
use Rattle.fab_reach_base.proofs.fab_lemmas.Adding.{before_none, before_more}
use Rattle.fab_reach_base.proofs.fab_lemmas.Walks.{walked, walk_end}
use Rattle.fab_reach_base.specs.fab_names.Orders.{name_cmp}
use Rattle.fab_store_drafts.specs.Inner.Nearby.{SharesHostOf}
use Rattle.fab_store_drafts.proofs.Gathering.{before_seen}
use Rattle.fab_store_drafts.proofs.nearby.add_near.Goals as goal

pub loop-name-init : goal.loop-name-init
loop-name-init g c = (c.host_groups-name-items.result, c.host_groups-name-items.ensures.host_groups, [], sym c.into_iter-name-iterator.ensures.into_iter_gives, before_none (SharesHostOf c.args.mapping.now c.args.users.now) (contains name_cmp c.args.near.now))

pub loop-name-preserved : goal.loop-name-preserved
loop-name-preserved g c =
    let i = c.loop-name.invariant in (
      i.0,
      i.1,
      i.2 ++ c.in-Some.name.now ∷ [],
      walked i.0 i.2 c.loop-name.name-iterator c.next.new.self c.in-Some.name.now i.3 (rest_more deref c.loop-name.name-iterator c.next.new.self c.next.result c.in-Some.name c.in-Some.is c.next.ensures.steps),
      before_more (SharesHostOf c.args.mapping.now c.args.users.now) i.2 c.in-Some.name.now (contains name_cmp c.args.near.now) (contains name_cmp c.loop-name.near) (contains name_cmp c.add_sharing_of.new.near) i.4 c.in_ok-add_sharing_of.ensures,
    )

pub returns : goal.returns
returns g c =
    let i = c.loop-name.invariant in
    before_seen (SharesHostOf c.args.mapping.now c.args.users.now) c.args.group.now.host_groups i.2 (contains name_cmp c.args.near.now) (contains name_cmp c.loop-name.near)
    (ap set.from_list (walk_end i.0 i.2 c.loop-name.name-iterator i.3 (rest_all deref c.loop-name.name-iterator c.next.new.self c.next.result c.in-None.is c.next.ensures.steps)) ∙ i.1) i.4

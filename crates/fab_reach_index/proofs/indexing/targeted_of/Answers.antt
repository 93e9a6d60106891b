use Rattle.std.proofs.Common.{sym, ap, ◌∙◌, [], ◌∷◌, ◌++◌}
use Rattle.std.specs.FinMap as map
use Rattle.std.specs.Map.Iter.{deref_pair}
use Rattle.std.proofs.lemmas.Map.Iter.{rest_more, rest_all}
use Rattle.fab_lemmas.proofs.Walks.{walked, walk_end}
use Rattle.fab_zoning.specs.Edits.{IsIn}
use Rattle.fab_reach_base.proofs.Adding.{before_none, before_more}
use Rattle.std.specs.Ordering.{nat_cmp}
use Rattle.fab_names.specs.Orders.{name_cmp}
use Rattle.fab_mapping.specs.Mappings.{MappingRows}
use Rattle.fab_reach_base.specs.Views.{seen}
use Rattle.fab_reach_index.specs.Indexes.{IsTargetOf}
use Rattle.fab_reach_index.specs.Inner.Placing.{ByExposed}
use Rattle.fab_reach_index.proofs.Placed.{tree_is, targeted_all}
use Rattle.fab_reach_index.proofs.indexing.targeted_of.Goals as goal

pub loop-name-init : goal.loop-name-init
loop-name-init g c = (c.new-targeted.result, c.new-targeted.ensures.empty, c.groups-name-items.result, c.groups-name-items.ensures ∙ ap (λ (m : MappingRows). map.entries m.groups) c.mapping-mapping.ensures, [], sym c.into_iter-name-iterator.ensures.into_iter_gives, before_none ByExposed (IsIn nat_cmp name_cmp c.new-targeted.result))

pub loop-name-preserved : goal.loop-name-preserved
loop-name-preserved g c =
    let i = c.loop-name.invariant in (
      i.0,
      i.1,
      i.2,
      i.3,
      i.4 ++ (c.in-Some.name.now, c.in-Some.group.now) ∷ [],
      walked i.2 i.4 c.loop-name.name-iterator c.next.new.self (c.in-Some.name.now, c.in-Some.group.now) i.5 (rest_more deref_pair c.loop-name.name-iterator c.next.new.self c.next.result (c.in-Some.name, c.in-Some.group) c.in-Some.is c.next.ensures.steps),
      before_more ByExposed i.4 (c.in-Some.name.now, c.in-Some.group.now) (IsIn nat_cmp name_cmp i.0) (IsIn nat_cmp name_cmp c.loop-name.targeted) (IsIn nat_cmp name_cmp c.add_exposed.new.targeted) i.6 c.in_ok-add_exposed.ensures,
    )

pub returns : goal.returns
returns g c =
    let i = c.loop-name.invariant in
    let is = walk_end i.2 i.4 c.loop-name.name-iterator i.5 (rest_all deref_pair c.loop-name.name-iterator c.next.new.self c.next.result c.in-None.is c.next.ensures.steps) ∙ i.3 in
    tree_is nat_cmp name_cmp (IsTargetOf (seen c.args.view.now)) i.0 c.loop-name.targeted i.1 (targeted_all (seen c.args.view.now) i.4 is (IsIn nat_cmp name_cmp i.0) (IsIn nat_cmp name_cmp c.loop-name.targeted) i.6)

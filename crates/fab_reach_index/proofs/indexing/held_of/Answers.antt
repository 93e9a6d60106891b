use Rattle.std.proofs.Common.{sym, ◌∙◌, [], ◌∷◌, ◌++◌}
use Rattle.std.specs.Map.Iter.{deref_pair}
use Rattle.std.proofs.lemmas.Map.Iter.{rest_more, rest_all}
use Rattle.fab_lemmas.proofs.Walks.{walked, walk_end}
use Rattle.fab_zoning.specs.Edits.{IsIn}
use Rattle.fab_reach_base.proofs.Adding.{before_none, before_more}
use Rattle.std.specs.Ordering.{nat_cmp}
use Rattle.fab_names.specs.Orders.{name_cmp}
use Rattle.fab_reach_base.specs.Views.{seen}
use Rattle.fab_reach_index.specs.Indexes.{IsHeldBy}
use Rattle.fab_reach_index.specs.Inner.Placing.{ByHolder}
use Rattle.fab_reach_index.proofs.Placed.{tree_is, held_all}
use Rattle.fab_reach_index.proofs.indexing.held_of.Goals as goal

pub loop-name-init : goal.loop-name-init
loop-name-init g c = (c.new-held.result, c.new-held.ensures.empty, c.ports-name-items.result, c.ports-name-items.ensures, [], sym c.into_iter-name-iterator.ensures.into_iter_gives, before_none ByHolder (IsIn name_cmp nat_cmp c.new-held.result))

pub loop-name-preserved : goal.loop-name-preserved
loop-name-preserved g c =
    let i = c.loop-name.invariant in (
      i.0,
      i.1,
      i.2,
      i.3,
      i.4 ++ (c.in-Some.name.now, c.in-Some.known.now) ∷ [],
      walked i.2 i.4 c.loop-name.name-iterator c.next.new.self (c.in-Some.name.now, c.in-Some.known.now) i.5 (rest_more deref_pair c.loop-name.name-iterator c.next.new.self c.next.result (c.in-Some.name, c.in-Some.known) c.in-Some.is c.next.ensures.steps),
      before_more ByHolder i.4 (c.in-Some.name.now, c.in-Some.known.now) (IsIn name_cmp nat_cmp i.0) (IsIn name_cmp nat_cmp c.loop-name.held) (IsIn name_cmp nat_cmp c.add_holder.new.held) i.6 c.in_ok-add_holder.ensures,
    )

pub returns : goal.returns
returns g c =
    let i = c.loop-name.invariant in
    let is = walk_end i.2 i.4 c.loop-name.name-iterator i.5 (rest_all deref_pair c.loop-name.name-iterator c.next.new.self c.next.result c.in-None.is c.next.ensures.steps) ∙ i.3 in
    tree_is name_cmp nat_cmp (IsHeldBy (seen c.args.view.now)) i.0 c.loop-name.held i.1 (held_all (seen c.args.view.now) i.4 (IsIn name_cmp nat_cmp i.0) (IsIn name_cmp nat_cmp c.loop-name.held) is i.6)

use Rattle.std.proofs.Common.{◌≡◌, [], ◌∷◌, ◌++◌, ◌∙◌, refl}
use Rattle.std.specs.BTreeMap.Range.{entries_between}
use Rattle.fab_lemmas.proofs.Walks.{walked, walk_end}
use Rattle.fab_reach_base.specs.Orders.{Has}
use Rattle.fab_reach_base.proofs.Adding.{before_none, before_more}
use Rattle.fab_reach_books.specs.Pairs.{pair_cmp}
use Rattle.fab_reach.specs.Inner.Owned.{IsFromAt}
use Rattle.fab_reach.proofs.OwnRows.{all_from}
use Rattle.fab_reach.proofs.own_rows.add_from.Goals as goal

pub loop-pair-init : goal.loop-pair-init
loop-pair-init g c = ([], refl, before_none (IsFromAt c.args.port) (Has c.args.own.now))

pub loop-pair-preserved : goal.loop-pair-preserved
loop-pair-preserved g c =
    let i = c.loop-pair.invariant in (
      i.0 ++ (c.in-Some.pair.now, c.in-Some.paths.now) ∷ [],
      walked c.into_iter-pair-iterator.result i.0 c.loop-pair.pair-iterator c.next.new.self (c.in-Some.pair.now, c.in-Some.paths.now) i.1 c.in-Some.ensures.steps,
      before_more (IsFromAt c.args.port) i.0 (c.in-Some.pair.now, c.in-Some.paths.now) (Has c.args.own.now) (Has c.loop-pair.own) (Has c.add_if_from.new.own) i.2 c.in_ok-add_if_from.ensures,
    )

pub returns : goal.returns
returns g c =
    let i = c.loop-pair.invariant in
    let all : c.into_iter-pair-iterator.result ≡ entries_between pair_cmp c.start_of.result c.end_of.result c.args.rows.now.entries = cc (c.range-pair-items.ensures.between tt) in
    all_from c.args.port c.args.rows.now c.start_of.result c.end_of.result i.0 (Has c.args.own.now) (Has c.loop-pair.own) c.start_of.ensures c.end_of.ensures c.range-pair-items.ensures.ordered
    (walk_end c.into_iter-pair-iterator.result i.0 c.loop-pair.pair-iterator i.1 c.in-None.ensures.steps.0 ∙ all) i.2

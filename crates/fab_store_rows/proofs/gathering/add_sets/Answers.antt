use Rattle.std.proofs.Common.{◌∷◌, [], ◌++◌, sym}
use Rattle.std.specs.Map.Iter.{deref_pair}
use Rattle.std.specs.Option.{option_copied}
use Rattle.std.proofs.lemmas.Map.Iter.{rest_more, rest_all}
use Rattle.fab_reach_base.proofs.fab_lemmas.Walks.{walked, walk_end}
use Rattle.fab_reach_base.proofs.Adding.{before_none, before_more}
use Rattle.fab_store_rows.specs.Gathering.{Has, Lacking, RowOfSome}
use Rattle.fab_store_rows.proofs.RowsGathered.{lacking_all}
use Rattle.fab_store_rows.proofs.gathering.add_sets.Goals as goal

pub loop-key-init : goal.loop-key-init
loop-key-init g c = ([], sym c.into_iter-key-iterator.ensures.into_iter_gives, before_none (λ e. Lacking (option_copied c.args.without) (RowOfSome (g.M.Maker.row_of c.args.maker.now e.0) e.1.keys)) (Has c.args.rows.now))

pub loop-key-preserved : goal.loop-key-preserved
loop-key-preserved g c =
    let i = c.loop-key.invariant in (
      i.0 ++ (c.in-Some.key.now, c.in-Some.items.now) ∷ [],
      walked c.args.sets i.0 c.loop-key.key-iterator c.next.new.self (c.in-Some.key.now, c.in-Some.items.now) i.1 (rest_more deref_pair c.loop-key.key-iterator c.next.new.self c.next.result (c.in-Some.key, c.in-Some.items) c.in-Some.is c.next.ensures.steps),
      before_more (λ e. Lacking (option_copied c.args.without) (RowOfSome (g.M.Maker.row_of c.args.maker.now e.0) e.1.keys)) i.0 (c.in-Some.key.now, c.in-Some.items.now) (Has c.args.rows.now) (Has c.loop-key.rows) (Has c.add_set_lacking.new.rows) i.2 c.in_ok-add_set_lacking.ensures,
    )

pub returns : goal.returns
returns g c =
    let i = c.loop-key.invariant in
    lacking_all (option_copied c.args.without) (λ e. RowOfSome (g.M.Maker.row_of c.args.maker.now e.0) e.1.keys) i.0 c.args.sets (Has c.args.rows.now) (Has c.loop-key.rows)
    (walk_end c.args.sets i.0 c.loop-key.key-iterator i.1 (rest_all deref_pair c.loop-key.key-iterator c.next.new.self c.next.result c.in-None.is c.next.ensures.steps)) i.2

use Rattle.std.proofs.Common.{◌≡◌, ◌∷◌, [], ◌++◌, sym}
use Rattle.std.specs.Map.Iter.{deref}
use Rattle.std.specs.Option.{option_copied}
use Rattle.std.proofs.lemmas.Map.Iter.{rest_more, rest_all}
use Rattle.fab_reach_base.proofs.fab_lemmas.Walks.{walked, walk_end}
use Rattle.fab_reach_base.proofs.Adding.{before_none, before_more}
use Rattle.fab_store_rows.specs.Gathering.{Has, Lacking}
use Rattle.fab_store_rows.proofs.RowsGathered.{lacking_all, same_row}
use Rattle.fab_store_rows.proofs.gathering.add_set.Goals as goal

pub loop-item-init : goal.loop-item-init
loop-item-init g c = ([], sym c.into_iter-item-iterator.ensures.into_iter_gives, before_none (λ e. Lacking (option_copied c.args.without) (λ r. r ≡ g.M.Maker.row_of c.args.maker.now c.args.key.now e)) (Has c.args.rows.now))

pub loop-item-preserved : goal.loop-item-preserved
loop-item-preserved g c =
    let i = c.loop-item.invariant in (
      i.0 ++ c.in-Some.item.now ∷ [],
      walked c.args.items i.0 c.loop-item.item-iterator c.next.new.self c.in-Some.item.now i.1 (rest_more deref c.loop-item.item-iterator c.next.new.self c.next.result c.in-Some.item c.in-Some.is c.next.ensures.steps),
      before_more (λ e. Lacking (option_copied c.args.without) (λ r. r ≡ g.M.Maker.row_of c.args.maker.now c.args.key.now e)) i.0 c.in-Some.item.now (Has c.args.rows.now) (Has c.loop-item.rows) (Has c.add_row.new.rows) i.2
          (same_row (option_copied c.args.without) c.row.result (g.M.Maker.row_of c.args.maker.now c.args.key.now c.in-Some.item.now) (Has c.loop-item.rows) (Has c.add_row.new.rows) c.row.ensures c.in_ok-add_row.ensures),
    )

pub returns : goal.returns
returns g c =
    let i = c.loop-item.invariant in
    lacking_all (option_copied c.args.without) (λ e r. r ≡ g.M.Maker.row_of c.args.maker.now c.args.key.now e) i.0 c.args.items (Has c.args.rows.now) (Has c.loop-item.rows)
    (walk_end c.args.items i.0 c.loop-item.item-iterator i.1 (rest_all deref c.loop-item.item-iterator c.next.new.self c.next.result c.in-None.is c.next.ensures.steps)) i.2

use Rattle.std.proofs.Common.{List, OnOk, subst}
use Rattle.std.specs.Option.{option_copied}
use Rattle.fab_reach_base.specs.Adding.{Adds}
use Rattle.fab_reach_base.proofs.Adding.{adds_none}
use Rattle.fab_store_rows.specs.Gathering.{Has, Lacking, RowOfSome}
use Rattle.fab_store_rows.proofs.gathering.add_set_lacking.Goals as goal

pub returns-then-are_kept : goal.returns-then-are_kept
returns-then-are_kept g c =
    adds_none (Lacking (option_copied c.args.without) (RowOfSome (g.M.Maker.row_of c.args.maker.now c.args.key.now) c.args.items.now.keys)) (Has c.args.rows.now)
    (λ r w. c.are_kept.ensures c.if-are_kept.true r w.0 w.1)

pub returns : goal.returns
returns g c =
    subst (λ (ks : List g.row.K.Denot). OnOk c.add_set.result (Adds (Lacking (option_copied c.args.without) (RowOfSome (g.M.Maker.row_of c.args.maker.now c.args.key.now) ks)) (Has c.args.rows.now) (Has c.add_set.new.rows))) c.iter.ensures.rest c.add_set.ensures

use Rattle.std.proofs.Common.{Option, None, OnOk, sym, ap, subst}
use Rattle.std.specs.Option.{option_copied}
use Rattle.std.specs.BTreeSet.{BTreeSet}
use Rattle.fab_reach_base.specs.Adding.{Adds}
use Rattle.fab_reach_base.proofs.Adding.{adds_none}
use Rattle.fab_store_rows.specs.Gathering.{Has, Lacking}
use Rattle.fab_store_rows.specs.AtKeys.{RowOfAny}
use Rattle.fab_store_rows.proofs.at_keys.add_named.Goals as goal

pub returns-in-Some : goal.returns-in-Some
returns-in-Some g c =
    subst (λ (o : Option (BTreeSet g.row.K.Denot)). OnOk c.add_set_lacking.result (Adds (Lacking (option_copied c.args.without) (RowOfAny (g.M.Maker.row_of c.args.maker.now c.args.key.now) o)) (Has c.args.rows.now) (Has c.add_set_lacking.new.rows)))
    (sym (ap option_copied c.in-Some.is)) c.add_set_lacking.ensures

pub returns-in-None : goal.returns-in-None
returns-in-None g c =
    subst (λ (o : Option (BTreeSet g.row.K.Denot)). Adds (Lacking (option_copied c.args.without) (RowOfAny (g.M.Maker.row_of c.args.maker.now c.args.key.now) o)) (Has c.args.rows.now) (Has c.args.rows.now))
    (sym (ap option_copied c.in-None.is)) (adds_none (Lacking (option_copied c.args.without) (RowOfAny (g.M.Maker.row_of c.args.maker.now c.args.key.now) None)) (Has c.args.rows.now) (λ r h. h.0))

use Rattle.std.proofs.Common.{List, ◌++◌, ◌∷◌, [], take, sym, ap, ◌∙◌, subst}
use Rattle.std.proofs.lemmas.List.{take_more, take_all}
use Rattle.fab_reach_books.specs.declared.row.Row.{Row}
use Rattle.fab_reach_moves.specs.Inner.Saying.{AreSaid}
use Rattle.fab_reach_moves.proofs.SaidRows.{said_none}
use Rattle.fab_reach_moves.proofs.saying.values_said.Goals as goal

pub loop-row-init : goal.loop-row-init
loop-row-init g c = said_none g.met.K.Ord.total g.met.K.Key.exact g.S.Saying.says c.new-values.result c.new-values.ensures.empty

pub loop-row-preserved : goal.loop-row-preserved
loop-row-preserved g c =
    let rows = c.args.rows.now in
    let i = c.loop-row.row-index in
    subst (λ (xs : List Row). AreSaid g.K.Ord.cmp g.S.Saying.says xs c.put_value.new.values) (ap (λ x. take i rows ++ x ∷ []) c.row-item.is ∙ sym (take_more rows i c.row-item.result c.loop-row-test.true))
    (c.in_ok-put_value.ensures (take i rows) c.loop-row.invariant)

pub returns : goal.returns
returns g c = subst (λ (xs : List Row). AreSaid g.K.Ord.cmp g.S.Saying.says xs c.loop-row.values) (take_all c.loop-row.row-index c.args.rows.now c.loop-row-test.false) c.loop-row.invariant

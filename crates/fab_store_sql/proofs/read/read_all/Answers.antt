use Rattle.std.proofs.Common.{◌∙◌, ap, map, subst}
use Rattle.std.proofs.lemmas.Result.{IfOk-weaker}
use Rattle.sqlite.specs.Held.{state}
use Rattle.fab_store_sql.specs.Trees.{show_of}
use Rattle.fab_store_sql.specs.Reading.{AreShown, IsAny, DoRise}
use Rattle.fab_store_sql.proofs.Showings.{lines_exact, rise_keyed}
use Rattle.fab_store_sql.proofs.Commits.{held_ok}
use Rattle.fab_store_sql.proofs.read.read_all.Goals as goal

pub returns-clause-lines : goal.returns-clause-lines
returns-clause-lines g c clean =
    let trees = (state g.S.Store c.args.conn.now).now.trees in
    let place = g.L.Line.place in
    let shown = subst (λ t. AreShown t IsAny trees c.in_ok-rows.rows.items) c.table.ensures (c.in_ok-rows.ensures.shown clean) in
    IfOk-weaker c.lines_from.result _ _ (λ lines same. lines_exact g.L.Line.row place IsAny trees c.in_ok-rows.rows.items lines.items shown (same ∙ ap (map (show_of place)) c.as_slice-2.ensures.value)) c.lines_from.ensures

pub returns-clause-keyed : goal.returns-clause-keyed
returns-clause-keyed g c clean =
    let trees = (state g.S.Store c.args.conn.now).now.trees in
    let shown = subst (λ t. AreShown t IsAny trees c.in_ok-rows.rows.items) c.table.ensures (c.in_ok-rows.ensures.shown clean) in
    let up = subst DoRise c.as_slice.ensures.value (c.rise.ensures c.if-not-rise.false) in
    held_ok c.lines_from.result (rise_keyed g.L.Line.place trees c.in_ok-rows.rows.items shown up)

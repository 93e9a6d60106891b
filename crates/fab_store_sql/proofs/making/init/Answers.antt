use Rattle.std.proofs.lemmas.Result.{on_ok_weaker}
use Rattle.sqlite.specs.Held.{state}
use Rattle.sqlite.proofs.StateLemmas.{survives_weaker}
use Rattle.fab_store_sql.specs.Trees.{tables_of}
use Rattle.fab_store_sql.proofs.Makings.{new_desk}
use Rattle.fab_store_sql.proofs.making.init.Goals as goal

pub returns-clause-done : goal.returns-clause-done
returns-clause-done g c clean =
    let new = state g.S.Store c.start.new.conn in
    on_ok_weaker c.start.result (λ done. (done.0.is_open, (λ _. done.0.settled), new_desk c.in-Ok.lines (tables_of new.now.trees) c.in-Ok.ensures done.1))
    (c.start.ensures.done clean (c.is_blank.ensures c.if-not-is_blank.false))

pub returns-clause-crash : goal.returns-clause-crash
returns-clause-crash g c =
    survives_weaker (state g.S.Store c.args.conn.now) (state g.S.Store c.start.new.conn) _ _
    (λ clean db left. new_desk c.in-Ok.lines (tables_of db) c.in-Ok.ensures (left (c.is_blank.ensures c.if-not-is_blank.false))) c.start.ensures.crash

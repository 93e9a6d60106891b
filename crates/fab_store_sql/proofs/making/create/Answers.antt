use Rattle.std.proofs.Common.{[], subst, Ok}
use Rattle.sqlite.specs.State.{ExecutesInside}
use Rattle.sqlite.specs.Held.{state}
use Rattle.fab_store_sql.proofs.Creates.{creates}
use Rattle.fab_store_sql.proofs.making.create.Goals as goal

pub returns-clause-made : goal.returns-clause-made
returns-clause-made g c clean has =
    let old = state g.S.Store c.args.tx.now.conn.now in
    let new = state g.S.Store c.execute.new.self.conn.now in
    creates c.args.table old new (Ok c.in_ok-_count._count) has (subst (λ text. ExecutesInside 0 text [] old new (Ok c.in_ok-_count._count)) c.create_text.ensures (c.in_ok-_count.ensures.runs clean has.inside))

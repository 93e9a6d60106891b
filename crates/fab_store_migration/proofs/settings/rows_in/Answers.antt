use Rattle.std.proofs.Common.{[], subst}
use Rattle.sqlite.specs.Held.{state}
use Rattle.sqlite.specs.State.{Shown}
use Rattle.fab_store_migration.proofs.Seen.{settings_shown, settings_same, shown_keeps, failed_keeps}
use Rattle.fab_store_migration.proofs.settings.rows_in.Goals as goal

pub returns-in-Ok-clause-shown : goal.returns-in-Ok-clause-shown
returns-in-Ok-clause-shown g c clean known =
    let old = state g.S.Store c.args.tx.now.conn.now in
    let new = state g.S.Store c.query_all.new.self.conn.now in
    let rows = c.in-Ok.rows.items in
    settings_shown old new rows known (subst (λ text. Shown text [] old new rows) c.select_text.ensures (c.in-Ok.ensures.ok clean))

pub returns-in-Ok-clause-same : goal.returns-in-Ok-clause-same
returns-in-Ok-clause-same g c clean known =
    let old = state g.S.Store c.args.tx.now.conn.now in
    let new = state g.S.Store c.query_all.new.self.conn.now in
    let rows = c.in-Ok.rows.items in
    settings_same old new rows known (subst (λ text. Shown text [] old new rows) c.select_text.ensures (c.in-Ok.ensures.ok clean))

pub returns-in-Ok-clause-kept : goal.returns-in-Ok-clause-kept
returns-in-Ok-clause-kept g c clean inside =
    let old = state g.S.Store c.args.tx.now.conn.now in
    let new = state g.S.Store c.query_all.new.self.conn.now in
    shown_keeps _ [] old new c.in-Ok.rows.items inside (c.in-Ok.ensures.ok clean)

pub returns-in-Err-clause-kept : goal.returns-in-Err-clause-kept
returns-in-Err-clause-kept g c clean inside =
    let old = state g.S.Store c.args.tx.now.conn.now in
    let new = state g.S.Store c.query_all.new.self.conn.now in
    failed_keeps _ [] old new c.in-Err.error (c.in-Err.ensures.err clean)

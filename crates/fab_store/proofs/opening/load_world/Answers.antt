use Rattle.std.proofs.Common.{ap, not, ◌∙◌}
use Rattle.std.proofs.lemmas.Result.{IfOk-weaker, IfErr-weaker}
use Rattle.sqlite.specs.Held.{state}
use Rattle.fab_store_base.specs.Opened as opened
use Rattle.fab_store_sql.proofs.Commits.{held_ok}
use Rattle.fab_store_sql.specs.States.{IsDesk}
use Rattle.fab_store_sql.specs.Trees.{tables_of}
use Rattle.fab_store.proofs.Told.{told_before, looked_before, holds_there, opens_there}
use Rattle.fab_store.proofs.opening.load_world.Goals as goal

pub returns-in-Ok-clause-only : goal.returns-in-Ok-clause-only
returns-in-Ok-clause-only g c =
    let old = state g.S.Store c.args.conn.now in
    let mid = state g.S.Store c.has_old_schema.new.conn in
    looked_before old mid (state g.S.Store c.read_tables.new.conn) c.has_old_schema.ensures.survives c.has_old_schema.ensures.stays c.has_old_schema.ensures.outside c.in-Ok.ensures.only

pub returns-in-Ok-clause-desk : goal.returns-in-Ok-clause-desk
returns-in-Ok-clause-desk g c clean =
    let old = state g.S.Store c.args.conn.now in
    let mid = state g.S.Store c.has_old_schema.new.conn in
    let settled = c.is_autocommit-outside.ensures.settled (c.is_autocommit-outside.ensures.value ∙ ap not c.requires.outside) in
    let are = told_before c.in-Ok.lines old mid (state g.S.Store c.read_tables.new.conn) settled c.has_old_schema.ensures.stays c.in-Ok.ensures.only c.in-Ok.ensures.told clean in
    held_ok {P = IsDesk old.now} c.open_tables.result (record { schema = are.schema; keyed = are.keyed })

pub returns-in-Ok-clause-rows : goal.returns-in-Ok-clause-rows
returns-in-Ok-clause-rows g c clean =
    let old = state g.S.Store c.args.conn.now in
    let mid = state g.S.Store c.has_old_schema.new.conn in
    let settled = c.is_autocommit-outside.ensures.settled (c.is_autocommit-outside.ensures.value ∙ ap not c.requires.outside) in
    let are = told_before c.in-Ok.lines old mid (state g.S.Store c.read_tables.new.conn) settled c.has_old_schema.ensures.stays c.in-Ok.ensures.only c.in-Ok.ensures.told clean in
    IfOk-weaker c.open_tables.result _ _ (λ w holds. holds_there (tables_of old.now.trees) (opened.tables_of c.in-Ok.lines) are.rows w holds) c.open_tables.ensures.rows

pub returns-in-Ok-clause-fault : goal.returns-in-Ok-clause-fault
returns-in-Ok-clause-fault g c clean =
    let old = state g.S.Store c.args.conn.now in
    let mid = state g.S.Store c.has_old_schema.new.conn in
    let settled = c.is_autocommit-outside.ensures.settled (c.is_autocommit-outside.ensures.value ∙ ap not c.requires.outside) in
    let are = told_before c.in-Ok.lines old mid (state g.S.Store c.read_tables.new.conn) settled c.has_old_schema.ensures.stays c.in-Ok.ensures.only c.in-Ok.ensures.told clean in
    IfErr-weaker c.open_tables.result _ _ (λ f none. opens_there (tables_of old.now.trees) (opened.tables_of c.in-Ok.lines) are.rows f none) c.open_tables.ensures.fault

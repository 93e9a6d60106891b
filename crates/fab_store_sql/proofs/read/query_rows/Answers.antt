use Rattle.std.proofs.Common.{[], subst, sym}
use Rattle.sqlite.specs.Given.{IsPlain}
use Rattle.sqlite.specs.Held.{state}
use Rattle.sqlite.specs.Listing.{understood}
use Rattle.sqlite.specs.State.{Shown}
use Rattle.fab_store_sql.specs.Schema.{desk_schema}
use Rattle.fab_store_sql.proofs.Meanings.{selects_is}
use Rattle.fab_store_sql.proofs.Showings.{rows_shown}
use Rattle.fab_store_sql.proofs.Commits.{ok_both}
use Rattle.fab_store_sql.proofs.read.query_rows.Goals as goal

pub returns-clause-shown : goal.returns-clause-shown
returns-clause-shown g c clean =
    let old = state g.S.Store c.args.conn.now in
    let new = state g.S.Store c.ask.new.conn in
    ok_both c.ask.result _ _ (λ rows has shown. rows_shown c.args.table old new rows.items has (subst (λ text. Shown text [] old new rows.items) c.select_text.ensures shown)) c.ask.ensures.schema (c.ask.ensures.shown clean)

pub returns-clause-same : goal.returns-clause-same
returns-clause-same g c clean = c.ask.ensures.same clean (subst (λ text. IsPlain (understood desk_schema text)) (sym c.select_text.ensures) (selects_is c.args.table).1)

pub returns-clause-stays : goal.returns-clause-stays
returns-clause-stays g c clean = c.ask.ensures.stays clean (subst (λ text. IsPlain (understood desk_schema text)) (sym c.select_text.ensures) (selects_is c.args.table).1)

pub returns-clause-survives : goal.returns-clause-survives
returns-clause-survives g c = c.ask.ensures.survives (subst (λ text. IsPlain (understood desk_schema text)) (sym c.select_text.ensures) (selects_is c.args.table).1)

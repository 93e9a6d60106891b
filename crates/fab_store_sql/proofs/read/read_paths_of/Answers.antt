use Rattle.std.proofs.Common.{sym, subst}
use Rattle.std.proofs.lemmas.Result.{IfOk-weaker}
use Rattle.sqlite.specs.Given.{IsPlain}
use Rattle.sqlite.specs.Held.{state}
use Rattle.sqlite.specs.Listing.{understood}
use Rattle.fab_store_load.specs.declared.fault.Table.TheVariants as table
use Rattle.fab_store_tables.specs.Columns.{path_row}
use Rattle.fab_store_sql.specs.Schema.{desk_schema}
use Rattle.fab_store_sql.specs.Reading.{IsOfHost}
use Rattle.fab_store_sql.proofs.Meanings.{paths_is}
use Rattle.fab_store_sql.proofs.Showings.{lines_exact, paths_shown}
use Rattle.fab_store_sql.proofs.read.read_paths_of.Goals as goal

pub stream-requires : goal.stream-requires
stream-requires g c =
    let desk = c.has_tables.ensures c.if-not-has_tables.false in
    record { plain = subst (λ s. IsPlain (understood s c.paths_text.result.now)) (sym desk) (subst (λ text. IsPlain (understood desk_schema text)) (sym c.paths_text.ensures) paths_is.1) }

pub returns-clause-lines : goal.returns-clause-lines
returns-clause-lines g c clean =
    let old = state g.S.Store c.args.conn.now in
    let new = state g.S.Store c.stream.new.conn in
    let desk = c.has_tables.ensures c.if-not-has_tables.false in
    IfOk-weaker c.stream.result _ _ (λ lines streamed.
    let told = rw (c.paths_text.ensures, c.params-to_sql.ensures) at streamed in
    lines_exact path_row table.Paths (IsOfHost c.args.host.now) old.now.trees told.rows lines.items (paths_shown c.args.host.now old new told.rows desk told.shown) told.told) (c.stream.ensures.shown clean)

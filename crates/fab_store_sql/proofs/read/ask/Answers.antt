use Rattle.std.proofs.Common.{subst, sym, inl}
use Rattle.sqlite.specs.Given.{IsPlain}
use Rattle.sqlite.specs.Held.{state}
use Rattle.sqlite.specs.Listing.{understood}
use Rattle.sqlite.specs.Values.{bound}
use Rattle.fab_store_sql.proofs.Showings.{shown_same, failed_same, nothing_kept, stays_from}
use Rattle.fab_store_sql.proofs.read.ask.Goals as goal

pub returns-in-Ok-clause-same : goal.returns-in-Ok-clause-same
returns-in-Ok-clause-same g c clean plain =
    let old = state g.S.Store c.args.conn.now in
    let new = state g.S.Store c.query_all.new.self in
    let here = subst (λ s. IsPlain (understood s c.args.text.now)) (sym (c.has_tables.ensures c.if-not-has_tables.false)) plain in
    shown_same c.args.text.now (bound c.args.params.now) old new c.in-Ok.rows.items here (c.in-Ok.ensures.ok clean)

pub returns-in-Ok-clause-stays : goal.returns-in-Ok-clause-stays
returns-in-Ok-clause-stays g c clean plain =
    let old = state g.S.Store c.args.conn.now in
    let new = state g.S.Store c.query_all.new.self in
    let here = subst (λ s. IsPlain (understood s c.args.text.now)) (sym (c.has_tables.ensures c.if-not-has_tables.false)) plain in
    stays_from old new (inl (shown_same c.args.text.now (bound c.args.params.now) old new c.in-Ok.rows.items here (c.in-Ok.ensures.ok clean)))

pub returns-in-Err-clause-stays : goal.returns-in-Err-clause-stays
returns-in-Err-clause-stays g c clean plain =
    let old = state g.S.Store c.args.conn.now in
    let new = state g.S.Store c.query_all.new.self in
    let here = subst (λ s. IsPlain (understood s c.args.text.now)) (sym (c.has_tables.ensures c.if-not-has_tables.false)) plain in
    stays_from old new (failed_same c.args.text.now (bound c.args.params.now) old new c.in-Err.error here (c.in-Err.ensures.err clean))

pub returns-in-Ok-clause-survives : goal.returns-in-Ok-clause-survives
returns-in-Ok-clause-survives g c plain =
    let old = state g.S.Store c.args.conn.now in
    let new = state g.S.Store c.query_all.new.self in
    let here = subst (λ s. IsPlain (understood s c.args.text.now)) (sym (c.has_tables.ensures c.if-not-has_tables.false)) plain in
    nothing_kept c.args.text.now (bound c.args.params.now) old new here c.query_all.ensures.survives

pub returns-in-Err-clause-survives : goal.returns-in-Err-clause-survives
returns-in-Err-clause-survives g c plain =
    let old = state g.S.Store c.args.conn.now in
    let new = state g.S.Store c.query_all.new.self in
    let here = subst (λ s. IsPlain (understood s c.args.text.now)) (sym (c.has_tables.ensures c.if-not-has_tables.false)) plain in
    nothing_kept c.args.text.now (bound c.args.params.now) old new here c.query_all.ensures.survives

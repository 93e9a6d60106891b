use Rattle.std.proofs.Common.{◌+◌, map, take, sym, subst, arith}
use Rattle.fab_store_tables.specs.Listing.{Adds}
use Rattle.fab_store_tables.proofs.LinesAdded.{adds_none, adds_more, adds_skip}
use Rattle.fab_store_tables.proofs.printing.add_lines.Goals as goal

pub loop-row-init : goal.loop-row-init
loop-row-init g c = adds_none c.args.lines.now.items

pub loop-row-preserved : goal.loop-row-preserved
loop-row-preserved g c =
    let any = g.R.Row.any in
    let rows = c.args.rows.now in
    let i = c.loop-row.row-index in
    let shows = rw c.in-Some.is at c.in_ok-line.ensures in
    subst (λ now. Adds (map any (take (i + 1) rows)) c.args.lines.now.items now) (sym c.in_ok-push.ensures.items) (adds_more any rows i c.row-item.result (omega arith) c.row-item.is c.args.lines.now.items c.loop-row.lines.items c.in-Some.line c.loop-row.invariant shows)

pub loop-row-preserved-in_default : goal.loop-row-preserved-in_default
loop-row-preserved-in_default g c =
    let out = rw c.in_default.is at c.in_ok-line.ensures in
    adds_skip g.R.Row.any c.args.rows.now c.loop-row.row-index c.row-item.result (omega arith) c.row-item.is c.args.lines.now.items c.loop-row.lines.items c.loop-row.invariant out

use Rattle.fab_files.proofs.Told.{told}
use Rattle.fab_files.proofs.reports.report.Goals as goal

pub returns-in_default-put_header : goal.returns-in_default-put_header
returns-in_default-put_header g c =
    let s = g.met.S.Sink.laws in
    (_, told c.args.host.now c.args.paths.now c.in-Ok.counts c.in-Ok.ensures, s.early _ _ _ _ c.in_default-put_header.ensures)

pub returns-in_default-put_volumes : goal.returns-in_default-put_volumes
returns-in_default-put_volumes g c =
    let s = g.met.S.Sink.laws in
    (_, told c.args.host.now c.args.paths.now c.in-Ok.counts c.in-Ok.ensures, s.late _ _ _ _ _ c.in-Ok-put_header.ensures c.in_default-put_volumes.ensures)

pub returns : goal.returns
returns g c =
    let s = g.met.S.Sink.laws in
    (_, told c.args.host.now c.args.paths.now c.in-Ok.counts c.in-Ok.ensures, s.both _ _ _ _ _ c.in-Ok-put_header.ensures c.in-Ok-put_volumes.ensures)

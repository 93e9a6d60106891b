use Rattle.fab_store_tables.proofs.OddLines.{odd_meta}
use Rattle.fab_store_tables.proofs.reading.meta_in.Goals as goal

pub returns-in-Err-clause-err : goal.returns-in-Err-clause-err
returns-in-Err-clause-err g c = odd_meta g.row.A.Denot c.args.lines.now c.as_slice.result.now c.as_slice.ensures.value c.in-Err.fault c.in-Err.ensures.err

use Rattle.fab_store_tables.proofs.OddLines.{odd_plan, odd_approval, odd_undo, odd_path}
use Rattle.fab_store_tables.proofs.reading.records_of.Goals as goal

pub returns-in-Err-clause-err : goal.returns-in-Err-clause-err
returns-in-Err-clause-err g c = odd_plan g.row.A.Denot c.args.lines.now c.as_slice.result.now c.as_slice.ensures.value c.in-Err.fault c.in-Err.ensures.err

pub returns-in-Err-rows_in-clause-err : goal.returns-in-Err-rows_in-clause-err
returns-in-Err-rows_in-clause-err g c = odd_approval g.row.A.Denot c.args.lines.now c.as_slice-2.result.now c.as_slice-2.ensures.value c.in-Err-rows_in.fault c.in-Err-rows_in.ensures.err

pub returns-in-Err-rows_in-2-clause-err : goal.returns-in-Err-rows_in-2-clause-err
returns-in-Err-rows_in-2-clause-err g c = odd_undo g.row.A.Denot c.args.lines.now c.as_slice-3.result.now c.as_slice-3.ensures.value c.in-Err-rows_in-2.fault c.in-Err-rows_in-2.ensures.err

pub returns-in-Err-rows_in-3-clause-err : goal.returns-in-Err-rows_in-3-clause-err
returns-in-Err-rows_in-3-clause-err g c = odd_path g.row.A.Denot c.args.lines.now c.as_slice-4.result.now c.as_slice-4.ensures.value c.in-Err-rows_in-3.fault c.in-Err-rows_in-3.ensures.err

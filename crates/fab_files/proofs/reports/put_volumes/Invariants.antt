use Rattle.fab_wire_streams.proofs.Turns.{Gone}
use Rattle.fab_files.specs.Counting.{entry_lines}
use Rattle.fab_files.proofs.reports.put_volumes.Given as goal

abbrev pub invariant-loop-volume : goal.invariant-loop-volume
invariant-loop-volume g l = Gone g.S.Sink.took l.fn.sink l.sink (entry_lines l.fn.host l.fn.counts.entries) (entry_lines l.fn.host l.volume-iterator)

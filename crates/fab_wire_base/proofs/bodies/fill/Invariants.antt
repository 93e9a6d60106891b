use Rattle.std.proofs.Common.{length, ◌-◌}
use Rattle.fab_wire_streams.specs.Counting.{inner_of, failures_of}
use Rattle.fab_wire_base.proofs.BodyLemmas.{FilledTo}
use Rattle.fab_wire_base.proofs.bodies.fill.Given as goal

abbrev pub invariant-loop-filled : goal.invariant-loop-filled
invariant-loop-filled g l =
    FilledTo (g.R.Read.remaining (inner_of l.fn.reader)) (g.R.Read.remaining (inner_of l.reader)) (failures_of l.fn.reader) (failures_of l.reader) l.buf l.filled

abbrev pub decreases-loop-filled : goal.decreases-loop-filled
decreases-loop-filled g l = length l.initial.buf - l.filled

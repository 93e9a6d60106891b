use Rattle.std.proofs.Common.{length, ◌-◌, ◌≤◌, take}
use Rattle.fab_wire_streams.specs.Counting.{inner_of, failures_of}
use Rattle.fab_wire_base.proofs.HeadLemmas.{ReadTo}
use Rattle.fab_wire_base.proofs.head.read_head.Given as goal

abbrev pub invariant-loop-filled : goal.invariant-loop-filled
invariant-loop-filled g l =
    (l.filled ≤ length l.buf)
    × ReadTo (g.R.Read.remaining (inner_of l.fn.reader)) (g.R.Read.remaining (inner_of l.reader)) (failures_of l.fn.reader) (failures_of l.reader) (take l.filled l.buf)

abbrev pub decreases-loop-filled : goal.decreases-loop-filled
decreases-loop-filled g l = length l.initial.buf - l.filled

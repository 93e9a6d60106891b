use Rattle.std.proofs.Common.{length, ◌-◌, ◌≡◌, ◌≤◌, take}
use Rattle.fab_wire_streams.specs.Escapes.{escapes_json}
use Rattle.fab_wire_streams.proofs.escapes.plain_len.Given as goal

abbrev pub invariant-loop-end : goal.invariant-loop-end
invariant-loop-end l = (l.end ≤ length l.text) × (escapes_json (take l.end l.text) ≡ take l.end l.text)

abbrev pub decreases-loop-end : goal.decreases-loop-end
decreases-loop-end l = length l.text - l.end

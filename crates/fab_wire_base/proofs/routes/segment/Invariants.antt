use Rattle.std.proofs.Common.{◌≡◌, ◌-◌}
use Rattle.fab_wire_base.specs.Segments.{segment_at}
use Rattle.fab_wire_base.proofs.routes.segment.Given as goal

abbrev pub invariant-loop : goal.invariant-loop
invariant-loop l = segment_at (l.slashes - l.counter) l.rest ≡ segment_at l.slashes l.path

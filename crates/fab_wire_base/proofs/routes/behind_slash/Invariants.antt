use Rattle.std.proofs.Common.{◌≡◌, length}
use Rattle.fab_wire_base.specs.Segments.{from_slash_on}
use Rattle.fab_wire_base.proofs.routes.behind_slash.Given as goal

abbrev pub invariant-loop-first : goal.invariant-loop-first
invariant-loop-first l = from_slash_on l.rest ≡ from_slash_on l.path

abbrev pub decreases-loop-first : goal.decreases-loop-first
decreases-loop-first l = length l.rest

use Rattle.std.proofs.Common.{◌≡◌, ◌≤◌, length, ◌-◌, ◌++◌, take, drop}
use Rattle.fab_wire_base.specs.Segments.{to_slash}
use Rattle.fab_wire_base.proofs.routes.before_slash.Given as goal

abbrev pub invariant-loop-end : goal.invariant-loop-end
invariant-loop-end l = (l.end ≤ length l.path) × (to_slash l.path ≡ take l.end l.path ++ to_slash (drop l.end l.path))

abbrev pub decreases-loop-end : goal.decreases-loop-end
decreases-loop-end l = length l.path - l.end

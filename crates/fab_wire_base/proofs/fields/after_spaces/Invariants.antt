use Rattle.std.proofs.Common.{◌≡◌, length}
use Rattle.fab_wire_base.specs.Fields.{skip_spaces}
use Rattle.fab_wire_base.proofs.fields.after_spaces.Given as goal

abbrev pub invariant-loop-first : goal.invariant-loop-first
invariant-loop-first l = skip_spaces l.rest ≡ skip_spaces l.text

abbrev pub decreases-loop-first : goal.decreases-loop-first
decreases-loop-first l = length l.rest

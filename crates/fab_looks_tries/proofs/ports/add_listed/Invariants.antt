use Rattle.std.proofs.Common.{take}
use Rattle.fab_looks_tries.specs.Inner.Gathered.{HasPort}
use Rattle.fab_looks_tries.specs.Ports.{IsListed}
use Rattle.fab_reach_base.specs.Adding.{Adds}
use Rattle.fab_looks_tries.proofs.ports.add_listed.Given as goal

abbrev pub invariant-loop-row : goal.invariant-loop-row
invariant-loop-row g l = Adds (IsListed (take l.row-index l.rows)) (HasPort l.fn.names) (HasPort l.names)

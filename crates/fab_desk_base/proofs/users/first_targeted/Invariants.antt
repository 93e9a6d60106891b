use Rattle.std.proofs.Common.{take, All}
use Rattle.fab_desk_base.specs.UserSearch.{IsUntargeted}
use Rattle.fab_desk_base.proofs.users.first_targeted.Given as goal

abbrev pub invariant-loop-port : goal.invariant-loop-port
invariant-loop-port g l = All (IsUntargeted l.mapping) (take l.port-index l.ports)

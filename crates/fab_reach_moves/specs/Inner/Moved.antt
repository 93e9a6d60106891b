-- What a difference moves, as one value. No public contract of the room names anything of this file.
use Rattle.fab_reach_base.specs.Records.{Records}
use Rattle.fab_reach_moves.specs.Moves.{AreMoved, AreTouched, AreFlagged, flagged_at}
use Rattle.fab_reach_moves.specs.declared.moved.Moved.{Moved}

-- the ports, storage groups and default zones are those that differ
pub record IsMovedBy {A : Type 0} (w v : Records) (m : Moved A) : Type 0 where
  pub ports : AreMoved w v m.ports
  pub groups : AreTouched w v m.groups
  pub flags : AreFlagged w v (flagged_at m.flags)

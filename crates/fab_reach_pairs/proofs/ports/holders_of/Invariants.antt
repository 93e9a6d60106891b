use Rattle.std.proofs.Common.{◌≡◌, ℕ, List, [], ◌++◌}
use Rattle.fab_reach_base.specs.Adding.{Adds}
use Rattle.fab_reach_base.specs.Records.{Records}
use Rattle.fab_reach_base.specs.Views.{seen}
use Rattle.fab_reach_base.proofs.Adding.{Before}
use Rattle.fab_reach_moves.specs.Inner.Telling.{IsTold}
use Rattle.fab_reach_pairs.specs.Owning.{Owners, Owns, IsHeldAfter}
use Rattle.fab_reach_pairs.proofs.ports.holders_of.Given as goal

abbrev pub invariant-loop-port : goal.invariant-loop-port
invariant-loop-port g l =
    (first : Owners) × (first.keys ≡ []) × (before : List ℕ) × (l.ports.keys ≡ before ++ l.port-iterator) × ((v : Records) → IsTold (seen l.before) v l.told → Adds (Before (IsHeldAfter v) before) (Owns first) (Owns l.owners))

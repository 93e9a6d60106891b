use Rattle.std.proofs.Common.{take}
use Rattle.fab_reach_base.specs.Views.{seen}
use Rattle.fab_reach_base.proofs.Adding.{Before}
use Rattle.fab_looks.specs.Inner.Offers.{AreJust, IsLoggedIn}
use Rattle.fab_looks.proofs.finding.logged_in.Given as goal

abbrev pub invariant-loop-name : goal.invariant-loop-name
invariant-loop-name g l = AreJust (Before (IsLoggedIn (seen l.view)) (take l.name-index l.names)) l.ports.items

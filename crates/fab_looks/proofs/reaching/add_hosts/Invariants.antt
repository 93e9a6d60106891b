use Rattle.std.proofs.Common.{◌≡◌, ℕ, List, ◌++◌}
use Rattle.std.specs.BTreeSet.{BTreeSet}
use Rattle.fab_reach_base.specs.Views.{seen}
use Rattle.fab_looks.specs.Inner.Gaining.{AddsReachers}
use Rattle.fab_looks.proofs.ReachersTold.{IsAmong}
use Rattle.fab_looks.proofs.reaching.add_hosts.Given as goal

abbrev pub invariant-loop-host : goal.invariant-loop-host
invariant-loop-host g l = (before : List (List ℕ × BTreeSet ℕ)) × (l.logins.entries ≡ before ++ l.host-iterator) × AddsReachers (IsAmong before) (seen l.view) l.volume l.fn.reachers l.reachers

use Rattle.std.proofs.Common.{◌≡◌, ℕ, List, ◌++◌}
use Rattle.fab_looks.specs.declared.reaching.Counts.{Counts}
use Rattle.fab_looks.specs.Told.{SeesHost}
use Rattle.fab_looks.proofs.Sights.{SeenSoFar}
use Rattle.fab_looks.proofs.seeing.seen_hosts.Given as goal

abbrev pub invariant-loop-host : goal.invariant-loop-host
invariant-loop-host g l = (before : List (List ℕ × Counts)) × (l.reachers.entries ≡ before ++ l.host-iterator) × SeenSoFar (SeesHost l.policy l.world l.id) before l.seen

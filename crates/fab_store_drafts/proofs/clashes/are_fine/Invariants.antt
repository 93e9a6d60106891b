use Rattle.std.proofs.Common.{◌≡◌, ℕ, List, ◌++◌}
use Rattle.fab_store_drafts.specs.Inner.Nearby.{IsFine}
use Rattle.fab_store_drafts.proofs.Gathering.{AllOf}
use Rattle.fab_store_drafts.proofs.clashes.are_fine.Given as goal

abbrev pub invariant-loop-name : goal.invariant-loop-name
invariant-loop-name g l = (before : List (List ℕ)) × (l.names.keys ≡ before ++ l.name-iterator) × AllOf (IsFine l.mapping l.group) before

use Rattle.std.proofs.Common.{◌≡◌, ℕ, List, ◌++◌}
use Rattle.fab_store_drafts.specs.There.{IsClearAt}
use Rattle.fab_store_drafts.proofs.Gathering.{AllOf}
use Rattle.fab_store_drafts.proofs.clashes.are_clear.Given as goal

abbrev pub invariant-loop-name : goal.invariant-loop-name
invariant-loop-name g l = (before : List (List ℕ)) × (l.names.keys ≡ before ++ l.name-iterator) × AllOf (IsClearAt l.config.mapping) before

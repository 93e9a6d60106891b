use Rattle.std.proofs.Common.{◌≡◌, ℕ, List, ◌++◌, true}
use Rattle.std.specs.List.{AllByRecursion}
use Rattle.std.specs.BTreeSet.{BTreeSet, contains}
use Rattle.fab_zoning.proofs.named.first_user.Given as goal

abbrev pub invariant-loop-name : goal.invariant-loop-name
invariant-loop-name g l = (before : List (List ℕ × BTreeSet _)) × (l.sets.entries ≡ before ++ l.name-iterator) × AllByRecursion (λ e. ¬ (contains g.K.Ord.cmp e.1 l.key ≡ true)) before

use Rattle.std.proofs.Common.{◌≡◌, ℕ, List, ◌++◌}
use Rattle.fab_reach_base.specs.Adding.{Adds}
use Rattle.fab_reach_base.proofs.Adding.{Before}
use Rattle.fab_reach_base.specs.Views.{seen}
use Rattle.fab_reach_books.specs.Inner.Sets.{HasPortIn}
use Rattle.fab_reach_pairs.specs.Inner.Offering.{IsLoose}
use Rattle.fab_reach_pairs.proofs.loose.add_loose.Given as goal

abbrev pub invariant-loop-port : goal.invariant-loop-port
invariant-loop-port g l = (before : List ℕ) × (l.initial.port-iterator ≡ before ++ l.port-iterator) × Adds (Before (λ k p. (p ≡ k) × IsLoose (seen l.view) l.fabric p) before) (HasPortIn l.fn.loose) (HasPortIn l.loose)

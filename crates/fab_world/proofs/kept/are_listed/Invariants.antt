use Rattle.std.proofs.Common.{◌≡◌, ℕ, List, ◌++◌, true}
use Rattle.std.specs.BTreeSet.{contains}
use Rattle.fab_reach_base.specs.fab_names.Orders.{name_cmp}
use Rattle.fab_reach_base.proofs.Scanning.{AllSoFar}
use Rattle.fab_world.specs.PlanRecords.{PlanRecord}
use Rattle.fab_world.specs.Plans.{IsActive}
use Rattle.fab_world.proofs.kept.are_listed.Given as goal

abbrev pub invariant-loop-name : goal.invariant-loop-name
invariant-loop-name g l =
    (before : List (List ℕ × PlanRecord)) × (l.plans.entries ≡ before ++ l.name-iterator) × AllSoFar (λ (e : List ℕ × PlanRecord). IsActive e.1 → contains name_cmp l.names e.0 ≡ true) before

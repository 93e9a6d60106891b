use Rattle.std.proofs.Common.{◌≡◌, ℕ, List, ◌++◌}
use Rattle.std.specs.FinSet as set
use Rattle.fab_plans_rows.specs.Inner.Beside.{ServesNoneOf}
use Rattle.fab_plans_rows.proofs.Clearing.{AllOf}
use Rattle.fab_plans_rows.proofs.beside.serve_one.Given as goal

abbrev pub invariant-loop-name : goal.invariant-loop-name
invariant-loop-name g l = (listed : List (List ℕ)) × (set.from_list listed ≡ l.group.host_groups) × (before : List (List ℕ)) × (listed ≡ before ++ l.name-iterator) × AllOf (ServesNoneOf l.mapping l.other) before

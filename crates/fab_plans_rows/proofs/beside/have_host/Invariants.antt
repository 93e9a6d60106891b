use Rattle.std.proofs.Common.{◌≡◌, ℕ, List, ◌++◌, true}
use Rattle.std.specs.FinSet as set
use Rattle.fab_plans_rows.proofs.Clearing.{AllOf}
use Rattle.fab_plans_rows.proofs.beside.have_host.Given as goal

abbrev pub invariant-loop-host : goal.invariant-loop-host
invariant-loop-host g l = (listed : List (List ℕ)) × (set.from_list listed ≡ l.one.hosts) × (before : List (List ℕ)) × (listed ≡ before ++ l.host-iterator) × AllOf (λ n. ¬ (set.contains l.other.hosts n ≡ true)) before

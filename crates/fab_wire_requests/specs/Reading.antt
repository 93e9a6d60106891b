-- The reading of a plan, of which the clause of a private function speaks.
use Rattle.std.specs.Prelude.{ℕ, List}
use Rattle.fab_wire_requests.specs.Meanings.{GivesPlan, IsBadPlanAt}
use Rattle.fab_wire_requests.specs.declared.bodies.PlanRead.{PlanRead}
use Rattle.fab_wire_requests.specs.declared.bodies.PlanRead.TheVariants.{Steps, Bad, Memory}

-- the steps that the body gives, or the line of its first fault, or there was no memory
abbrev pub IsPlanRead : {A : Type 0} → List ℕ → PlanRead A → Type 0
IsPlanRead body (Steps steps) = GivesPlan body steps.items
IsPlanRead body (Bad line) = IsBadPlanAt body line
IsPlanRead body Memory = Unit {0}

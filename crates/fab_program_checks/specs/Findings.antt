-- What is found in the bytes of a file.
use Rattle.std.specs.Prelude.{ℕ, ◌≡◌, ◌⊎◌, List, Result, Ok, Err, IsUtf8}
use Rattle.fab_inventory.specs.declared.port.PortRow.{PortRow}
use Rattle.fab_plans_base.specs.Steps.{PlanStep}
use Rattle.fab_plans_base.specs.Plans.{Spells}
use Rattle.fab_plans_text.specs.Faults.{IsPlanFault}
use Rattle.fab_policy_base.specs.Policies.{PolicyRows}
use Rattle.fab_policy_text.specs.Shapes.{IsMemory}
use Rattle.fab_policy_base.specs.declared.fault.PolicyFault.{PolicyFault}
use Rattle.fab_policy_text.specs.Tables.{SpellsPolicy, HasPolicyFault}
use Rattle.fab_policy_looks.specs.Warnings.{warnings_of}
use Rattle.fab_program_checks.specs.declared.findings.Finding.{Finding}
use Rattle.fab_program_checks.specs.declared.findings.Finding.TheVariants as finding
use Rattle.fab_program_outside.specs.Contents.{IsTooLarge}
use Rattle.fab_program_outside.specs.declared.faults.Fault.{Fault}
use Rattle.fab_program_outside.specs.declared.faults.Fault.TheVariants as fault
use Rattle.fab_wire_requests.specs.PortLists.{ListsPorts, IsFaultAt}

-- what is found in a text, unless there are too many bytes or they are no text
abbrev pub IsTextFinding : (List ℕ → Result Finding Fault → Type 0) → List ℕ → Result Finding Fault → Type 0
IsTextFinding InText bytes came =
    (IsTooLarge bytes × (came ≡ Ok finding.TooLarge)) ⊎ ((¬ IsTooLarge bytes × ¬ IsUtf8 bytes × (came ≡ Ok finding.NoText)) ⊎ (¬ IsTooLarge bytes × IsUtf8 bytes × InText bytes came))

-- the fault is what is found, unless there was no memory
abbrev pub IsFindingOf : PolicyFault → Result Finding Fault → Type 0
IsFindingOf f (Ok (finding.Policy g)) = (g ≡ f) × ¬ IsMemory f
IsFindingOf f (Ok other) = ⊥
IsFindingOf f (Err e) = e ≡ fault.Memory

-- what is worth a look in the policy, unless there was no memory
abbrev pub IsWarnedOf : PolicyRows → Result Finding Fault → Type 0
IsWarnedOf p (Ok (finding.Warned ws)) = ws.items ≡ warnings_of p
IsWarnedOf p (Ok other) = ⊥
IsWarnedOf p (Err e) = e ≡ fault.Memory

-- the text spells a policy, of which this is worth a look, or this fault is in it
abbrev pub IsPolicyFinding : List ℕ → Result Finding Fault → Type 0
IsPolicyFinding text (Ok (finding.Warned ws)) = (p : PolicyRows) × SpellsPolicy text p × (ws.items ≡ warnings_of p)
IsPolicyFinding text (Ok (finding.Policy f)) = HasPolicyFault text f × ((p : PolicyRows) → ¬ SpellsPolicy text p)
IsPolicyFinding text (Ok other) = ⊥
IsPolicyFinding text (Err f) = f ≡ fault.Memory

-- the text spells a plan, or this is its first fault
abbrev pub IsPlanFinding : List ℕ → Result Finding Fault → Type 0
IsPlanFinding text (Ok finding.Sound) = (steps : List PlanStep) × Spells text steps
IsPlanFinding text (Ok (finding.Plan f)) = IsPlanFault text f
IsPlanFinding text (Ok other) = ⊥
IsPlanFinding text (Err f) = f ≡ fault.Memory

-- the bytes list ports, or the record of this number is the first that is faulty
abbrev pub IsListFinding : List ℕ → Result Finding Fault → Type 0
IsListFinding bytes (Ok finding.Sound) = (rows : List PortRow) × ListsPorts bytes rows
IsListFinding bytes (Ok (finding.Record line)) = IsFaultAt bytes line
IsListFinding bytes (Ok other) = ⊥
IsListFinding bytes (Err f) = f ≡ fault.Memory

-- there are too many bytes; or there are not, and this is found in them
abbrev pub IsPortsFinding : List ℕ → Result Finding Fault → Type 0
IsPortsFinding bytes came = (IsTooLarge bytes × (came ≡ Ok finding.TooLarge)) ⊎ (¬ IsTooLarge bytes × IsListFinding bytes came)

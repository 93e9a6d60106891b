use Rattle.std.proofs.Common.{ℕ, List, Result, Ok, Err, sym, subst}
use Rattle.fab_policy_base.specs.Policies.{PolicyRows}
use Rattle.fab_policy_text.specs.Shapes.{IsMemory}
use Rattle.fab_policy_text.specs.Tables.{SpellsPolicy, HasPolicyFault}
use Rattle.fab_policy_base.specs.declared.fault.PolicyFault.{PolicyFault}
use Rattle.fab_program_checks.specs.Findings.{IsFindingOf, IsPolicyFinding, IsWarnedOf}
use Rattle.fab_program_checks.specs.declared.findings.Finding.{Finding}
use Rattle.fab_program_checks.specs.declared.findings.Finding.TheVariants as finding
use Rattle.fab_program_outside.specs.declared.faults.Fault.{Fault}
use Rattle.fab_program_checks.proofs.findings.find_in_policy.Goals as goal

found : (text : List ℕ) (f : PolicyFault) (r : Result Finding Fault) → IsFindingOf f r → (¬ IsMemory f → HasPolicyFault text f) → (¬ IsMemory f → (p : PolicyRows) → ¬ SpellsPolicy text p) → IsPolicyFinding text r
found text f (Ok finding.Sound) h is none = absurd h
found text f (Ok (finding.Warned ws)) h is none = absurd h
found text f (Ok finding.TooLarge) h is none = absurd h
found text f (Ok finding.NoText) h is none = absurd h
found text f (Ok (finding.Policy g)) h is none = (subst (HasPolicyFault text) (sym h.0) (is h.1), none h.1)
found text f (Ok (finding.Plan g)) h is none = absurd h
found text f (Ok (finding.Record n)) h is none = absurd h
found text f (Err e) h is none = h

warned : (text : List ℕ) (p : PolicyRows) (r : Result Finding Fault) → SpellsPolicy text p → IsWarnedOf p r → IsPolicyFinding text r
warned text p (Ok finding.Sound) is h = absurd h
warned text p (Ok (finding.Warned ws)) is h = (p, is, h)
warned text p (Ok finding.TooLarge) is h = absurd h
warned text p (Ok finding.NoText) is h = absurd h
warned text p (Ok (finding.Policy g)) is h = absurd h
warned text p (Ok (finding.Plan g)) is h = absurd h
warned text p (Ok (finding.Record n)) is h = absurd h
warned text p (Err e) is h = h

pub returns-in-Ok : goal.returns-in-Ok
returns-in-Ok c = warned c.args.text.now c.in-Ok.policy c.warned.result c.in-Ok.ensures.ok c.warned.ensures

pub returns-in-Err : goal.returns-in-Err
returns-in-Err c = found c.args.text.now c.in-Err.fault c.finding_of.result c.finding_of.ensures c.in-Err.ensures.fault c.in-Err.ensures.err

-- What explaining a policy comes to.
use Rattle.std.specs.Prelude.{ℕ, ◌≡◌, ◌⊎◌, List, ◌++◌, Option, Some, None, Result, Err, codes}
use Rattle.fab_files_base.specs.declared.printing.End.{End}
use Rattle.fab_files_base.specs.declared.printing.End.TheVariants.{Done, Refused}
use Rattle.fab_files_policy.specs.Findings.{explained_text}
use Rattle.fab_files_policy.specs.Shown.{policy_text}
use Rattle.fab_policy_base.specs.Policies.{PolicyRows}
use Rattle.fab_policy.specs.Verdicts.{IsVerdict}
use Rattle.fab_policy.specs.declared.act.Act.{Act}
use Rattle.fab_policy.specs.declared.act.Verdict.{Verdict}
use Rattle.fab_policy.specs.declared.act.Verdict.TheVariants.{Allowed, Denied}
use Rattle.fab_policy_looks.specs.Findings.{AreFindings}
use Rattle.fab_policy_looks.specs.declared.found.RuleFinding.{RuleFinding}
use Rattle.fab_program_words.specs.declared.words.Deed.{Deed}
use Rattle.fab_program_words.specs.declared.words.Explain.{Explain}
use Rattle.fab_program_words.specs.declared.words.ExplainOf.{ExplainOf}
use Rattle.fab_program_words.specs.declared.words.ExplainOf.TheVariants as of
use Rattle.fab_program_outside.specs.Coming.{After, Then}
use Rattle.fab_program_outside.specs.Contents.{IsPolicyAt}
use Rattle.fab_program_outside.specs.Printing.{Prints}
use Rattle.fab_program_outside.specs.declared.faults.Fault.{Fault}
use Rattle.fab_program_outside.specs.declared.faults.Fault.TheVariants as fault
use Rattle.fab_program_outside.specs.declared.files.Files as files
use Rattle.fab_program_checks.specs.Deeds.{IsActOf, IsCallerNamed}

-- it is done where the act is allowed
abbrev pub end_of_verdict : Verdict → End
end_of_verdict Allowed = Done
end_of_verdict (Denied rule name need) = Refused

-- nobody has the name
unfoldable pub nobody_line : List ℕ → List ℕ
nobody_line name = codes "no caller `" ++ (name ++ codes "`\n")

-- the moment that is given
abbrev pub now_in : ExplainOf → Option ℕ
now_in of.Rules = None
now_in (of.Deed d) = d.now

module _ {W : Type 0} (contents : W → Option (List ℕ)) where
  -- what is found of each rule is printed, and the verdict; or there was no memory
  abbrev pub ExplainsAct : PolicyRows → Act → W → Result (W × End) Fault → Type 0
  ExplainsAct p a writer came =
      (came ≡ Err fault.Memory)
      ⊎ ((found : List RuleFinding) × (v : Verdict) × AreFindings p a 1 p.rules found × IsVerdict p a v × Prints contents writer (explained_text found v) (end_of_verdict v) came)

  -- that of the act that the words tell
  abbrev pub ExplainsOf : PolicyRows → Deed → ℕ → ℕ → W → Result (W × End) Fault → Type 0
  ExplainsOf p d id moment writer came = (came ≡ Err fault.Memory) ⊎ ((a : Act) × IsActOf d id moment a × ExplainsAct p a writer came)

  -- that of a caller of the name; or nobody has it, and that is printed
  abbrev pub ExplainsAs : PolicyRows → Deed → Option ℕ → ℕ → W → Result (W × End) Fault → Type 0
  ExplainsAs p d None moment writer came = Prints contents writer (nobody_line d.caller) Refused came
  ExplainsAs p d (Some id) moment writer came = ExplainsOf p d id moment writer came

  abbrev pub ExplainsDeed : PolicyRows → Deed → ℕ → W → Result (W × End) Fault → Type 0
  ExplainsDeed p d moment writer came = (caller : Option ℕ) × IsCallerNamed p d.caller caller × ExplainsAs p d caller moment writer came

  -- the policy is printed without its tokens; or there is a moment, and the command is explained
  abbrev pub ExplainsUnder : PolicyRows → ExplainOf → Result ℕ Fault → W → Result (W × End) Fault → Type 0
  ExplainsUnder p of.Rules moment writer came = Prints contents writer (policy_text p) Done came
  ExplainsUnder p (of.Deed d) moment writer came = After moment (λ m. ExplainsDeed p d m writer) came

module _ {O F W : Type 0} (f : files.Ghosts O F) (known : F → Option (List ℕ)) (contents : W → Option (List ℕ)) where
  abbrev pub ExplainComes : O → Explain → Result ℕ Fault → W → Result (W × End) Fault → Type 0
  ExplainComes outside asked moment writer came = Then (IsPolicyAt known (f.opens outside asked.policy.now)) (λ p. ExplainsUnder contents p asked.of moment writer) came

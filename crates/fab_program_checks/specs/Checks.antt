-- What a check of a file comes to.
use Rattle.std.specs.Prelude.{ℕ, ◌≡◌, ◌⊎◌, List, Option, None, Result, Err}
use Rattle.fab_files_base.specs.declared.printing.End.{End}
use Rattle.fab_files_base.specs.declared.printing.End.TheVariants.{Done, Refused}
use Rattle.fab_program_checks.specs.Findings.{IsPlanFinding, IsPolicyFinding, IsPortsFinding, IsTextFinding}
use Rattle.fab_program_checks.specs.Lines.{finding_text}
use Rattle.fab_program_checks.specs.declared.findings.Finding.{Finding}
use Rattle.fab_program_checks.specs.declared.findings.Finding.TheVariants as finding
use Rattle.fab_program_checks.specs.declared.modes.Modes as modes
use Rattle.fab_program_words.specs.declared.words.Check.{Check}
use Rattle.fab_program_words.specs.declared.words.Check.TheVariants as check
use Rattle.fab_program_outside.specs.Coming.{Then}
use Rattle.fab_program_outside.specs.Contents.{HasContent, IsUnread}
use Rattle.fab_program_outside.specs.Printing.{Prints}
use Rattle.fab_program_outside.specs.declared.faults.Fault.{Fault}
use Rattle.fab_program_outside.specs.declared.files.Files as files

abbrev pub path_in : Check → List ℕ
path_in (check.Policy path) = path.now
path_in (check.Plan path) = path.now
path_in (check.Ports path) = path.now

-- what is found in the bytes, as those of a file of its kind
abbrev pub IsFindingAs : Check → List ℕ → Result Finding Fault → Type 0
IsFindingAs (check.Policy path) bytes came = IsTextFinding IsPolicyFinding bytes came
IsFindingAs (check.Plan path) bytes came = IsTextFinding IsPlanFinding bytes came
IsFindingAs (check.Ports path) bytes came = IsPortsFinding bytes came

-- it is done where nothing is wrong, whatever is worth a look
abbrev pub end_of_finding : Finding → End
end_of_finding finding.Sound = Done
end_of_finding (finding.Warned ws) = Done
end_of_finding other = Refused

module _ {O : Type 0} (m : modes.Ghosts O) where
  -- the mode of a policy's file, if it is told; that of others is not asked for
  abbrev pub HasModeOf : O → Check → Option ℕ → Type 0
  HasModeOf outside (check.Policy path) mode = m.has_mode outside path.now mode
  HasModeOf outside other mode = mode ≡ None

module _ {O W : Type 0} (m : modes.Ghosts O) (contents : W → Option (List ℕ)) where
  -- what is found in the bytes is printed, and what the mode says
  abbrev pub ChecksBytes : O → Check → List ℕ → W → Result (W × End) Fault → Type 0
  ChecksBytes outside asked bytes writer came =
      (mode : Option ℕ) × HasModeOf m outside asked mode
      × Then (IsFindingAs asked bytes) (λ f. Prints contents writer (finding_text (path_in asked) f mode) (end_of_finding f)) came

module _ {O F W : Type 0} (f : files.Ghosts O F) (known : F → Option (List ℕ)) (m : modes.Ghosts O) (contents : W → Option (List ℕ)) where
  -- the file is not read; or its bytes are checked
  abbrev pub CheckComes : O → Check → W → Result (W × End) Fault → Type 0
  CheckComes outside asked writer came =
      ((fault : Fault) × IsUnread (f.opens outside (path_in asked)) fault × (came ≡ Err fault))
      ⊎ ((bytes : List ℕ) × HasContent known (f.opens outside (path_in asked)) bytes × ChecksBytes m contents outside asked bytes writer came)

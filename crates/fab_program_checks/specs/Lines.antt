-- The lines that tell what is found in a file.
use Rattle.std.specs.Prelude.{ℕ, zero, suc, List, [], ◌∷◌, ◌++◌, Option, codes, decimal}
use Rattle.fab_plans_text.specs.declared.fault.PlanFault.{PlanFault}
use Rattle.fab_plans_text.specs.declared.fault.PlanFaultKind.{PlanFaultKind}
use Rattle.fab_plans_text.specs.declared.fault.PlanFaultKind.TheVariants as kind
use Rattle.fab_policy_base.specs.Told.{fault_text}
use Rattle.fab_program_checks.specs.Notes.{mode_line, warning_lines, warnings_in}
use Rattle.fab_program_checks.specs.declared.findings.Finding.{Finding}
use Rattle.fab_program_checks.specs.declared.findings.Finding.TheVariants as finding

-- what is wrong with a line of a plan, or with the whole text
unfoldable pub plan_words : PlanFaultKind → List ℕ
plan_words kind.Text = codes "the text is longer than 65536 bytes"
plan_words kind.Empty = codes "there is no line"
plan_words kind.Steps = codes "there are more than 200 lines"
plan_words kind.Word = codes "the first word begins no step"
plan_words kind.Count = codes "too many words, or too few, stand behind the first"
plan_words kind.Fabric = codes "a word is no fabric"
plan_words kind.Name = codes "a word is no name"
plan_words kind.Wwn = codes "a word is no world-wide name"
plan_words kind.Number = codes "a word is no number of its range"
plan_words kind.Member = codes "a word is no member"
plan_words kind.Flag = codes "a word is neither permit nor deny"
plan_words kind.Memory = codes "out of memory"

-- a word with a number, a colon and a space
unfoldable pub number_words : List ℕ → ℕ → List ℕ
number_words word number = word ++ (decimal number ++ codes ": ")

-- a quoted word, and what is said of it behind the closing quote
abbrev pub quoted_words : List ℕ → List ℕ → List ℕ
quoted_words word said = codes "`" ++ (word ++ said)

-- behind the number of its line, if it is a line's
abbrev pub words_at : ℕ → List ℕ → List ℕ
words_at zero words = words
words_at (suc n) words = number_words (codes "line ") (suc n) ++ words

abbrev pub plan_fault_words : PlanFault → List ℕ
plan_fault_words f = words_at f.line (plan_words f.kind)

-- the words of what is found
abbrev pub finding_words : Finding → List ℕ
finding_words finding.Sound = codes "sound"
finding_words (finding.Warned ws) = codes "sound"
finding_words finding.TooLarge = codes "longer than 1048576 bytes"
finding_words finding.NoText = codes "no text in UTF-8"
finding_words (finding.Policy f) = fault_text f
finding_words (finding.Plan f) = plan_fault_words f
finding_words (finding.Record line) = number_words (codes "record ") line ++ codes "it is no port's, or the header is another"

-- the path, and what is found there
abbrev pub finding_line : List ℕ → Finding → List ℕ
finding_line path f = (path ++ codes ": ") ++ (finding_words f ++ 10 ∷ [])

-- that line, and behind it what is worth a look
abbrev pub finding_text : List ℕ → Finding → Option ℕ → List ℕ
finding_text path f mode = finding_line path f ++ (warning_lines path (warnings_in f) ++ mode_line path mode)
